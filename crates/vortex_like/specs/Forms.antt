-- The form of a pattern, by its escape and its characters.
use Rattle.std.specs.Prelude.{ℕ, Bool, true, false, not, ◌&&◌, ◌==◌, nat_lt, List, [], ◌∷◌, Option}
use Rattle.std.specs.Prelude.{if◌then◌else◌}
use Rattle.std.specs.List.{list_any, list_all}
use Rattle.vortex_like.specs.Tokens.{percent, is_escape}
use Rattle.vortex_like.specs.Cuts.{is_special}
use Rattle.vortex_like.specs.declared.form.LikeForm.{LikeForm}
use Rattle.vortex_like.specs.declared.form.LikeForm.TheVariants.{Eq, StartsWith, EndsWith, Contains}
use Rattle.vortex_like.specs.declared.form.LikeForm.TheVariants.{IEqAscii, IStartsWithAscii}
use Rattle.vortex_like.specs.declared.form.LikeForm.TheVariants.{IEndsWithAscii, Tokens}

-- a literal part: no `%`, no `_` and no escape
abbrev pub is_literal : Option ℕ → List ℕ → Bool
is_literal escape part = not (list_any (is_special escape) part)

-- a `%` that is not the escape
abbrev pub is_percent : Option ℕ → ℕ → Bool
is_percent escape c = c == percent && not (is_escape escape c)

-- a literal part and `%`
abbrev pub is_literal_then_percent : Option ℕ → List ℕ → Bool
is_literal_then_percent escape [] = false
is_literal_then_percent escape (c ∷ []) = is_percent escape c
is_literal_then_percent escape (c ∷ d ∷ rest) =
    not (is_special escape c) && is_literal_then_percent escape (d ∷ rest)

-- `%` and what passes the test
abbrev pub is_percent_then : (Option ℕ → List ℕ → Bool) → Option ℕ → List ℕ → Bool
is_percent_then test escape [] = false
is_percent_then test escape (c ∷ rest) = is_percent escape c && test escape rest

-- without folding, the first form that fits
abbrev pub plain_form : Option ℕ → List ℕ → LikeForm
plain_form escape pattern =
    if is_literal escape pattern then Eq
    else if is_literal_then_percent escape pattern then StartsWith
    else if is_percent_then is_literal escape pattern then EndsWith
    else if is_percent_then is_literal_then_percent escape pattern then Contains
    else Tokens

-- the same form, ignoring case
abbrev pub folded_form : LikeForm → LikeForm
folded_form Eq = IEqAscii
folded_form StartsWith = IStartsWithAscii
folded_form EndsWith = IEndsWithAscii
folded_form form = Tokens

abbrev pub is_ascii : List ℕ → Bool
is_ascii characters = list_all (λ c. nat_lt c 128) characters

-- with folding, a case-insensitive form if the pattern and each text to match are ASCII
abbrev pub form_of : Option ℕ → List ℕ → Bool → Bool → LikeForm
form_of escape pattern false ascii_haystack = plain_form escape pattern
form_of escape pattern true ascii_haystack =
    if ascii_haystack && is_ascii pattern then folded_form (plain_form escape pattern) else Tokens
