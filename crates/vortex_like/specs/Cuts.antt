-- A pattern that is cut before its first special character.
use Rattle.std.specs.Prelude.{◌≡◌, ◌||◌, ◌==◌, ℕ, Bool, true, false, List, [], ◌∷◌, ◌++◌}
use Rattle.std.specs.Prelude.{IsUtf8, Option}
use Rattle.std.specs.List.{list_any}
use Rattle.std.specs.Str.{chars}
use Rattle.vortex_like.specs.Tokens.{percent, underscore, is_escape}
use Rattle.vortex_like.specs.declared.cuts.Cut.{Cut}

-- a wildcard, or the escape
abbrev pub is_special : Option ℕ → ℕ → Bool
is_special escape c = is_escape escape c || (c == percent || c == underscore)

-- nothing, or a text that begins with a special character
abbrev pub StartsSpecial : Option ℕ → List ℕ → Type 0
StartsSpecial escape [] = Unit {0}
StartsSpecial escape (c ∷ rest) = is_special escape c ≡ true

-- the rest of a pattern, after a text with no special character
pub record IsPassed (escape : Option ℕ) (pattern rest : List ℕ) : Type 0 where
  pub front : List ℕ
  pub utf8 : IsUtf8 front
  pub split : pattern ≡ front ++ rest
  pub plain : list_any (is_special escape) (chars front) ≡ false

-- cut into a part with no special character and the rest, by their characters
pub record IsCutOf (escape : Option ℕ) (pattern : List ℕ) (cut : Cut) : Type 0 where
  pub split : pattern ≡ chars cut.front.now ++ chars cut.rest.now
  pub plain : list_any (is_special escape) (chars cut.front.now) ≡ false
  pub special : StartsSpecial escape (chars cut.rest.now)
