-- The sizes in the name of a type.
use Rattle.std.specs.Prelude.{ℕ, ◌==◌, List, [], ◌∷◌, Option, Some, None, codes, if◌then◌else◌}
use Rattle.std.specs.Prelude.{Bool, ◌&&◌, not}
use Rattle.std.specs.List.{list_any}
use Rattle.std.specs.Option.{option_map}
use Rattle.vortex_syntax.specs.declared.pieces.Run.TheVariants.{Word, Digits, Blank}
use Rattle.vortex_syntax.specs.Pieces.{front, behind, behind_size, behind_sized, is_text_word}

-- the digits of a size, between blanks
abbrev pub size_digits : List ℕ → List ℕ
size_digits bs = front Digits (behind Blank bs)

-- a scale that is left out is 0
abbrev pub scale_digits : List ℕ → List ℕ
scale_digits [] = codes "0"
scale_digits (b ∷ bs) = if b == 44 then size_digits bs else codes "0"

-- precision and scale, after the bracket
abbrev pub digits_in : List ℕ → Option (List ℕ × List ℕ)
digits_in [] = None
digits_in (b ∷ bs) = option_map (λ rest. (size_digits bs, scale_digits rest)) (behind_size bs)

abbrev pub whole_sizes : List ℕ → Option (List ℕ) → Option (List ℕ × List ℕ)
whole_sizes w None = None
whole_sizes w (Some []) = digits_in (behind Word w)
whole_sizes w (Some (b ∷ bs)) = None

abbrev pub all_sizes : List ℕ → Option (List ℕ × List ℕ)
all_sizes w = whole_sizes w (behind_sized w)

abbrev pub is_text_name : List ℕ → Bool
is_text_name w = is_text_word (front Word w)

abbrev pub is_comma : ℕ → Bool
is_comma b = b == 44

-- the digits of precision and scale in a name as `decimal(12, 2)`, and none in other names
abbrev pub sizes_of : List ℕ → Option (List ℕ × List ℕ)
sizes_of w = if is_text_name w then None else all_sizes w

-- the digits of the only size in a name as `varchar(12)`, and none in other names
abbrev pub text_size_of : List ℕ → Option (List ℕ)
text_size_of w =
    if is_text_name w && not (list_any is_comma w) then option_map (λ x. x.0) (all_sizes w)
    else None
