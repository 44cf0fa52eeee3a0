-- Bytes that are an integer are a text.
use Rattle.std.proofs.Common.{tests, ◌≡◌, ℕ, zero, suc, ◌==◌, Bool, true, false, Option, Some, None}
use Rattle.std.proofs.Common.{List, [], ◌∷◌, ℤ, pos, refl, arith, ◌<◌}
use Rattle.std.proofs.Common.{if◌then◌else◌}
use Rattle.std.specs.Prelude.{option_map, is_some, IsUtf8}
use Rattle.std.specs.List.{list_all}
use Rattle.std.specs.Char.{is_ascii_digit}
use Rattle.std.specs.Str.{IsAscii}
use Rattle.std.proofs.lemmas.Bool.{and_parts}
use Rattle.std.proofs.lemmas.Str.{IsUtf8-from_ascii}
use Rattle.vortex_cells.specs.CellValues.{digits_of, negative, integer_of}
use Rattle.vortex_cells.proofs.Numbers.{are_digits}

digit_below : (b : ℕ) → is_ascii_digit b ≡ true → b < 128
digit_below b h = grind (arith, tests)

digits_ascii : (bs : List ℕ) → list_all is_ascii_digit bs ≡ true → IsAscii bs
digits_ascii [] h i = omega arith
digits_ascii (b ∷ bs) h zero =
    digit_below b (and_parts (is_ascii_digit b) (list_all is_ascii_digit bs) h).0
digits_ascii (b ∷ bs) h (suc i) =
    digits_ascii bs (and_parts (is_ascii_digit b) (list_all is_ascii_digit bs) h).1 i

some_of : {A B : Type 0} (f : A → B) (o : Option A) (y : B) → option_map f o ≡ Some y
    → is_some o ≡ true
some_of f None y e = cc
some_of f (Some x) y e = refl

integer_ascii : (bs : List ℕ) (z : ℤ) → integer_of bs ≡ Some z → IsAscii bs
integer_ascii [] z e = cc
integer_ascii (b ∷ bs) z e = by (b == 45) refl e
  where
    behind_minus : b < 128 → IsAscii bs → IsAscii (b ∷ bs)
    behind_minus first rest zero = first
    behind_minus first rest (suc i) = rest i

    by : (c : Bool) → (b == 45) ≡ c
        → (if c then option_map negative (digits_of bs) else option_map pos (digits_of (b ∷ bs)))
        ≡ Some z
        → IsAscii (b ∷ bs)
    by true minus said =
        behind_minus (grind (arith, tests))
        (digits_ascii bs (are_digits bs (some_of negative (digits_of bs) z said)).all)
    by false other said =
        digits_ascii (b ∷ bs) (are_digits (b ∷ bs) (some_of pos (digits_of (b ∷ bs)) z said)).all

pub integer_text : (bs : List ℕ) (z : ℤ) → integer_of bs ≡ Some z → IsUtf8 bs
integer_text bs z e = IsUtf8-from_ascii bs (integer_ascii bs z e)
