-- The text of a float: of the decimals next to it the one with the fewest digits that is read back.
use Rattle.std.specs.Prelude.{◌≡◌, ◌+◌, ◌∷◌, ◌++◌, ℕ, zero, suc, ℤ, pos, List, [], Bool, true, false}
use Rattle.std.specs.Prelude.{Option, Some, None, codes, nat_eq, nat_lt, int_lt, unsigned_abs, if◌then◌else◌}
use Rattle.std.specs.Option.{option_or}
use Rattle.std.specs.Ordering.{int_eq}
use Rattle.vortex_logical.specs.Cells.{stored_of_text}
use Rattle.vortex_float_texts.specs.declared.width.Width.{Width}
use Rattle.vortex_float_texts.specs.Candidates.{nearest, other}
use Rattle.vortex_float_texts.specs.Layout.{decimal_text}
use Rattle.vortex_float_texts.specs.Scaled.{exponent, halves_at, power_at, significand}
use Rattle.vortex_float_texts.specs.Widths.{infinity, kind_of, places}

abbrev pub is_number : Option ℤ → ℤ → Bool
is_number None z = false
is_number (Some y) z = int_eq y z

-- the text is read as the stored float
abbrev pub reads_as : Width → List ℕ → ℤ → Bool
reads_as w text z = is_number (stored_of_text (kind_of w) text) z

abbrev pub read_back : Width → ℤ → List ℕ → Option (List ℕ)
read_back w z text = if reads_as w text z then Some text else None

abbrev pub with_sign : ℤ → List ℕ → List ℕ
with_sign z text = if int_lt z (pos 0) then 45 ∷ text else text

abbrev pub word_text : Width → ℤ → List ℕ → Option (List ℕ)
word_text w z word = read_back w z (with_sign z word)

-- the text of a decimal next to the float, if it is read back
abbrev pub candidate : Width → ℤ → ℕ → ℕ → Option (List ℕ)
candidate w z d p = word_text w z (decimal_text w d p)

-- with j digits left out
abbrev pub candidate_at : Width → ℤ → ℕ → ℕ → ℕ → Option (List ℕ)
candidate_at w z h p j =
    option_or (candidate w z (nearest h j) (p + j)) (candidate w z (other h j) (p + j))

-- the first that is read back, from j digits that are left out down to one
unfoldable pub first_from : Width → ℤ → ℕ → ℕ → ℕ → Option (List ℕ)
first_from w z h p zero = None
first_from w z h p (suc j) = option_or (candidate_at w z h p (suc j)) (first_from w z h p j)

abbrev pub digits_text : Width → ℤ → ℕ → Option (List ℕ)
digits_text w z n =
    first_from w z (halves_at (significand w n) (exponent w n)) (power_at (exponent w n)) (places w)

abbrev pub text_of_size : Width → ℤ → ℕ → Option (List ℕ)
text_of_size w z n =
    if nat_eq n 0 then word_text w z (codes "0.0")
    else (if nat_lt n (infinity w) then digits_text w z n
    else (if nat_eq n (infinity w) then word_text w z (codes "inf")
    else word_text w z (codes "NaN")))

-- of the integer that is stored for a float
abbrev pub float_text : Width → ℤ → Option (List ℕ)
float_text w z = text_of_size w z (unsigned_abs z)
