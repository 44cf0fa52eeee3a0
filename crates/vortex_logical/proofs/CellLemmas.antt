-- What is written of a stored value is read back.
use Rattle.std.proofs.Common.{◌≡◌, ◌∙◌, ℕ, ℤ, pos, negsuc, ◌%◌, ◌<◌, Bool, true, false, T, arith, ap, sym, subst, FitsSigned, w32, List, Some}
use Rattle.std.specs.Option.{option_map}
use Rattle.std.specs.Ordering.{int_cmp, int_eq}
use Rattle.std.specs.declared.cmp.Ordering.TheVariants.{Equal}
use Rattle.std.proofs.lemmas.Int.{ints}
use lib.Ieee.{Format, binary32, binary64, fits, to_bits}
use lib.Ieee.Bits.{of_bits-fits}
use Rattle.jiff_core.proofs.SignedLemmas.{signed_arith, fits_between}
use Rattle.fast_float.specs.Parse.{parse_float}
use Rattle.vortex_logical.specs.declared.kind.Kind.TheVariants.{Plain, Date, Timestamp, Decimal, F64, F32}
use Rattle.vortex_logical.specs.FloatKeys.{key_of_float, float_of_key, sign_weight}
use Rattle.vortex_logical.specs.DateTexts.{IsDated}
use Rattle.vortex_logical.specs.DecimalTexts.{decimal_of_text}
use Rattle.vortex_logical.specs.Cells.{IsKey, key_of_text, CellsAreReadBack}
use Rattle.vortex_logical.proofs.DateLemmas.{dated_between, dates_are_read_back}
use Rattle.vortex_logical.proofs.DecimalReadBack.{decimals_are_read_back}
use Rattle.vortex_logical.proofs.TimestampLemmas.{timestamps_are_read_back}
use Rattle.vortex_logical.proofs.FloatKeyOrder.{key_of, keyed, keys_are_ordered, keys_are_read_back}

pub day_fits : (z : ℤ) → IsDated z → FitsSigned w32 z
day_fits z h =
    let b = dated_between z h in
    fits_between w32 z (omega (arith, signed_arith, b.0, b.1), omega (arith, signed_arith, b.0, b.1))

keyed_fits : (s : Bool) (n : ℕ) → n < 2147483648 → FitsSigned w32 (keyed s n)
keyed_fits true n h = record { sfits = omega (arith, signed_arith, ints, h) }
keyed_fits false n h = record { sfits = omega (arith, signed_arith, ints, h) }

pub key_fits : (z : ℤ) → IsKey binary32 z → FitsSigned w32 z
key_fits z h =
    subst (FitsSigned w32) (sym (h.2 ∙ key_of binary32 h.0 h.1))
    (keyed_fits _ (to_bits binary32 h.0 % sign_weight binary32) (omega arith))

pub equal_is : (u v : ℤ) → int_cmp u v ≡ Equal → u ≡ v
equal_is u v e = grind (arith, ints, e)

pub float_fits : (f : Format) (z : ℤ) → T (fits f (float_of_key f z))
float_fits f (pos n) = of_bits-fits f n
float_fits f (negsuc n) = of_bits-fits f _

pub key_back : (f : Format) (z : ℤ) → IsKey f z → key_of_float f (float_of_key f z) ≡ z
key_back f z h =
    let x = h.0 in
    let y = float_of_key f (key_of_float f x) in
    ap (λ k. key_of_float f (float_of_key f k)) h.2
    ∙ equal_is (key_of_float f y) (key_of_float f x)
    (keys_are_ordered f y x (float_fits f (key_of_float f x)) h.1 ∙ keys_are_read_back f x h.1)
    ∙ sym h.2

same_integer : (y z : ℤ) → y ≡ z → int_eq y z ≡ true
same_integer y z e = grind (arith, ints, e)

-- an integer that is not the key of its float is none
pub no_key : (f : Format) (z : ℤ) (b : Bool) → b ≡ int_eq (key_of_float f (float_of_key f z)) z → b ≡ false → ¬ IsKey f z
no_key f z b e n h =
    let is : b ≡ true = e ∙ same_integer (key_of_float f (float_of_key f z)) z (key_back f z h) in
    cc

float_back : (f : Format) (z : ℤ) (text : List ℕ) → IsKey f z → parse_float f text ≡ Some (float_of_key f z)
    → key_of_text f text ≡ Some z
float_back f z text h e = ap (option_map (λ x. key_of_float f x)) e ∙ ap (λ k. Some k) (key_back f z h)

pub cells_are_read_back : CellsAreReadBack
cells_are_read_back Plain z text d h e = absurd h
cells_are_read_back Date z text d h e = dates_are_read_back z text e
cells_are_read_back Timestamp z text d h e = timestamps_are_read_back z text e
cells_are_read_back (Decimal p) z text d h e = ap (decimal_of_text p) e ∙ decimals_are_read_back p d z h
cells_are_read_back F64 z text d h e = float_back binary64 z text h e
cells_are_read_back F32 z text d h e = float_back binary32 z text h e
