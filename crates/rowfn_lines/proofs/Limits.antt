-- The number of steps of digits.
use Rattle.std.proofs.Common.{rules, tests, ◌≡◌, ℕ, zero, suc, ◌<◌, ◌≤◌, ◌^◌, Bool, true, false}
use Rattle.std.proofs.Common.{Option, Some, None, Result, Ok, Err, List, [], ◌∷◌, ℤ, pos, refl, sym}
use Rattle.std.proofs.Common.{ap, subst, ◌∙◌, arith, length, get_or, drop, nat_lt, ◌==◌, ◌&&◌}
use Rattle.std.proofs.Common.{option_map, if◌then◌else◌}
use Rattle.std.specs.Prelude.{is_some, FitsSigned, MatchOption, nat_le}
use Rattle.std.specs.Int.{w128}
use Rattle.std.specs.List.{list_all}
use Rattle.std.specs.Result.{result_ok, OkIff}
use Rattle.std.specs.Char.{is_ascii_digit}
use Rattle.std.specs.Str.Parse.{ParsesSigned, ParsesUnsigned}
use Rattle.std.proofs.lemmas.Str.Parse.{IsNumeralModel, numerals_by_fold, parse_signed_digits}
use Rattle.std.proofs.lemmas.Str.Parse.{parse_digits}
use Rattle.std.proofs.lemmas.Str.Parse.{parse_signed_minus}
use lib.IntN.{neg_ℤ}
use mir.Val.{hbits}
use Rattle.std.proofs.lemmas.Bool.{and_from, and_parts, le-leb}
use Rattle.std.proofs.lemmas.Int.{ints}
use Rattle.std.specs.Int.Signed.{le_z}
use Rattle.std.specs.Option.{option_and_then}
use Rattle.vortex_types.specs.declared.dtype.PType.{PType}
use Rattle.vortex_types.specs.declared.dtype.PType.TheVariants.{I8, I16, I32, I64, U8, U16, U32}
use Rattle.vortex_types.specs.declared.dtype.PType.TheVariants.{U64}
use Rattle.vortex_types.specs.Typing.{least_of, greatest_of, FitsPType}
use Rattle.vortex_types.specs.Values.{number}
use Rattle.vortex_cells.specs.Ranges.{in_range}
use Rattle.vortex_cells.specs.CellValues.{decimal_from, digits_of, negative, integer_of, number_where}
use Rattle.vortex_cells.specs.CellValues.{number_of}
use Rattle.vortex_cells.specs.Cells.{ReadsNumber}
use Rattle.rowfn_lines.specs.Commands.{held_by_64_bits, limit_of}
use Rattle.vortex_cells.proofs.Numbers.{own, AreDigits, no_digits}

-- the result of `parse`, if the text means n
held_read : {E : Type 0} (r : Result ℕ E) (A : Type 0) (n : ℕ) → A → OkIff r (A × (n < 2 ^ 64)) n
    → result_ok r ≡ held_by_64_bits n
held_read {E} r A n a p = by r p (nat_le n 18446744073709551615) refl
  where
    by : (r : Result ℕ E) → OkIff r (A × (n < 2 ^ 64)) n → (b : Bool)
        → nat_le n 18446744073709551615 ≡ b
        → result_ok r ≡ held_by_64_bits n
    by (Ok x) q true e = ap Some q.1 ∙ sym (λ i. if e i then Some n else None)
    by (Ok x) q false e =
        let most = le-leb n 18446744073709551615 (omega (arith, q.0.1)) in cc
    by (Err x) q true e =
        let most : n ≤ 18446744073709551615 = grind (arith, tests) in
        absurd (q (a, omega (arith, most)))
    by (Err x) q false e = sym (λ i. if e i then Some n else None)

pub limit_read : {E : Type 0} (w : List ℕ) (r : Result ℕ E) → AreDigits w → ParsesUnsigned 64 10 w r
    → result_ok r ≡ limit_of w
limit_read w r d h =
    held_read r (0 < length w) (decimal_from 0 w) d.some (parse_digits own 64 w r h d.all)
    ∙ sym (ap (option_and_then held_by_64_bits) d.say)

pub no_limit : (w : List ℕ) → is_some (digits_of w) ≡ false → None ≡ limit_of w
no_limit w h = sym (ap (option_and_then held_by_64_bits) (no_digits w h))
