-- The year of a day that is passed on has few digits.
use Rattle.std.proofs.Common.{◌≡◌, ◌∙◌, ℤ, FitsSigned, w64, to_z, of_z, to_z-of_z, ap, arith, subst, sym}
use Rattle.jiff_core.specs.Calendar.{IsWithin}
use Rattle.jiff_core.proofs.SignedLemmas.{signed_arith}
use Rattle.vortex_sql_dates.specs.CountedDays.{year_of}
use Rattle.vortex_sql_dates.specs.CountedLaws.{year_small}

pub wider : (z : ℤ) → IsWithin 2_500_000_000 z → IsWithin 3_000_000_000 z
wider z h = (omega (arith, signed_arith, h.0), omega (arith, signed_arith, h.1))

passed_day : (z : ℤ) → IsWithin 2_500_000_000 z → to_z w64 (of_z w64 z) ≡ z
passed_day z h =
    let fits : FitsSigned w64 z = omega (arith, signed_arith, h.0, h.1) in
    to_z-of_z fits

passed : (n y : ℤ) → n ≡ y → IsWithin 10_000_000 y → IsWithin 10_000_000 (to_z w64 (of_z w64 n))
passed n y e h =
    let fits : FitsSigned w64 n = rw e (omega (arith, signed_arith, h.0, h.1)) in
    subst (IsWithin 10_000_000) (sym (to_z-of_z fits ∙ e)) h

pub passed_year : (z n : ℤ) → IsWithin 2_500_000_000 z → n ≡ year_of (to_z w64 (of_z w64 z)) → IsWithin 10_000_000 (to_z w64 (of_z w64 n))
passed_year z n h e =
    passed n (year_of z) (e ∙ ap year_of (passed_day z h)) (year_small z (wider z h))
