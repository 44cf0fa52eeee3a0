use Rattle.std.proofs.Common.{◌≡◌, ◌∙◌, ℤ, FitsSigned, w32, w64, to_z, of_z, to_z-of_z, arith, refl, sym, subst, false, true}
use Rattle.jiff_core.specs.Calendar.{IsEpochDay}
use Rattle.jiff_core.proofs.SignedLemmas.{signed_arith}
use Rattle.vortex_logical.proofs.DateLemmas.{before_none, dated_in_range}
use Rattle.vortex_logical.proofs.dates.write_date.Goals as goal

wide_back : (n z : ℤ) → FitsSigned w32 z → n ≡ to_z w32 (of_z w32 z) → to_z w64 (of_z w64 n) ≡ z
wide_back n z h e =
    let same : n ≡ z = e ∙ to_z-of_z h in
    let wide : FitsSigned w64 n = rw same (omega (arith, signed_arith, h)) in
    to_z-of_z wide ∙ same

pub returns-in_default : goal.returns-in_default
returns-in_default c =
    let same = c.in-Ok.ensures.value ∙ wide_back c.widened.result c.args.day c.ranges.day c.widened.ensures in
    (before_none c.args.day c.in-Ok.date same (λ h. omega (arith, signed_arith, c.if-date-ge0.false, h)), refl)

pub returns-in_default-2 : goal.returns-in_default-2
returns-in_default-2 c =
    let same = wide_back c.widened.result c.args.day c.ranges.day c.widened.ensures in (
      λ h.
          let e : false ≡ true = c.in_default.ensures.succeeds.1 (subst IsEpochDay (sym same) (dated_in_range c.args.day h)) in
          absurd cc,
      refl,
    )
