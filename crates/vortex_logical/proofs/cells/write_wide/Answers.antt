use Rattle.std.proofs.Common.{refl, subst, sym, to_z-of_z}
use lib.Ieee.{binary64}
use Rattle.vortex_logical.specs.Cells.{IsKey}
use Rattle.vortex_logical.proofs.CellLemmas.{no_key}
use Rattle.vortex_logical.proofs.cells.write_wide.Goals as goal

pub returns-then-not-is_f64_key : goal.returns-then-not-is_f64_key
returns-then-not-is_f64_key c = (
  λ h.
      no_key binary64 _ c.is_f64_key.result c.is_f64_key.ensures c.if-not-is_f64_key.true
      (subst (IsKey binary64) (sym (to_z-of_z c.ranges.key)) h),
  refl,
)
