use Rattle.std.proofs.Common.{refl, subst, sym, to_z-of_z}
use lib.Ieee.{binary32}
use Rattle.vortex_logical.specs.Cells.{IsKey}
use Rattle.vortex_logical.proofs.CellLemmas.{no_key}
use Rattle.vortex_logical.proofs.cells.write_short.Goals as goal

pub returns-then-not-is_f32_key : goal.returns-then-not-is_f32_key
returns-then-not-is_f32_key c = (
  λ h.
      no_key binary32 _ c.is_f32_key.result c.is_f32_key.ensures c.if-not-is_f32_key.true
      (subst (IsKey binary32) (sym (to_z-of_z c.ranges.key)) h),
  refl,
)
