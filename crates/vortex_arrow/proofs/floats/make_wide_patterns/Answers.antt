use Rattle.std.proofs.Common.{◌≡◌, ◌∙◌, ap, arith, get_or, pos, to_z, of_z, w64, rules}
use Rattle.std.specs.Prelude.{FitsSigned}
use Rattle.std.proofs.lemmas.Int.{to_z-of_z}
use Rattle.vortex_arrow.specs.Floats.{wide_pattern}
use Rattle.vortex_arrow.proofs.Cells.{behind_next}
use Rattle.vortex_arrow.proofs.Floated.{same_next, changed_more}
use Rattle.vortex_arrow.proofs.floats.make_wide_patterns.Goals as goal

pub loop-i-preserved : goal.loop-i-preserved
loop-i-preserved c =
    let xs = c.loop-i.values in
    let first = c.args.values.now in
    let i = c.loop-i.i in
    let put = to_z w64 (of_z w64 c.wide_pattern.result) in
    let back : put ≡ c.wide_pattern.result = to_z-of_z w64 c.wide_pattern.result (search rules) in
    let here = same_next xs first i c.loop-i.invariant.behind in
    let fits : FitsSigned w64 (get_or xs i (pos 0)) = search rules in
    let read = to_z-of_z w64 (get_or xs i (pos 0)) fits in
    record {
      changed = changed_more wide_pattern xs first i put (omega arith) (omega arith)
          c.loop-i.invariant.changed (back ∙ c.wide_pattern.ensures ∙ ap wide_pattern (read ∙ here));
      behind = behind_next (λ z. z) xs i put (omega arith) first c.loop-i.invariant.behind;
    }
