use Rattle.std.proofs.Common.{◌∙◌, ap, drop, take, map, ◌++◌}
use Rattle.vortex_types.specs.declared.dtype.PType.TheVariants.{I64}
use Rattle.vortex_arrow.specs.Floats.{wide_pattern}
use Rattle.vortex_arrow.proofs.Floated.{changed_rows}
use Rattle.vortex_arrow.proofs.floats.copy_wide_floats.Goals as goal

pub returns-clause-copied : goal.returns-clause-copied
returns-clause-copied c =
    let mid = c.copy_integers.new.values in
    let rest = drop c.len.result mid in
    changed_rows I64 wide_pattern c.args.column.now.rows c.copy_integers.new.validity mid
    (c.make_wide_patterns.new.values ++ rest) rest c.in_ok-copy_integers.ensures.copied
    (ap (λ zs. zs ++ rest) (c.make_wide_patterns.ensures
    ∙ ap (λ k. map wide_pattern (take k mid)) c.len.ensures))
