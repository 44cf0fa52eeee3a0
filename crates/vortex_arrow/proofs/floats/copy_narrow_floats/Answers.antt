use Rattle.std.proofs.Common.{◌∙◌, ap, drop, take, map, ◌++◌}
use Rattle.vortex_types.specs.declared.dtype.PType.TheVariants.{I32}
use Rattle.vortex_arrow.specs.Floats.{narrow_pattern}
use Rattle.vortex_arrow.proofs.Floated.{changed_rows}
use Rattle.vortex_arrow.proofs.floats.copy_narrow_floats.Goals as goal

pub returns-clause-copied : goal.returns-clause-copied
returns-clause-copied c =
    let mid = c.copy_integers.new.values in
    let rest = drop c.len.result mid in
    changed_rows I32 narrow_pattern c.args.column.now.rows c.copy_integers.new.validity mid
    (c.make_narrow_patterns.new.values ++ rest) rest c.in_ok-copy_integers.ensures.copied
    (ap (λ zs. zs ++ rest) (c.make_narrow_patterns.ensures
    ∙ ap (λ k. map narrow_pattern (take k mid)) c.len.ensures))
