use Rattle.std.proofs.Common.{sym, ◌∙◌}
use Rattle.vortex_types.specs.declared.dtype.PType.TheVariants.{I8}
use Rattle.vortex_standard.proofs.Finds.{find_here, find_past, find_end}
use Rattle.vortex_expressions.specs.Meeting.{has_both}
use Rattle.vortex_expressions.proofs.meeting.first_with_both.Goals as goal

pub returns-then-has_both : goal.returns-then-has_both
returns-then-has_both c =
    let here = find_here (has_both c.args.first c.args.second) c.args.types.now
    c.loop-ptype.ptype-index I8 c.loop-ptype-test.true
    (sym c.has_both.ensures ∙ c.if-has_both.true) in
    cc (here, c.loop-ptype.invariant)

pub loop-ptype-preserved : goal.loop-ptype-preserved
loop-ptype-preserved c =
    c.loop-ptype.invariant
    ∙ find_past (has_both c.args.first c.args.second) c.args.types.now c.loop-ptype.ptype-index
    I8 c.loop-ptype-test.true (sym c.has_both.ensures ∙ c.if-has_both.false)

pub returns : goal.returns
returns c =
    let none = find_end (has_both c.args.first c.args.second) c.args.types.now
    c.loop-ptype.ptype-index c.loop-ptype-test.false in
    cc (none, c.loop-ptype.invariant)
