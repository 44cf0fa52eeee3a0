use Rattle.std.proofs.Common.{arith, length}
use Rattle.vortex_sql_characters.proofs.Counts.{same_after, same_first}
use Rattle.vortex_sql_characters.proofs.parts.count_in.Goals as goal

pub returns-else-count-text-clause-first : goal.returns-else-count-text-clause-first
returns-else-count-text-clause-first c =
    let n = length c.args.text.now in
    same_first n c.args.count c.args.text.now c.utf8.text (omega arith)
    (omega (arith, c.if-count-text.false))

pub returns-else-count-text-clause-after : goal.returns-else-count-text-clause-after
returns-else-count-text-clause-after c =
    let n = length c.args.text.now in
    same_after n c.args.count c.args.text.now c.utf8.text (omega arith)
    (omega (arith, c.if-count-text.false))
