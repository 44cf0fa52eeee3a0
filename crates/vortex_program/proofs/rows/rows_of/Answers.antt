use Rattle.std.proofs.Common.{add-one, arith}
use Rattle.vortex_program.specs.Rows.{from}
use Rattle.vortex_program.proofs.TakenRows.{all_parts, part_more}
use Rattle.vortex_program.proofs.rows.rows_of.Goals as goal

pub loop-k-preserved : goal.loop-k-preserved
loop-k-preserved c =
    let k = c.loop-k.k in
    rw c.in_ok-push.ensures.items
    (part_more (from c.args.first) c.args.count c.args.read.now c.args.columns.now c.loop-k.taken.items k _
    c.index-columns-k.result _ (add-one k) c.loop-k-test.true c.index-columns-k.is
    c.loop-k.invariant _ (omega (arith, c.loop-k-test.true, c.requires.read))
    c.in_ok-column_part.ensures)

pub returns : goal.returns
returns c =
    all_parts (from c.args.first) c.args.count c.args.read.now c.args.columns.now c.loop-k.taken.items
    c.loop-k.k c.loop-k-test.false c.loop-k.invariant
