use Rattle.std.proofs.Common.{arith}
use Rattle.rowfn_batches.proofs.Passed.{picked_pushed}
use Rattle.rowfn_batches.proofs.stream.Stream.push_picked.Goals as goal

pub returns-clause-text : goal.returns-clause-text
returns-clause-text g c =
    picked_pushed c.args.self.now c.push_picked.new.self c.args.answers.now c.args.row_count
    c.in-Some.top.now _ c.push_picked.result c.push_picked.ensures.lines
    c.in-Some.ensures.value (grind (arith, c.spans.ensures))
