use Rattle.std.proofs.Common.{arith}
use Rattle.rowfn_csv.proofs.Parts.{none_parts, none_said}
use Rattle.rowfn_csv.proofs.batch.Batch.new.Goals as goal

pub invariant_of-result : goal.invariant_of-result
invariant_of-result c = record {
  filled = omega arith;
  parts = none_parts 0 c.new-2.result.items c.new-2.ensures.items;
}

pub returns : goal.returns
returns c = (
  none_said c.new.result.items c.new-2.result.items c.new-2.ensures.items,
  c.new-3.ensures.items,
)
