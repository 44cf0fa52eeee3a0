use Rattle.std.proofs.Common.{arith}
use Rattle.rowfn_csv.proofs.Parts.{none_parts, none_said}
use Rattle.rowfn_csv.proofs.batch.Batch.clear.Goals as goal

pub invariant_of-self : goal.invariant_of-self
invariant_of-self c = record {
  filled = omega arith;
  parts = none_parts 0 c.clear.new.self.items c.clear.ensures.items;
}

pub returns : goal.returns
returns c = (
  none_said c.self.inside.bytes.items c.clear.new.self.items c.clear.ensures.items,
  c.clear-2.ensures.items,
)
