use Rattle.std.proofs.Math.Logic.{∥∥₁_map}
use Rattle.rowfn_batches.proofs.Optimized.{rewrites}
use Rattle.rowfn_batches.proofs.answering.BatchTask.answer_once.Goals as goal

pub show_values-requires : goal.show_values-requires
show_values-requires c = record {
  columns = c.in_ok-columns.columns.items;
  first = c.in_ok-columns.ensures;
  mean =
      ∥∥₁_map (rewrites c.args.self.now.asked)
      (λ r. rw c.deref.ensures.value at (c.in-Ok.ensures r));
}
