use Rattle.std.proofs.Common.{◌≤◌, arith}
use Rattle.vortex_columns.specs.ColumnView.{row}
use Rattle.rowfn_batches.specs.Outputs.{is_true}
use Rattle.rowfn_batches.proofs.Lines.{next_picked, next_count, one_at_most}
use Rattle.rowfn_batches.proofs.output.Output.push_picked.Goals as goal

pub loop-i-preserved : goal.loop-i-preserved
loop-i-preserved g c =
    let told = c.in_ok-push_if_true.ensures in
    let few : c.from.result ≤ 1 = one_at_most c.from.result _ c.from.ensures in
    record {
      lines = next_picked c.args.records.now c.args.spans.now c.args.top.now c.args.self.now
          c.loop-i.self c.push_if_true.new.self c.loop-i.i _ c.bytes.result.now (omega arith)
          c.bytes.ensures c.loop-i.invariant.lines told.1;
      count = next_count (λ i. is_true (row c.args.top.now.rows i)) c.loop-i.i c.loop-i.count
          c.from.result _ c.loop-i.invariant.count c.from.ensures told.0;
      few = omega (arith, few, c.loop-i.invariant.few);
    }
