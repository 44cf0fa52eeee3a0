use Rattle.std.proofs.Common.{arith, refl}
use Rattle.vortex_sql_calls.proofs.Rows.{one_more_cell, no_cells}
use Rattle.vortex_sql_calls.proofs.call.read_cells.Goals as goal

pub loop-k-init : goal.loop-k-init
loop-k-init g c = no_cells _ c.clear.new.self.items refl c.clear.ensures.items

pub loop-k-preserved : goal.loop-k-preserved
loop-k-preserved g c =
    one_more_cell (g.A.ExecutionArgs.inputs c.args.args.now) c.args.i c.loop-k.k c.in_ok-input.input.now
    c.loop-k.cells.items c.push.new.self.items c.cell.result
    (omega (arith, c.num_inputs-k-end.ensures)) c.in_ok-input.ensures.input c.loop-k.invariant
    c.in_ok-push.ensures.items c.cell.ensures.value c.cell.ensures.whole
