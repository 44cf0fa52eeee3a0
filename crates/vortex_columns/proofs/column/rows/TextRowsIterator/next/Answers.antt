use Rattle.std.proofs.Common.{true}
use Rattle.vortex_types.specs.LogicalTypes.{text_type}
use Rattle.vortex_columns.proofs.TypedRest.{typed_rest}
use Rattle.vortex_columns.proofs.column.rows.TextRowsIterator.next.Goals as goal

pub invariant_of-self-2 : goal.invariant_of-self-2
invariant_of-self-2 c =
    typed_rest (text_type true) _ c.self.inside.cells c.next_cell.new.self c.in_ok-next_cell.ensures.rows
    c.self.invariant
