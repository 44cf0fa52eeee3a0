use Rattle.std.proofs.Common.{true}
use Rattle.vortex_types.specs.LogicalTypes.{integer_type}
use Rattle.vortex_columns.proofs.TypedRest.{typed_rest}
use Rattle.vortex_columns.proofs.column.rows.IntRowsIterator.next.Goals as goal

pub invariant_of-self-2 : goal.invariant_of-self-2
invariant_of-self-2 g c =
    typed_rest (integer_type g.T.NativePType.ptype true) _ c.self.inside.cells c.next_cell.new.self c.in_ok-next_cell.ensures.rows
    c.self.invariant
