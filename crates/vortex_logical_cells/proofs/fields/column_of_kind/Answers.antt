use Rattle.vortex_logical_cells.proofs.fields.column_of_kind.Goals as goal

pub returns-in-Date : goal.returns-in-Date
returns-in-Date c = rw c.in-Date.is (rw c.nullability-n.ensures at c.read_column.ensures)

pub returns-in-Timestamp : goal.returns-in-Timestamp
returns-in-Timestamp c = rw c.in-Timestamp.is (rw c.nullability-n.ensures at c.read_column-in-Timestamp.ensures)

pub returns-in-Decimal : goal.returns-in-Decimal
returns-in-Decimal c = rw c.in-Decimal.is (rw c.nullability-n.ensures at c.read_column-in-Decimal.ensures)

pub returns-in-F64 : goal.returns-in-F64
returns-in-F64 c = rw c.in-F64.is (rw c.nullability-n.ensures at c.read_column-in-F64.ensures)

pub returns-in-F32 : goal.returns-in-F32
returns-in-F32 c = rw c.in-F32.is (rw c.nullability-n.ensures at c.read_column-in-F32.ensures)
