use Rattle.vortex_cells.proofs.fields.read_column.Goals as goal

pub returns-in-Some : goal.returns-in-Some
returns-in-Some g c = c.column_of.ensures _ (rw c.in-Some.is at c.in_ok-read.ensures)
