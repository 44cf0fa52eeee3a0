use Rattle.std.proofs.Common.{rules, ◌≡◌, map}
use Rattle.vortex_types.specs.LogicalTypes.{bool_type, integer_type, text_type}
use Rattle.vortex_types.specs.TypeOf.{allows_null, type_of}
use Rattle.vortex_types.specs.declared.dtype.DType.{the_lemmas}
use Rattle.vortex_cells.specs.Cells.{cell_in, cells_apart}
use Rattle.vortex_cells.proofs.FieldRows.{written_column}
use Rattle.vortex_cells.proofs.fields.column_of_fields.Goals as goal

pub returns-in-Bool : goal.returns-in-Bool
returns-in-Bool c =
    let t = bool_type (allows_null c.in-Bool.n) in
    let typed : type_of c.args.dtype.now ≡ t = search (rules, the_lemmas) in
    let fields = cells_apart (map cell_in c.args.fields.now) c.args.width c.args.row_count c.args.column in
    rw typed (rw (written_column t fields) at c.read_column.ensures)

pub returns-in-Utf8 : goal.returns-in-Utf8
returns-in-Utf8 c =
    let t = text_type (allows_null c.in-Utf8.n) in
    let typed : type_of c.args.dtype.now ≡ t = search (rules, the_lemmas) in
    let fields = cells_apart (map cell_in c.args.fields.now) c.args.width c.args.row_count c.args.column in
    rw typed (rw (written_column t fields) at c.read_column-in-Utf8.ensures)

pub returns-in-Primitive : goal.returns-in-Primitive
returns-in-Primitive c =
    let t = integer_type c.in-Primitive.ptype (allows_null c.in-Primitive.n) in
    let typed : type_of c.args.dtype.now ≡ t = search (rules, the_lemmas) in
    let fields = cells_apart (map cell_in c.args.fields.now) c.args.width c.args.row_count c.args.column in
    rw typed (rw (written_column t fields) at c.read_int_column.ensures)
