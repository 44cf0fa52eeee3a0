use Rattle.std.proofs.Common.{rules, ◌≡◌}
use Rattle.vortex_types.specs.LogicalTypes.{bool_type, integer_type, text_type}
use Rattle.vortex_types.specs.TypeOf.{allows_null, type_of}
use Rattle.vortex_types.specs.declared.dtype.DType.{the_lemmas}
use Rattle.vortex_cells.proofs.cells.column_of_cells.Goals as goal

pub returns-in-Bool : goal.returns-in-Bool
returns-in-Bool c =
    let typed : type_of c.args.dtype.now ≡ bool_type (allows_null c.in-Bool.nullability) =
    search (rules, the_lemmas) in
    rw typed c.read_column.ensures

pub returns-in-Utf8 : goal.returns-in-Utf8
returns-in-Utf8 c =
    let typed : type_of c.args.dtype.now ≡ text_type (allows_null c.in-Utf8.nullability) =
    search (rules, the_lemmas) in
    rw typed c.read_column-in-Utf8.ensures

pub returns-in-Primitive : goal.returns-in-Primitive
returns-in-Primitive c =
    let held = c.in-Primitive in
    let typed : type_of c.args.dtype.now ≡ integer_type held.ptype (allows_null held.nullability) =
    search (rules, the_lemmas) in
    rw typed c.read_int_column.ensures
