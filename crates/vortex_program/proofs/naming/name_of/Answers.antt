use Rattle.std.proofs.Common.{rules, ◌≡◌, ◌<◌, string_bytes, arith}
use Rattle.vortex_types.specs.LogicalTypes.{field_count}
use Rattle.vortex_types.specs.FieldNames.{field_name}
use Rattle.vortex_types.specs.TypeOf.{struct_fields}
use Rattle.vortex_program.specs.Naming.{of_field}
use Rattle.vortex_program.proofs.naming.name_of.Goals as goal

pub returns-in_ok-from_str : goal.returns-in_ok-from_str
returns-in_ok-from_str c =
    let scope = struct_fields c.args.scope.now in
    let below : c.in-Some.place < field_count scope = omega (arith, c.len.ensures) in
    let same : string_bytes c.in_ok-from_str.field-0 ≡ field_name c.in-Some.place scope =
    search rules in
    of_field c.in-Some.place c.in-Some.ensures below same
