use Rattle.std.proofs.Common.{◌≡◌, drop}
use Rattle.vortex_types.specs.TypeOf.{struct_fields}
use Rattle.yurkije_columns.specs.Scopes.{answers, borrowed_behind, scope_borrowed}
use Rattle.yurkije_columns.proofs.fields.read_fields.Given as goal

-- what the fields from here on make of the scope is what all make
abbrev pub invariant-loop-field : goal.invariant-loop-field
invariant-loop-field l =
    borrowed_behind l.field (answers (struct_fields l.scope)) (drop l.field l.fields)
    ≡ scope_borrowed l.fields
