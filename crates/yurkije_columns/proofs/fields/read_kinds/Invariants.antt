use Rattle.std.proofs.Common.{◌≡◌, map, take}
use Rattle.yurkije_columns.specs.Scopes.{field_kind}
use Rattle.yurkije_columns.proofs.fields.read_kinds.Given as goal

-- the kinds of the fields so far
abbrev pub invariant-loop-field : goal.invariant-loop-field
invariant-loop-field l = l.kinds.items ≡ map field_kind (take l.field-index l.fields)
