use Rattle.std.proofs.Common.{arith, rules, ◌≤◌, ◌∙◌, Some, ap}
use Rattle.vortex_columns.specs.ColumnParts.{deepest, deepest_within}
use Rattle.vortex_types.specs.LogicalTypes.{type_depth}
use Rattle.vortex_columns.proofs.ColumnWeights.{deepest_append, sizes}
use Rattle.vortex_columns.proofs.column.Column.+drop.Goals as goal

pub drop-fields-requires : goal.drop-fields-requires
drop-fields-requires t c κs =
    let held : deepest c.in-Some-Many.fields.items ≤ type_depth c.args.self.dtype =
    omega (
      arith,
      ap deepest_within (c.in-Some-Many.is ∙ ap Some c.in-Some-Many.field-0-is),
      c.loop-next.invariant,
    ) in
    let rest : deepest c.append-grown.new.other.items ≤ deepest c.in-Some-Many.fields.items =
    search (rules, c.pop.ensures.items, c.append-grown.ensures.other_items, deepest_append) in
    ((omega (arith, held, rest, c.decreases, sizes c.append-grown.new.other.items), tt), search rules)

pub drop-list-requires : goal.drop-list-requires
drop-list-requires t c κs = (
  (omega (arith, c.loop-next.invariant, c.decreases, sizes c.loop-next.list.items), tt),
  search rules,
)
