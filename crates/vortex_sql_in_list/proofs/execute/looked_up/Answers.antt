use Rattle.std.proofs.Common.{◌≡◌, ◌<◌, ◌||◌, ◌∙◌, IfSome, ap, drop, map, subst, sym, ℕ}
use Rattle.vortex_types.specs.LogicalTypes.{bool_type, is_nullable}
use Rattle.vortex_types.specs.TypeOf.{type_of}
use Rattle.vortex_interface.specs.Outcomes.{values_at}
use Rattle.vortex_sql_in_list.specs.InLists.{AreListed}
use Rattle.vortex_sql_in_list.proofs.FoundRows.{looked_up_rows}
use Rattle.vortex_sql_in_list.proofs.execute.looked_up.Goals as goal

pub returns : goal.returns
returns g c =
    let cs = g.A.ExecutionArgs.inputs c.args.args.now in
    let rows = g.A.ExecutionArgs.rows c.args.args.now in
    let value = g.I.SetItem.value in
    let column = c.args.value.now in
    let items = c.in-Some.items in
    let set = c.in-Some-2.set in
    let listed =
    subst
    (λ o. IfSome o (λ x. (i : ℕ) → i < rows
    → AreListed (map value x.values.items) x.has_null (drop 1 (values_at cs i))))
    c.in-Some.is c.in_ok-items.ensures in
    let held = subst (λ o. IfSome o (λ s. s.items.items ≡ items.values.items)) c.in-Some-2.is
    c.in_ok-set.ensures in
    looked_up_rows cs column c.in_ok-made.made rows (map value set.items.items) items.has_null
    (type_of c.args.dtype.now) (bool_type (is_nullable column.dtype || items.has_null))
    c.requires.first c.requires.count
    (λ i lt.
    subst (λ xs. AreListed (map value xs) items.has_null (drop 1 (values_at cs i))) (sym held)
    (listed i lt))
    (c.is_bool.ensures c.if-not-is_bool.false ∙ ap bool_type c.may_be_null-nullable.ensures)
    c.in_ok-made.ensures
