use Rattle.std.proofs.Common.{sym, ap, ◌∙◌}
use Rattle.std.specs.Prelude.{nat_eq}
use Rattle.std.specs.Cmp.Lexicographic.{pointwise}
use Rattle.vortex_types.specs.LogicalTypes.{find_field}
use Rattle.vortex_types.specs.TypeOf.{fields_view}
use Rattle.vortex_types.proofs.TypeViews.{struct_fields-out}
use Rattle.vortex_types.proofs.FieldSearch.{passed, found, not_found, searched_none}
use Rattle.vortex_types.proofs.dtype.StructFields.find.Goals as goal

pub loop-i-init : goal.loop-i-init
loop-i-init c = searched_none c.args.name.now c.deref-field-items.result.now

pub loop-i-preserved : goal.loop-i-preserved
loop-i-preserved c =
    passed c.args.name.now _ c.deref-field-items.result.now c.loop-i.i c.field-item.result
    c.loop-i-test.true c.field-item.is
    (ap (λ bytes. pointwise nat_eq bytes c.args.name.now) (sym c.as_str.ensures.value)
    ∙ sym c.eq.ensures ∙ c.if-eq.false)
    c.loop-i.invariant

pub returns-then-eq : goal.returns-then-eq
returns-then-eq c =
    ap (find_field c.args.name.now) (struct_fields-out c.args.self.now)
    ∙ ap (λ fs. find_field c.args.name.now (fields_view fs))
    (sym c.deref-field-items.ensures.value)
    ∙ found c.args.name.now _ c.deref-field-items.result.now c.loop-i.i c.field-item.result
    c.loop-i-test.true c.field-item.is
    (ap (λ bytes. pointwise nat_eq bytes c.args.name.now) (sym c.as_str.ensures.value)
    ∙ sym c.eq.ensures ∙ c.if-eq.true)
    c.loop-i.invariant

pub returns : goal.returns
returns c =
    ap (find_field c.args.name.now) (struct_fields-out c.args.self.now)
    ∙ ap (λ fs. find_field c.args.name.now (fields_view fs))
    (sym c.deref-field-items.ensures.value)
    ∙ not_found c.args.name.now _ c.deref-field-items.result.now c.loop-i.i c.loop-i-test.false
    c.loop-i.invariant
