use Rattle.std.proofs.Common.{take, ◌≡◌, ◌++◌, ◌∷◌, [], string_bytes, sym, ◌∙◌, ap}
use Rattle.std.proofs.lemmas.List.{take_more, take_all}
use Rattle.vortex_types.specs.TypeOf.{fields_view}
use Rattle.vortex_types.proofs.TypeViews.{struct_fields-roll, struct_fields-out, fields_view_push}
use Rattle.vortex_types.proofs.dtype.StructFields.copy.Goals as goal

pub loop-field-preserved :
    goal.loop-field-preserved
loop-field-preserved c =
    let f = c.field-item.result in
    let more =
    take_more c.deref-field-items.result.now c.loop-field.field-index f
    c.loop-field-test.true in
    let named : string_bytes c.in_ok-name.name ≡ string_bytes f.0 = c.in_ok-name.ensures.cases in
    let pushed =
    fields_view_push _ _ (c.in_ok-name.name, c.in_ok-copy.field-0) f c.loop-field.invariant
    named c.in_ok-copy.ensures in
    ap fields_view c.in_ok-push.ensures.items ∙ pushed
    ∙ ap fields_view
    (ap (λ g. take c.loop-field.field-index c.deref-field-items.result.now ++ g ∷ [])
    c.field-item.is
    ∙ sym more)

pub returns : goal.returns
returns c =
    struct_fields-roll _ ∙ c.loop-field.invariant
    ∙ ap fields_view (take_all _ _ c.loop-field-test.false ∙ c.deref-field-items.ensures.value)
    ∙ sym (struct_fields-out _)
