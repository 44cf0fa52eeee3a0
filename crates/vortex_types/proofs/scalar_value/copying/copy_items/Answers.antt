use Rattle.std.proofs.Common.{◌≡◌, ◌≤◌, ◌∷◌, ◌++◌, ◌∙◌, sym, ap, rules, arith, Some}
use Rattle.std.proofs.lemmas.List.{nil_from_length}
use Rattle.vortex_types.specs.Values.{list}
use Rattle.vortex_types.specs.ValueOf.{value_or_null, values_or_null}
use Rattle.vortex_types.specs.ValueParts.{value_weight, value_weights}
use Rattle.vortex_types.specs.ValueCopies.{begun_value, begun_weight}
use Rattle.vortex_types.specs.declared.scalar_value.copying.Copying.{Copying}
use Rattle.vortex_types.proofs.ValueCopies.{plug, entered, left, left_above, left_push}
use Rattle.vortex_types.proofs.scalar_value.copying.copy_items.Goals as goal

pub loop-item-preserved-in-Items : goal.loop-item-preserved-in-Items
loop-item-preserved-in-Items c =
    let l = c.loop-item in
    let f : Copying = record { copies = l.copies; rest = c.in-Some.others } in
    let first : l.rest.now ≡ c.in-Some.item.now ∷ c.in-Some.others.now = search rules in
    let e : list (values_or_null c.in-Items.inner.now.items) ≡ value_or_null c.in-Some.item.now =
    sym (ap begun_value c.in-Items.is) ∙ c.in_ok-copy-in-Some-item.ensures.value
    ∙ ap value_or_null (sym c.in-Some-item.is) in
    rw (
      c.in_ok-push-in-Items.ensures.items,
      c.new-copies-in-Items.ensures.items,
      c.as_slice-rest-in-Items.ensures.value,
    ) (entered l.above.items f l.rest.now c.in-Some.item.now _ first e ∙ l.invariant)

pub loop-item-smaller-in-Items : goal.loop-item-smaller-in-Items
loop-item-smaller-in-Items c =
    let l = c.loop-item in
    let f : Copying = record { copies = l.copies; rest = c.in-Some.others } in
    let first : l.rest.now ≡ Some c.in-Some-item.value ∷ c.in-Some.others.now =
    search rules in
    let here = ap value_weights first in
    let inside : value_weights c.in-Items.inner.now.items ≤ value_weight c.in-Some-item.value =
    omega (arith, ap begun_weight c.in-Items.is, c.in_ok-copy-in-Some-item.ensures.weight) in
    let above =
    ap left_above c.in_ok-push-in-Items.ensures.items ∙ left_push l.above.items f in
    let behind = ap value_weights c.as_slice-rest-in-Items.ensures.value in
    omega (arith, here, inside, above, behind)

pub loop-item-preserved : goal.loop-item-preserved
loop-item-preserved c =
    let l = c.loop-item in
    let fs = c.pop.new.self.items in
    let none = nil_from_length l.rest.now (search rules) in
    left fs c.in-Some-pop.around _ l.rest.now l.copies c.in_ok-push.ensures.items none
    ∙ ap (λ gs. plug gs (values_or_null (l.copies.items ++ l.rest.now)))
    (sym c.in-Some-pop.ensures.items)
    ∙ l.invariant

pub loop-item-smaller : goal.loop-item-smaller
loop-item-smaller c =
    let above =
    ap left_above c.in-Some-pop.ensures.items
    ∙ left_push c.pop.new.self.items c.in-Some-pop.around in
    omega (arith, above)
