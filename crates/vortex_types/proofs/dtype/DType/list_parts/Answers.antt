use Rattle.std.proofs.Common.{◌∷◌, ◌∙◌, [], sym, ap, arith}
use Rattle.vortex_types.specs.LogicalTypes.{struct_type}
use Rattle.vortex_types.specs.TypeOf.{type_of, allows_null}
use Rattle.vortex_types.specs.TypeParts.{type_weight}
use Rattle.vortex_types.specs.TypeCopies.{effects, more, tops}
use Rattle.vortex_types.proofs.TypeViews.{type_of-Struct, type_of-FixedSizeList, type_of-Map}
use Rattle.vortex_types.proofs.TypeViews.{struct_fields-out}
use Rattle.vortex_types.proofs.CopySteps.{listed_one, listed_two, listed_three, cost_one}
use Rattle.vortex_types.proofs.CopySteps.{more_struct, tops_push, wrapped_list, wrapped_fixed}
use Rattle.vortex_types.proofs.CopySteps.{wrapped_map, type_of-List, weight-Struct, weight-List}
use Rattle.vortex_types.proofs.CopySteps.{weight-FixedSizeList, weight-Map}
use Rattle.vortex_types.proofs.dtype.DType.list_parts.Goals as goal

pub returns-in_ok-push-in-Struct-2-clause-effect :
    goal.returns-in_ok-push-in-Struct-2-clause-effect
returns-in_ok-push-in-Struct-2-clause-effect c =
    let fs = c.in-Struct.fields in
    let n = c.in-Struct.n in
    let below = tops c.args.made.now.items in
    let empty = type_of-Struct c.new.result n
    ∙ ap (λ f. struct_type f (allows_null n)) c.new.ensures in
    let made = ap tops c.in_ok-push-in-Struct.ensures.items ∙ tops_push c.args.made.now.items _
    ∙ ap (λ t. t ∷ below) empty in
    let is = ap type_of c.in-Struct.is ∙ type_of-Struct fs n in
    listed_one _ _ _ _ c.in_ok-push-in-Struct-2.ensures.items
    ∙ ap (effects c.args.steps.now.items)
    (ap (more fs.fields.items) made ∙ more_struct [] fs.fields.items (allows_null n) below
    ∙ ap (λ f. struct_type f (allows_null n) ∷ below) (sym (struct_fields-out fs))
    ∙ ap (λ t. t ∷ below) (sym is))

pub returns-in_ok-push-in-Struct-2-clause-fewer : goal.returns-in_ok-push-in-Struct-2-clause-fewer
returns-in_ok-push-in-Struct-2-clause-fewer c =
    omega (
      arith,
      cost_one _ _ _ c.in_ok-push-in-Struct-2.ensures.items,
      ap type_weight c.in-Struct.is ∙ weight-Struct c.in-Struct.fields c.in-Struct.n,
    )

pub returns-in_ok-push-in-List-2-clause-effect : goal.returns-in_ok-push-in-List-2-clause-effect
returns-in_ok-push-in-List-2-clause-effect c =
    let n = c.in-List.field-1 in
    let is = ap type_of c.in-List.is ∙ type_of-List c.in-List.element n in
    listed_two _ _ _ _ _ _ c.in_ok-push-in-List.ensures.items c.in_ok-push-in-List-2.ensures.items
    ∙ ap (effects c.args.steps.now.items)
    (wrapped_list _ _ _ (allows_null n) _ is (ap type_of c.deref.ensures))

pub returns-in_ok-push-in-List-2-clause-fewer : goal.returns-in_ok-push-in-List-2-clause-fewer
returns-in_ok-push-in-List-2-clause-fewer c =
    omega (
      arith,
      cost_one _ _ _ c.in_ok-push-in-List.ensures.items,
      cost_one _ _ _ c.in_ok-push-in-List-2.ensures.items,
      ap type_weight c.deref.ensures,
      ap type_weight c.in-List.is ∙ weight-List c.in-List.element c.in-List.field-1,
    )

pub returns-in_ok-push-in-FixedSizeList-2-clause-effect :
    goal.returns-in_ok-push-in-FixedSizeList-2-clause-effect
returns-in_ok-push-in-FixedSizeList-2-clause-effect c =
    let n = c.in-FixedSizeList.field-2 in
    let s = c.in-FixedSizeList.field-1 in
    let is = ap type_of c.in-FixedSizeList.is
    ∙ type_of-FixedSizeList c.in-FixedSizeList.element s n in
    listed_two _ _ _ _ _ _ c.in_ok-push-in-FixedSizeList.ensures.items
    c.in_ok-push-in-FixedSizeList-2.ensures.items
    ∙ ap (effects c.args.steps.now.items)
    (wrapped_fixed _ _ _ s (allows_null n) _ is (ap type_of c.deref-in-FixedSizeList.ensures))

pub returns-in_ok-push-in-FixedSizeList-2-clause-fewer :
    goal.returns-in_ok-push-in-FixedSizeList-2-clause-fewer
returns-in_ok-push-in-FixedSizeList-2-clause-fewer c =
    omega (
      arith,
      cost_one _ _ _ c.in_ok-push-in-FixedSizeList.ensures.items,
      cost_one _ _ _ c.in_ok-push-in-FixedSizeList-2.ensures.items,
      ap type_weight c.deref-in-FixedSizeList.ensures,
      ap type_weight c.in-FixedSizeList.is
          ∙ weight-FixedSizeList c.in-FixedSizeList.element c.in-FixedSizeList.field-1
          c.in-FixedSizeList.field-2,
    )

pub returns-in_ok-push-in-Map-3-clause-effect : goal.returns-in_ok-push-in-Map-3-clause-effect
returns-in_ok-push-in-Map-3-clause-effect c =
    let n = c.in-Map.field-2 in
    let is = ap type_of c.in-Map.is ∙ type_of-Map c.in-Map.key c.in-Map.value n in
    listed_three _ _ _ _ _ _ _ _ c.in_ok-push-in-Map.ensures.items
    c.in_ok-push-in-Map-2.ensures.items c.in_ok-push-in-Map-3.ensures.items
    ∙ ap (effects c.args.steps.now.items)
    (wrapped_map _ _ _ _ _ (allows_null n) _ is (ap type_of c.deref-in-Map-2.ensures)
    (ap type_of c.deref-in-Map.ensures))

pub returns-in_ok-push-in-Map-3-clause-fewer : goal.returns-in_ok-push-in-Map-3-clause-fewer
returns-in_ok-push-in-Map-3-clause-fewer c =
    omega (
      arith,
      cost_one _ _ _ c.in_ok-push-in-Map.ensures.items,
      cost_one _ _ _ c.in_ok-push-in-Map-2.ensures.items,
      cost_one _ _ _ c.in_ok-push-in-Map-3.ensures.items,
      ap type_weight c.deref-in-Map.ensures,
      ap type_weight c.deref-in-Map-2.ensures,
      ap type_weight c.in-Map.is ∙ weight-Map c.in-Map.key c.in-Map.value c.in-Map.field-2,
    )
