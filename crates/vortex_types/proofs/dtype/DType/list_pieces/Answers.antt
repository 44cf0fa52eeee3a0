use Rattle.std.proofs.Common.{◌++◌, ◌∙◌, refl, sym, ap, arith}
use Rattle.vortex_types.specs.LogicalTypes.{struct_type, list_type, fixed_size_list_type, map_type}
use Rattle.vortex_types.specs.TypeOf.{type_of, struct_fields, allows_null}
use Rattle.vortex_types.specs.TypeParts.{type_weight}
use Rattle.vortex_types.specs.Texts.{comma}
use Rattle.vortex_types.specs.DTypeTexts.{type_text, field_type_texts}
use Rattle.vortex_types.specs.TypePieces.{ending, joined_from, pieces_text}
use Rattle.vortex_types.proofs.TypeViews.{type_of-Struct, type_of-FixedSizeList, type_of-Map}
use Rattle.vortex_types.proofs.TypeViews.{struct_fields-out}
use Rattle.vortex_types.proofs.CopySteps.{type_of-List, weight-Struct, weight-List}
use Rattle.vortex_types.proofs.CopySteps.{weight-FixedSizeList, weight-Map}
use Rattle.vortex_types.proofs.TextPieces.{piece_more, piece_cost_more, listed_as, list_whole}
use Rattle.vortex_types.proofs.TextPieces.{fixed_whole, map_whole, map_grouped, struct_whole}
use Rattle.vortex_types.proofs.dtype.DType.list_pieces.Goals as goal

pub returns-in_ok-push-in-Struct-clause-text : goal.returns-in_ok-push-in-Struct-clause-text
returns-in_ok-push-in-Struct-clause-text c =
    let fs = c.in-Struct.fields in
    let n = c.in-Struct.field-1 in
    let t = type_of c.args.self.now in
    let below = pieces_text c.args.pieces.now.items in
    listed_as t (struct_type (struct_fields fs) (allows_null n))
    (joined_from comma 0 (field_type_texts (struct_fields fs))) _ below
    (ap type_of c.in-Struct.is ∙ type_of-Struct fs n)
    (piece_more _ _ _ _ c.in_ok-push-in-Struct.ensures.items
    (piece_more _ _ _ below c.in_ok-push.ensures.items refl)
    ∙ ap (λ f. joined_from comma 0 (field_type_texts f) ++ (ending t ++ below))
    (sym (struct_fields-out fs)))
    (struct_whole (struct_fields fs) (allows_null n) below)

pub returns-in_ok-push-in-Struct-clause-fewer : goal.returns-in_ok-push-in-Struct-clause-fewer
returns-in_ok-push-in-Struct-clause-fewer c =
    omega (
      arith,
      piece_cost_more _ _ _ c.in_ok-push.ensures.items,
      piece_cost_more _ _ _ c.in_ok-push-in-Struct.ensures.items,
      ap type_weight c.in-Struct.is ∙ weight-Struct c.in-Struct.fields c.in-Struct.field-1,
    )

pub returns-in_ok-push-in-List-clause-text : goal.returns-in_ok-push-in-List-clause-text
returns-in_ok-push-in-List-clause-text c =
    let e = type_of c.in-List.element.value in
    let n = c.in-List.field-1 in
    let t = type_of c.args.self.now in
    let below = pieces_text c.args.pieces.now.items in
    listed_as t (list_type e (allows_null n)) (type_text e) _ below
    (ap type_of c.in-List.is ∙ type_of-List c.in-List.element n)
    (piece_more _ _ _ _ c.in_ok-push-in-List.ensures.items
    (piece_more _ _ _ below c.in_ok-push.ensures.items refl)
    ∙ ap (λ d. type_text (type_of d) ++ (ending t ++ below)) c.deref.ensures)
    (list_whole e (allows_null n) below)

pub returns-in_ok-push-in-List-clause-fewer : goal.returns-in_ok-push-in-List-clause-fewer
returns-in_ok-push-in-List-clause-fewer c =
    omega (
      arith,
      piece_cost_more _ _ _ c.in_ok-push.ensures.items,
      piece_cost_more _ _ _ c.in_ok-push-in-List.ensures.items,
      ap type_weight c.deref.ensures,
      ap type_weight c.in-List.is ∙ weight-List c.in-List.element c.in-List.field-1,
    )

pub returns-in_ok-push-in-FixedSizeList-clause-text :
    goal.returns-in_ok-push-in-FixedSizeList-clause-text
returns-in_ok-push-in-FixedSizeList-clause-text c =
    let e = type_of c.in-FixedSizeList.element.value in
    let s = c.in-FixedSizeList.field-1 in
    let n = c.in-FixedSizeList.field-2 in
    let t = type_of c.args.self.now in
    let below = pieces_text c.args.pieces.now.items in
    listed_as t (fixed_size_list_type e s (allows_null n)) (type_text e) _ below
    (ap type_of c.in-FixedSizeList.is ∙ type_of-FixedSizeList c.in-FixedSizeList.element s n)
    (piece_more _ _ _ _ c.in_ok-push-in-FixedSizeList.ensures.items
    (piece_more _ _ _ below c.in_ok-push.ensures.items refl)
    ∙ ap (λ d. type_text (type_of d) ++ (ending t ++ below)) c.deref-in-FixedSizeList.ensures)
    (fixed_whole e s (allows_null n) below)

pub returns-in_ok-push-in-FixedSizeList-clause-fewer :
    goal.returns-in_ok-push-in-FixedSizeList-clause-fewer
returns-in_ok-push-in-FixedSizeList-clause-fewer c =
    omega (
      arith,
      piece_cost_more _ _ _ c.in_ok-push.ensures.items,
      piece_cost_more _ _ _ c.in_ok-push-in-FixedSizeList.ensures.items,
      ap type_weight c.deref-in-FixedSizeList.ensures,
      ap type_weight c.in-FixedSizeList.is
          ∙ weight-FixedSizeList c.in-FixedSizeList.element c.in-FixedSizeList.field-1
          c.in-FixedSizeList.field-2,
    )

pub returns-in_ok-push-in-Map-3-clause-text : goal.returns-in_ok-push-in-Map-3-clause-text
returns-in_ok-push-in-Map-3-clause-text c =
    let k = type_of c.in-Map.key.value in
    let v = type_of c.in-Map.value.value in
    let n = c.in-Map.field-2 in
    let t = type_of c.args.self.now in
    let below = pieces_text c.args.pieces.now.items in
    listed_as t (map_type k v (allows_null n)) (type_text k ++ (comma ++ type_text v)) _ below
    (ap type_of c.in-Map.is ∙ type_of-Map c.in-Map.key c.in-Map.value n)
    (piece_more _ _ _ _ c.in_ok-push-in-Map-3.ensures.items
    (piece_more _ _ _ _ c.in_ok-push-in-Map-2.ensures.items
    (piece_more _ _ _ _ c.in_ok-push-in-Map.ensures.items
    (piece_more _ _ _ below c.in_ok-push.ensures.items refl)
    ∙ ap (λ d. type_text (type_of d) ++ (ending t ++ below)) c.deref-in-Map.ensures))
    ∙ ap (λ d. type_text (type_of d) ++ (comma ++ (type_text v ++ (ending t ++ below))))
    c.deref-in-Map-2.ensures
    ∙ map_grouped (type_text k) comma (type_text v) (ending t ++ below))
    (map_whole k v (allows_null n) below)

pub returns-in_ok-push-in-Map-3-clause-fewer : goal.returns-in_ok-push-in-Map-3-clause-fewer
returns-in_ok-push-in-Map-3-clause-fewer c =
    omega (
      arith,
      piece_cost_more _ _ _ c.in_ok-push.ensures.items,
      piece_cost_more _ _ _ c.in_ok-push-in-Map.ensures.items,
      piece_cost_more _ _ _ c.in_ok-push-in-Map-2.ensures.items,
      piece_cost_more _ _ _ c.in_ok-push-in-Map-3.ensures.items,
      ap type_weight c.deref-in-Map.ensures,
      ap type_weight c.deref-in-Map-2.ensures,
      ap type_weight c.in-Map.is ∙ weight-Map c.in-Map.key c.in-Map.value c.in-Map.field-2,
    )
