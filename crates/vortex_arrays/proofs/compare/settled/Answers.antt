use Rattle.std.proofs.Common.{◌≡◌, sym, ap, ◌∙◌, arith, rules}
use Rattle.std.specs.Prelude.{◌||◌}
use Rattle.vortex_types.specs.LogicalTypes.{LogicalType, bool_type, is_nullable}
use Rattle.vortex_types.specs.TypeOf.{allows_null, type_of}
use Rattle.vortex_types.specs.Values.{null}
use Rattle.vortex_types.specs.declared.dtype.DType.{Bool, the_lemmas}
use Rattle.vortex_arrays.proofs.ComparedSides.{nulls_compared, settled_by_null}
use Rattle.vortex_arrays.proofs.compare.settled.Goals as goal

pub returns-then-is_null_constant : goal.returns-then-is_null_constant
returns-then-is_null_constant g c =
    let column = g.V.EncodedColumn.column c.args.array.now in
    let other = c.args.other.now in
    let left = c.nullability.ensures ∙ ap is_nullable c.dtype.ensures in
    let right = c.nullability-2.ensures ∙ ap is_nullable c.dtype-2.ensures.dtype in
    let either = c.bitor-nullability.ensures ∙ (λ i. left i || right i) in
    let n = c.bitor-nullability.result in
    let named : type_of (Bool n) ≡ bool_type (allows_null n) = search (rules, the_lemmas) in
    let says = c.is_null_constant.ensures in (
      settled_by_null other (sym says.says ∙ c.if-is_null_constant.true),
      nulls_compared (allows_null n) column other c.null-scalar.result
          c.len-then-is_null_constant.result c.in_ok-constant-2.field-0
          (c.null-scalar.ensures ∙ ap (λ (t : LogicalType). record { dtype = t; value = null })
          named) either
          c.len-then-is_null_constant.ensures c.requires (says.nulls (grind arith))
          c.in_ok-constant-2.ensures,
    )
