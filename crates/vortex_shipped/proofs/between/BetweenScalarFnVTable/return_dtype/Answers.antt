use Rattle.std.proofs.Common.{◌≡◌, ◌∙◌, List, Some, length, map, ap, sym, rules, arith}
use Rattle.std.specs.Prelude.{◌||◌}
use Rattle.vortex_types.specs.LogicalTypes.{bool_type}
use Rattle.vortex_types.specs.TypeOf.{type_of, allows_null}
use Rattle.vortex_types.specs.declared.dtype.DType.{DType}
use Rattle.vortex_types.specs.declared.dtype.DType.{Bool, the_lemmas}
use Rattle.vortex_interface.specs.Shipped.BetweenFunction.{bounded_type}
use Rattle.vortex_shipped.proofs.BetweenCalls.{three_items, bounded_is}
use Rattle.vortex_shipped.proofs.between.BetweenScalarFnVTable.return_dtype.Goals as goal

pub returns : goal.returns
returns c =
    let types = c.args.types.now in
    let x = c.array-item.result in
    let lower = c.lower-item.result in
    let upper = c.upper-item.result in
    let three : length types ≡ 3 = omega arith in
    let is = three_items types x lower upper three c.array-item.is c.lower-item.is
    c.upper-item.is in
    let below =
    sym c.eq_ignore_nullability.ensures
    ∙ c.if-not-eq_ignore_nullability.false in
    let above =
    sym c.eq_ignore_nullability-2.ensures
    ∙ c.if-not-eq_ignore_nullability-2.false in
    let both = c.bitor.ensures ∙ (λ i. c.nullability.ensures i || c.nullability-2.ensures i) in
    let any =
    c.bitor-nullability.ensures ∙ (λ i. both i || c.nullability-3.ensures i) in
    let named : type_of (Bool c.bitor-nullability.result)
    ≡ bool_type (allows_null c.bitor-nullability.result) = search (rules, the_lemmas) in
    ap (λ (ds : List DType). bounded_type (map type_of ds)) is
    ∙ bounded_is (type_of x) (type_of lower) (type_of upper) below above
    ∙ ap Some (sym (named ∙ ap bool_type any))
