use Rattle.std.proofs.Common.{◌≡◌, true, false, length, map, Some, ap, sym, ◌∙◌}
use Rattle.std.specs.List.{list_any}
use Rattle.std.specs.Option.{option_map}
use Rattle.vortex_types.specs.TypeOf.{type_of}
use Rattle.vortex_interface.specs.Meaning.{fits}
use Rattle.vortex_interface.specs.Functions.{function_arity, function_strict, function_type}
use Rattle.vortex_interface.specs.Trees.{trees_of, children_of}
use Rattle.vortex_interface.specs.Rules.{may_be_null}
use Rattle.vortex_interface.specs.ValidityRules.{is_null_type}
use Rattle.vortex_functions.specs.FunctionOf.{function_of}
use Rattle.vortex_rewriting.specs.Contexts.{with_tree}
use Rattle.vortex_rewriting.proofs.DefaultValidities.{holds_where, types_fit, over_null, over_solid}
use Rattle.vortex_rewriting.proofs.validity.default_validity.Goals as goal

pub returns-then-any_is_null_type : goal.returns-then-any_is_null_type
returns-then-any_is_null_type g c =
    let m = g.C.ScalarFnVTable.meaning in
    let f = function_of c.args.function.now in
    let ds = c.in_ok-dtypes.dtypes.items in
    let strict =
    holds_where c.signature.result.is_strict (function_strict m f) c.signature.ensures.strict
    c.if-not-signature.false in
    let any : list_any (λ d. is_null_type (type_of d)) ds ≡ true =
    ap (list_any (λ d. is_null_type (type_of d))) (sym c.deref.ensures.value)
    ∙ sym c.any_is_null_type.ensures
    ∙ c.if-any_is_null_type.true in
    let s = g.T.ReduceTree.seen c.args.node.now in
    ap (option_map (with_tree s))
    (sym (over_null m f (trees_of (children_of s.tree)) ds strict c.in_ok-dtypes.ensures any))

pub may_be_null-requires : goal.may_be_null-requires
may_be_null-requires g c =
    let m = g.C.ScalarFnVTable.meaning in
    let f = function_of c.args.function.now in
    ap (λ ds. fits (function_arity m f) (length ds)) c.deref-2.ensures.value
    ∙ types_fit m (g.T.ReduceTree.seen c.args.node.now).tree f (type_of c.node_dtype-typed.result.now)
    c.in_ok-dtypes.dtypes.items c.requires c.node_dtype-typed.ensures c.in_ok-dtypes.ensures

pub returns : goal.returns
returns g c =
    let m = g.C.ScalarFnVTable.meaning in
    let f = function_of c.args.function.now in
    let ds = c.in_ok-dtypes.dtypes.items in
    let strict =
    holds_where c.signature.result.is_strict (function_strict m f) c.signature.ensures.strict
    c.if-not-signature.false in
    let any : list_any (λ d. is_null_type (type_of d)) ds ≡ false =
    ap (list_any (λ d. is_null_type (type_of d))) (sym c.deref.ensures.value)
    ∙ sym c.any_is_null_type.ensures
    ∙ c.if-any_is_null_type.false in
    let may : may_be_null (function_type m f (map type_of ds)) ≡ false =
    ap (λ ts. may_be_null (function_type m f (map type_of ts))) (sym c.deref-2.ensures.value)
    ∙ sym c.in_ok-may_be_null.ensures
    ∙ c.if-branch.false in
    let s = g.T.ReduceTree.seen c.args.node.now in
    ap Some c.in_ok-made.ensures
    ∙ ap (option_map (with_tree s))
    (sym (over_solid m f (trees_of (children_of s.tree)) ds strict c.in_ok-dtypes.ensures any may))
