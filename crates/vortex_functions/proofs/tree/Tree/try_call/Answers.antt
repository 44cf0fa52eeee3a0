use Rattle.std.proofs.Common.{◌≡◌, ◌+◌, ap, sym, subst, ◌∙◌, length, map, true, true≢false}
use Rattle.std.specs.Prelude.{All, Some}
use Rattle.std.proofs.lemmas.Result.{err_from_is_err_and}
use Rattle.vortex_types.specs.TypeOf.{type_of}
use Rattle.vortex_interface.specs.Meaning.{fits}
use Rattle.vortex_interface.specs.Functions.{function_arity}
use Rattle.vortex_interface.specs.Trees.{trees_of}
use Rattle.vortex_interface.specs.Eval.{tree_types}
use Rattle.vortex_interface.specs.Weights.{added, weights}
use Rattle.vortex_functions.specs.FunctionOf.{function_of}
use Rattle.vortex_functions.proofs.CallWeights.{told, call_is_weighed}
use Rattle.vortex_functions.proofs.TreeCalls.{dtypes_fit, is_typed, is_call, refused}
use Rattle.vortex_functions.proofs.tree.Tree.try_call.Given.{Over}
use Rattle.vortex_functions.proofs.tree.Tree.try_call.Goals.{After-deref-2}
use Rattle.vortex_functions.proofs.tree.Tree.try_call.Goals as goal

-- the children's types, and their count
fitting : (g : Over) (c : After-deref-2 g)
    → (fits (function_arity g.C.ScalarFnVTable.meaning (function_of c.args.function))
    (length c.args.children.items) ≡ true)
    × (tree_types g.C.ScalarFnVTable.meaning
    (trees_of (map g.L.Leaf.tree_of c.args.children.items))
    ≡ Some (map type_of c.deref-2.result.now))
fitting g c = (
  (λ j. fits (sym c.signature.ensures.arity j)
      (sym (c.len-given.ensures ∙ c.args.children.ok.0) j))
      ∙ sym c.matches.ensures
      ∙ c.if-not-matches.false,
  ap (λ ys. tree_types g.C.ScalarFnVTable.meaning (trees_of (map g.L.Leaf.tree_of ys)))
      (sym c.deref.ensures.value)
      ∙ c.in_ok-dtypes.ensures.types
      ∙ ap (λ ds. Some (map type_of ds)) (sym c.deref-2.ensures.value),
)

pub return_dtype-requires : goal.return_dtype-requires
return_dtype-requires g c =
    let m = g.C.ScalarFnVTable.meaning in
    let f = function_of c.args.function in
    let tree_of = g.L.Leaf.tree_of in
    let xs = c.args.children.items in
    let fit = fitting g (goal.at.return_dtype-requires g c).After-deref-2 in
    dtypes_fit tree_of m f xs c.deref-2.result.now fit.1 fit.0

pub returns-in_err-dtype : goal.returns-in_err-dtype
returns-in_err-dtype g c =
    let m = g.C.ScalarFnVTable.meaning in
    let f = function_of c.args.function in
    let tree_of = g.L.Leaf.tree_of in
    let xs = c.args.children.items in
    let fit = fitting g (goal.at.returns-in_err-dtype g c).After-deref-2 in
    let p =
    err_from_is_err_and c.from_residual-in_err-dtype.result
    c.from_residual-in_err-dtype.ensures.1 in
    rw (p.1, p.2)
    (refused tree_of m f xs c.deref-2.result.now fit.1 fit.0 _ c.in_err-dtype.ensures)

pub invariant_of-result : goal.invariant_of-result
invariant_of-result g c =
    let m = g.C.ScalarFnVTable.meaning in
    let f = function_of c.args.function in
    let tree_of = g.L.Leaf.tree_of in
    let xs = c.args.children.items in
    let fit = fitting g (goal.at.invariant_of-result g c).After-deref-2 in
    let has_type = is_typed tree_of m f xs c.deref-2.result.now fit.1 fit.0
    (type_of c.in_ok-dtype.dtype) c.in_ok-dtype.ensures in
    let whole = subst (All g.L.Leaf.whole) c.deref.ensures.value c.in_ok-dtypes.ensures.whole in
    rw c.in_ok-new.ensures.ok (
      (
        has_type,
        c.requires,
        call_is_weighed m f (map tree_of xs) (type_of c.in_ok-dtype.dtype) c.is_nullable.result
            c.call_weight-weight.result has_type c.is_nullable.ensures
            (c.call_weight-weight.ensures
            ∙ ap
            (λ ys. told (added f c.is_nullable.result
            + weights m (trees_of (map tree_of ys))))
            c.deref-3.ensures.value),
        λ marked. absurd (true≢false (sym marked)),
      ),
      g.L.Leaf.whole_call f c.args.context xs whole c.requires,
    )

-- the call, and its context
pub returns : goal.returns
returns g c =
    let m = g.C.ScalarFnVTable.meaning in
    let f = function_of c.args.function in
    let tree_of = g.L.Leaf.tree_of in
    let xs = c.args.children.items in
    let fit = fitting g (goal.at.returns g c).After-deref-2 in
    rw c.in_ok-new.ensures.ok (
      is_call tree_of m f xs c.deref-2.result.now fit.1 fit.0 (type_of c.in_ok-dtype.dtype) _
          c.in_ok-dtype.ensures (g.L.Leaf.tree_of_see _ _),
      g.L.Leaf.context_of_see _ _,
    )
