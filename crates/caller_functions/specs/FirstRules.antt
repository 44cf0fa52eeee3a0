-- The rules of the function that returns its first argument are lawful.
use Rattle.std.specs.Prelude.{◌≡◌, codes, get_or, Some}
use Rattle.std.proofs.Common.{sym, ap, ◌∙◌, subst, arith, inl}
use Rattle.vortex_types.specs.LogicalTypes.{LogicalType}
use Rattle.vortex_interface.specs.Functions.{custom}
use Rattle.vortex_interface.specs.Trees.{Tree, call, Trees, no_trees, tree}
use Rattle.vortex_interface.specs.Eval.{tree_type, tree_types, eval, eval_all}
use Rattle.vortex_interface.specs.Rewrites.{Rewrites, LawfulRules}
use Rattle.vortex_interface.proofs.TypedCalls.{typed_call, types_parts, means_parts, values_parts}
use Rattle.vortex_rewriting.specs.Identities.{IsOwnIdentity, first_letter}
use Rattle.caller_functions.specs.First.{first_value, first_type, first_tree, first_meaning}
use Rattle.caller_functions.specs.First.{first_rules}

module _ {V O : Type 0} where
  -- the first argument replaces the call
  first_rewrites : (f : V) (o : O) (ts : Trees V O) (t : LogicalType) (u : Tree V O)
      → tree_type first_meaning (call (custom f o) ts) ≡ Some t → first_tree ts ≡ Some u
      → Rewrites first_meaning (call (custom f o) ts) u
  first_rewrites f o no_trees t u h e = cc
  first_rewrites f o (tree x ts) t u h e =
      let c = typed_call first_meaning (custom f o) (tree x ts) t h in
      let p = types_parts (tree_type first_meaning x) (tree_types first_meaning ts) c.types
      c.children in
      let same : Some p.0 ≡ Some t = ap first_type p.4 ∙ c.returns in
      let is : x ≡ u = cc in
      subst (Rewrites first_meaning (call (custom f o) (tree x ts))) is
      (record {
        dtype = p.2 ∙ same ∙ sym h;
        asks = record { leaves = λ p name a is. inl is; rows = λ cs i k. k.0; places = λ k. k.0 };
        value = λ cs i w k e.
            let q = means_parts first_value _ w e in
            let r = values_parts (eval first_meaning cs x i) (eval_all first_meaning cs ts i) q.0
            q.1 in
            r.2 ∙ ap first_value r.4 ∙ q.2;
      })

  pub first_rules_lawful : LawfulRules (first_meaning {V = V} {O = O}) first_rules
  first_rules_lawful = record {
    validity = λ f o ts t v h e. cc;
    reduce = λ f o ts t u h e. first_rewrites f o ts t u h e;
    simplify = λ f o ts t u h e. first_rewrites f o ts t u h e;
  }

pub first_identity : {V : Type 0} → V → IsOwnIdentity (codes "test.first")
first_identity f s e =
    let same : 116 ≡ 118 = ap (λ id. get_or id 0 0) e ∙ first_letter s in
    absurd (omega (arith, same))
