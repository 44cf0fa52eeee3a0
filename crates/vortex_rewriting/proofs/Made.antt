-- A node that represents a tree in a context.
use Rattle.std.proofs.Common.{◌≡◌, Option, Some, None, refl, ap, ◌∙◌}
use Rattle.std.specs.Prelude.{IfSome}
use Rattle.std.specs.Option.{option_map}
use Rattle.vortex_interface.specs.Trees.{Tree}
use Rattle.vortex_rewriting.specs.Contexts.{InContext, tree_by, with_tree, IsMade}

module _ {V O B N : Type 0} (seen : N → InContext V O B) (s : InContext V O B) where
  -- the tree only
  pub made_tree : (o : Option (Tree V O)) (answer : Option N) → IsMade s seen o answer
      → option_map (tree_by seen) answer ≡ o
  made_tree None None e = refl
  made_tree None (Some node) e = cc
  made_tree (Some t) None e = cc
  made_tree (Some t) (Some node) e =
      let is : seen node ≡ with_tree s t = cc in
      ap (λ p. Some p.tree) is

  -- and the context only
  pub made_context : (o : Option (Tree V O)) (answer : Option N) → IsMade s seen o answer
      → IfSome answer (λ node. (seen node).context ≡ s.context)
  made_context o None e = tt
  made_context None (Some node) e = cc
  made_context (Some t) (Some node) e =
      let is : seen node ≡ with_tree s t = cc in
      ap (λ (p : InContext V O B). p.context) is

  -- both together
  pub is_made : (node : N) (o : Option (Tree V O)) → Some (seen node).tree ≡ o
      → (seen node).context ≡ s.context → IsMade s seen o (Some node)
  is_made node o is same =
      (λ j. Some (record { tree = (seen node).tree; context = same j }))
      ∙ ap (option_map (with_tree s)) is

  -- the same for another tree of the context
  pub made_as : (l : InContext V O B) → l.context ≡ s.context → (o p : Option (Tree V O)) → o ≡ p
      → (answer : Option N) → IsMade l seen o answer → IsMade s seen p answer
  made_as l same o p is answer e =
      e ∙ (λ j. option_map (λ t. record { tree = t; context = same j }) (is j))
