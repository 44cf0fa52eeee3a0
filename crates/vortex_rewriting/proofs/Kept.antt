-- A rule's result keeps the tree's type and its values.
use Rattle.std.proofs.Common.{◌≡◌, Option, Some, None, sym}
use Rattle.std.specs.Prelude.{IfSome, Result}
use Rattle.vortex_errors.specs.declared.error.VortexError.{VortexError}
use Rattle.vortex_errors.specs.Answers.{AnswersUnlessMemory}
use Rattle.vortex_errors.proofs.Answering.{AnswersUnlessMemory-weaker}
use Rattle.vortex_types.specs.LogicalTypes.{LogicalType}
use Rattle.vortex_interface.specs.Meaning.{Meaning, Lawful}
use Rattle.vortex_interface.specs.Trees.{Tree}
use Rattle.vortex_interface.specs.Eval.{tree_type}
use Rattle.vortex_interface.specs.Rules.{Rules}
use Rattle.vortex_interface.specs.ReduceRules.{reduce}
use Rattle.vortex_interface.specs.Rewrites.{Rewrites, LawfulRules}
use Rattle.vortex_interface.proofs.Reducing.{reduce_sound}
use Rattle.vortex_interface.proofs.Simplifying.{simplify_sound}
use Rattle.vortex_rewriting.specs.Contexts.{InContext}
use Rattle.vortex_rewriting.specs.Reduced.{IsReducedBy, IsSimplifiedBy}
use Rattle.vortex_rewriting.proofs.Made.{made_tree}

module _ {V O : Type 0} {m : Meaning V O} {r : Rules V O} (lawful : Lawful m)
    (rules : LawfulRules m r) where
  module _ {N B : Type 0} (seen : N → InContext V O B) (s : InContext V O B) where
    abbrev Keeps : Option N → Type 0
    Keeps made = IfSome made (λ node. Rewrites m s.tree (seen node).tree)

    pub reduced_kept : (k : LogicalType) → tree_type m s.tree ≡ Some k
        → (answer : Result (Option N) VortexError)
        → AnswersUnlessMemory answer (IsReducedBy m r seen s) → AnswersUnlessMemory answer Keeps
    reduced_kept k typed answer = AnswersUnlessMemory-weaker answer (IsReducedBy m r seen s) Keeps by
      where
        by : (made : Option N) → IsReducedBy m r seen s made → Keeps made
        by None e = tt
        by (Some node) e =
            reduce_sound m lawful r rules s.tree (seen node).tree k typed
            (sym (made_tree seen s (reduce m r s.tree) (Some node) e))

  pub simplified_kept : (t : Tree V O) (k : LogicalType) → tree_type m t ≡ Some k
      → (answer : Result (Option (Tree V O)) VortexError)
      → AnswersUnlessMemory answer (IsSimplifiedBy m r t)
      → AnswersUnlessMemory answer (λ made. IfSome made (Rewrites m t))
  simplified_kept t k typed answer =
      AnswersUnlessMemory-weaker answer (IsSimplifiedBy m r t) (λ made. IfSome made (Rewrites m t)) by
    where
      by : (made : Option (Tree V O)) → IsSimplifiedBy m r t made → IfSome made (Rewrites m t)
      by None e = tt
      by (Some u) e = simplify_sound m lawful r rules t u k typed (sym e)
