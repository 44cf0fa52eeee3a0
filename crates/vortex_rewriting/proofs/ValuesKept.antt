-- What rewriting keeps of the rows of an array.
use Rattle.std.specs.Prelude.{Option, Some, None, IfSome, [], Result}
use Rattle.vortex_errors.specs.declared.error.VortexError.{VortexError}
use Rattle.vortex_errors.specs.Answers.{AnswersUnlessMemory}
use Rattle.vortex_errors.proofs.Answering.{AnswersUnlessMemory-weaker}
use Rattle.vortex_interface.specs.Meaning.{Meaning}
use Rattle.vortex_interface.specs.Rewrites.{Rewrites}
use Rattle.vortex_functions.specs.Arrays.{Array, tree_in, IsTyped}
use Rattle.vortex_functions.specs.ArrayExecuting.{KeepsValues}
use Rattle.vortex_rewriting.specs.declared.tree_node.TreeReduceNode.{TreeReduceNode}
use Rattle.vortex_rewriting.specs.NodeTrees.{array_of, tree_of}

-- a rewrite of a typed array keeps the values of its rows
module _ {V O : Type 0} (m : Meaning V O) (a : Array V O) (typed : IsTyped a)
    (answer : Result (Option (TreeReduceNode (Array V O))) VortexError) where
  abbrev IsRewritten : Option (TreeReduceNode (Array V O)) → Type 0
  IsRewritten o = IfSome o (λ made. Rewrites m (tree_in a) (tree_of made))

  abbrev KeepsThem : Option (TreeReduceNode (Array V O)) → Type 0
  KeepsThem o = IfSome o (λ made. KeepsValues m a (array_of made))

  pub values_kept : AnswersUnlessMemory answer IsRewritten → AnswersUnlessMemory answer KeepsThem
  values_kept = AnswersUnlessMemory-weaker answer IsRewritten KeepsThem by
    where
      by : (o : Option (TreeReduceNode (Array V O))) → IsRewritten o → KeepsThem o
      by None h = tt
      by (Some made) h = λ i w lt e. h.value [] i w (typed i lt) e
