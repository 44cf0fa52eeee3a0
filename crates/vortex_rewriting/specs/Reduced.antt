-- Results of rules for nodes, in terms of the table of rules.
use Rattle.std.specs.Prelude.{◌≡◌, Option}
use Rattle.std.specs.Option.{option_map}
use Rattle.vortex_interface.specs.Meaning.{Meaning}
use Rattle.vortex_interface.specs.Trees.{Tree}
use Rattle.vortex_interface.specs.Rules.{Rules}
use Rattle.vortex_interface.specs.ReduceRules.{reduce}
use Rattle.vortex_interface.specs.SimplifyRules.{simplify}
use Rattle.vortex_interface.specs.ValidityRules.{validity}
use Rattle.vortex_rewriting.specs.declared.node.ReduceNodeValidity.{ReduceNodeValidity}
use Rattle.vortex_rewriting.specs.Contexts.{InContext, IsMade}
use Rattle.vortex_rewriting.specs.Told.{IsTold}

module _ {V O B N : Type 0} (m : Meaning V O) where
  module _ (r : Rules V O) (seen : N → InContext V O B) (s : InContext V O B) where
    -- the node represents the result of Reduce for the tree, in the same context; none exactly
    -- where no rule applies
    abbrev pub IsReducedBy : Option N → Type 0
    IsReducedBy answer = IsMade s seen (reduce m r s.tree) answer

    -- the same for the tree's validity
    abbrev pub IsValidityBy : ReduceNodeValidity N → Type 0
    IsValidityBy told = IsTold s seen (validity m r s.tree) told

  -- the same for Reduce, and for Simplify, whatever a caller's rules are
  abbrev pub IsReduced : (N → InContext V O B) → InContext V O B → Option N → Type 0
  IsReduced seen s answer = (r : Rules V O) → IsReducedBy r seen s answer

  abbrev pub IsSimplified : (N → InContext V O B) → InContext V O B → Option N → Type 0
  IsSimplified seen s answer = (r : Rules V O) → IsMade s seen (simplify m r s.tree) answer

-- an expression is the result of Simplify for another; none exactly where no rule applies
abbrev pub IsSimplifiedBy : {V O : Type 0} → Meaning V O → Rules V O → Tree V O → Option (Tree V O)
    → Type 0
IsSimplifiedBy m r t answer = option_map (λ u. u) answer ≡ simplify m r t
