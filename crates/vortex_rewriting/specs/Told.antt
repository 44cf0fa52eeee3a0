-- The validity node, in terms of the table of rules.
use Rattle.std.specs.Prelude.{Option, Some, None}
use Rattle.vortex_interface.specs.Trees.{Tree}
use Rattle.vortex_rewriting.specs.declared.node.ReduceNodeValidity.{ReduceNodeValidity}
use Rattle.vortex_rewriting.specs.declared.node.ReduceNodeValidity.TheVariants.{Reduced}
use Rattle.vortex_rewriting.specs.declared.node.ReduceNodeValidity.TheVariants.{Irreducible}
use Rattle.vortex_rewriting.specs.Contexts.{InContext, IsMade}

-- the validity node, if there is one
abbrev pub told_node : {N : Type 0} → ReduceNodeValidity N → Option N
told_node (Reduced node) = Some node
told_node Irreducible = None

-- the validity node represents the table's result, in that context; none exactly where the table
-- has none
abbrev pub IsTold : {V O B N : Type 0} → InContext V O B → (N → InContext V O B)
    → Option (Tree V O) → ReduceNodeValidity N → Type 0
IsTold s seen answer told = IsMade s seen answer (told_node told)
