-- The rule of the driver.
use Rattle.std.specs.Prelude.{Option}
use Rattle.vortex_interface.specs.Trees.{Tree}
use Rattle.vortex_interface.specs.Driver.{first_of}
use Rattle.vortex_rewriting.specs.declared.rule.Rule.{Rule}
use Rattle.vortex_rewriting.specs.declared.rule.Rule.TheVariants.{Simplify, Reduce}

-- the result of Simplify for a tree at its root, or else that of Reduce
abbrev pub first_rule : {V O : Type 0} → (Rule → Tree V O → Option (Tree V O)) → Tree V O
    → Option (Tree V O)
first_rule applied = first_of (applied Simplify) (applied Reduce)
