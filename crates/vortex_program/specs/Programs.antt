-- What the rules make of the trees of a program.
use Rattle.std.specs.Prelude.{List, map, Option, Some, None, ◌≡◌, String, MatchOption}
use Rattle.std.specs.Prelude.{string_bytes}
use Rattle.std.specs.declared.alloc.Global.{Global}
use Rattle.vortex_interface.specs.Rewrites.{Rewrites}
use Rattle.vortex_interface.specs.Driver.{RunsTo}
use Rattle.vortex_interface.specs.Weights.{weight_told}
use Rattle.vortex_interface.specs.ValidityRules.{default_rules}
use Rattle.vortex_functions.specs.Walks.{AllMean}
use Rattle.vortex_rewriting.specs.Runs.{expression_step}
use Rattle.vortex_expressions.specs.Items.{Tree, meaning}
use Rattle.vortex_program.specs.declared.answer.Answer as bound
use Rattle.vortex_program.specs.Naming.{IsTreeText}

abbrev pub trees_of : List bound.Answer → List Tree
trees_of answers = map (λ a. a.tree) answers

-- what the rules make of a tree, within as many steps as it weighs: the one tree that their run leads
-- to, which has the values of the first
pub record IsOptimized (t u : Tree) : Type 0 where
  pub run : RunsTo (expression_step meaning (default_rules meaning)) (weight_told meaning t) t u
  pub kept : Rewrites meaning t u

-- what runs of an answer: what the rules make of its tree, of the same kind
pub record IsRunOf (written optimized : bound.Answer) : Type 0 where
  pub tree : IsOptimized written.tree optimized.tree
  pub kind : optimized.kind ≡ written.kind

-- what runs is what the rules make of what was written
abbrev pub AreOptimized : List bound.Answer → List bound.Answer → Type 0
AreOptimized written optimized = AllMean IsRunOf written optimized

-- what runs are rewrites of what was written
abbrev pub AreRewrites : List bound.Answer → List bound.Answer → Type 0
AreRewrites written optimized = AllMean (Rewrites meaning) (trees_of written) (trees_of optimized)

-- the text of the tree, if there is one
abbrev pub IsTextAt : Option Tree → Option (String Global) → Type 0
IsTextAt None words = words ≡ None
IsTextAt (Some t) words = MatchOption words ⊥ (λ w. IsTreeText t (string_bytes w))
