-- A tree's steps in postfix order: its operands' steps first, and no brackets.
use Rattle.std.specs.Prelude.{ℕ, suc, List, [], ◌∷◌, ◌++◌, Bool, true, false, Option, Some, None}
use Rattle.std.specs.Prelude.{reverse}
use Rattle.vortex_syntax.specs.declared.step.LikeKind.{LikeKind}
use Rattle.vortex_syntax.specs.declared.step.Test.{Test}
use Rattle.vortex_syntax.specs.declared.step.Test.TheVariants as test
use Rattle.vortex_syntax.specs.declared.step.Call.{Call}
use Rattle.vortex_syntax.specs.declared.step.Call.TheVariants as call
use Rattle.vortex_syntax.specs.declared.step.Step as read
use Rattle.vortex_syntax.specs.declared.step.Step.TheVariants as variant
use Rattle.vortex_syntax.specs.declared.token.TrimSide.{TrimSide}
use Rattle.vortex_syntax.specs.declared.token.TrimSide.TheVariants.{Both}
use Rattle.vortex_syntax.specs.Tokens.{Token, name, text, token_in}
use Rattle.vortex_syntax.specs.Syntax as tree
use Rattle.vortex_syntax.specs.Syntax.{Syntax, Tested, Arguments, Branches}

pub data Step : Type 0 where
  operand : Token → Step
  negative : List ℕ → Step
  typed : List ℕ → Bool → Step
  cast : Bool → List ℕ → Bool → Step
  escaped : LikeKind → List ℕ → Step
  applied : List ℕ → ℕ → Step
  listed : Bool → ℕ → Step
  chosen : Bool → ℕ → Bool → Step
  trimmed : TrimSide → Bool → Step
  called : Call → Step

abbrev pub step_in : read.Step → Step
step_in (variant.Operand t) = operand (token_in t)
step_in (variant.Negative ds) = negative ds.now
step_in (variant.Typed w n) = typed w.now n
step_in (variant.Cast p w n) = cast p w.now n
step_in (variant.Escaped k e) = escaped k e.now
step_in (variant.Apply w n) = applied w.now n
step_in (variant.In n k) = listed n k
step_in (variant.Case n k e) = chosen n k e
step_in (variant.Trim d c) = trimmed d c
step_in (variant.Call c) = called c

abbrev pub like_step : LikeKind → Option (List ℕ) → Step
like_step k None = called (call.Like k)
like_step k (Some e) = escaped k e

abbrev pub test_of : Tested → Test
test_of tree.Null = test.Null
test_of tree.True = test.True
test_of tree.False = test.False
test_of (tree.Unknown w) = test.Unknown

-- both sides where none is meant
abbrev pub side_of : Option TrimSide → TrimSide
side_of None = Both
side_of (Some d) = d

abbrev pub argument_count : Arguments → ℕ
argument_count tree.no_arguments = 0
argument_count (tree.argument args a) = suc (argument_count args)

abbrev pub has_operand : Branches → Bool
has_operand tree.without_operand = false
has_operand (tree.of_operand a) = true
has_operand (tree.branch bs c v) = has_operand bs

abbrev pub branch_count : Branches → ℕ
branch_count tree.without_operand = 0
branch_count (tree.of_operand a) = 0
branch_count (tree.branch bs c v) = suc (branch_count bs)

abbrev mutual
  pub postfix : Syntax → List Step
  postfix (tree.operand t) = operand t ∷ []
  postfix (tree.negative ds) = negative ds ∷ []
  postfix (tree.minus a) = postfix a ++ (called call.Minus ∷ [])
  postfix (tree.plus a) = postfix a ++ (called call.Plus ∷ [])
  postfix (tree.bit_not a) = postfix a ++ (called call.BitNot ∷ [])
  postfix (tree.typed a w n) = postfix a ++ (typed w n ∷ [])
  postfix (tree.titled w bs) = operand (text bs) ∷ typed w false ∷ []
  postfix (tree.measured w t u) = operand t ∷ typed u false ∷ []
  postfix (tree.grouped a) = postfix a
  postfix (tree.negated a) = postfix a ++ (called call.Not ∷ [])
  postfix (tree.joined o a b) = postfix a ++ (postfix b ++ (called (call.Join o) ∷ []))
  postfix (tree.tested k n a) = postfix a ++ (called (call.Is (test_of k) n) ∷ [])
  postfix (tree.null_tested n a) = postfix a ++ (called (call.Is test.Null n) ∷ [])
  postfix (tree.distinct n a b) = postfix a ++ (postfix b ++ (called (call.Distinct n) ∷ []))
  postfix (tree.between k a low high) =
      postfix a ++ (postfix low ++ (postfix high ++ (called (call.Between k) ∷ [])))
  postfix (tree.matched k a p e) = postfix a ++ (postfix p ++ (like_step k e ∷ []))
  postfix (tree.listed n a args b) =
      postfix a ++ (all_postfix args ++ (postfix b ++ (listed n (suc (argument_count args)) ∷ [])))
  postfix (tree.cast p a w n) = postfix a ++ (cast p w n ∷ [])
  postfix (tree.converted a w n) = postfix a ++ (cast false w n ∷ [])
  postfix (tree.chosen bs c v) =
      branches_postfix bs ++ (postfix c ++ (postfix v
      ++ (chosen (has_operand bs) (suc (branch_count bs)) false ∷ [])))
  postfix (tree.chosen_else bs c v e) =
      branches_postfix bs ++ (postfix c ++ (postfix v ++ (postfix e
      ++ (chosen (has_operand bs) (suc (branch_count bs)) true ∷ []))))
  postfix (tree.nullary p w) = applied w 0 ∷ []
  postfix (tree.applied p w args a) =
      all_postfix args ++ (postfix a ++ (applied w (suc (argument_count args)) ∷ []))
  postfix (tree.extracted p f w a) = operand (text w) ∷ (postfix a ++ (applied f 2 ∷ []))
  postfix (tree.parted p f s a) = postfix s ++ (postfix a ++ (applied f 2 ∷ []))
  postfix (tree.parted_for p f s a w b) =
      postfix s ++ (postfix a ++ (postfix b ++ (applied f 3 ∷ [])))
  postfix (tree.placed p f a b) = postfix a ++ (postfix b ++ (applied f 2 ∷ []))
  postfix (tree.trimmed p f d a) = postfix a ++ (trimmed d false ∷ [])
  postfix (tree.trimmed_by p f o c a) =
      postfix c ++ (postfix a ++ (trimmed (side_of o) true ∷ []))

  pub all_postfix : Arguments → List Step
  all_postfix tree.no_arguments = []
  all_postfix (tree.argument args a) = all_postfix args ++ postfix a

  pub branches_postfix : Branches → List Step
  branches_postfix tree.without_operand = []
  branches_postfix (tree.of_operand a) = postfix a
  branches_postfix (tree.branch bs c v) = branches_postfix bs ++ (postfix c ++ postfix v)

-- the name that is the last step, and the steps before it
abbrev pub name_back : List Step → Option (List Step × List ℕ)
name_back (operand (name w) ∷ xs) = Some (reverse xs, w)
name_back xs = None

unfoldable pub last_name : List Step → Option (List Step × List ℕ)
last_name xs = name_back (reverse xs)
