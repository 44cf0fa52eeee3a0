-- Syntax trees, with the brackets as written.
use Rattle.std.specs.Prelude.{ℕ, List, Bool, Option}
use Rattle.vortex_syntax.specs.declared.step.WrittenOperator.{WrittenOperator}
use Rattle.vortex_syntax.specs.declared.step.BetweenKind.{BetweenKind}
use Rattle.vortex_syntax.specs.declared.step.LikeKind.{LikeKind}
use Rattle.vortex_syntax.specs.declared.token.TrimSide.{TrimSide}
use Rattle.vortex_syntax.specs.Tokens.{Token}

-- what IS tests for: Unknown by a word that is `unknown`, ignoring case
pub data Tested : Type 0 where
  Null : Tested
  True : Tested
  False : Tested
  Unknown : List ℕ → Tested

-- operand: a column or a literal, by its token
-- negative: the literal of that number with a minus sign before it
-- minus: a tree that is no literal with a minus sign before it
-- plus: a tree with a plus sign before it
-- bit_not: a tree with a tilde before it
-- typed: a literal of the type of that name, nullable if the flag is true
-- titled: a literal of the type of that name, which comes before its text
-- measured: an interval of so many of a unit: `interval`, digits as a text or a number, the unit
-- grouped: a tree in brackets
-- tested: IS NOT with that test, or IS where the flag is false
-- null_tested: NOTNULL, or ISNULL where the flag is false
-- distinct: IS NOT DISTINCT FROM, or IS DISTINCT FROM where the flag is false
-- between: BETWEEN of an operand and its two bounds
-- matched: LIKE of an operand and a pattern, and the escape as written, if there is one
-- listed: NOT IN, or IN where the flag is false, of an operand, some items and a last one
-- cast: a tree, cast to the type of that name, nullable if the second flag is true; by `try_cast`
-- where the first flag is true
-- converted: cast by two colons, after a tree that is no literal without a type
-- chosen: CASE of some branches and a last one, a condition and a value
-- chosen_else: the same with a value after ELSE
-- nullary: the function of that name, without arguments; its bracket stands apart where the flag is
-- true
-- applied: the function of that name, of some arguments and a last one; its bracket is as above
-- extracted: the function of that name, `extract`, of a word before `from`, as a text, and a tree
-- after it; its bracket is as above
-- parted: the function of that name, which takes `from`, of the trees before and after it; its
-- bracket is as above
-- parted_for: the same with a tree after a word that is `for`, ignoring case
-- placed: the function of that name, which takes `in`, of the trees before and after it; its
-- bracket is as above
-- trimmed: the function of that name, which takes a side, of that side and the tree after `from`;
-- its bracket is as above
-- trimmed_by: the same of the trees before and after `from`, and of the side if there is one
mutual
  pub data Syntax : Type 0 where
    operand : Token → Syntax
    negative : List ℕ → Syntax
    minus : Syntax → Syntax
    plus : Syntax → Syntax
    bit_not : Syntax → Syntax
    typed : Syntax → List ℕ → Bool → Syntax
    titled : List ℕ → List ℕ → Syntax
    measured : List ℕ → Token → List ℕ → Syntax
    grouped : Syntax → Syntax
    negated : Syntax → Syntax
    joined : WrittenOperator → Syntax → Syntax → Syntax
    tested : Tested → Bool → Syntax → Syntax
    null_tested : Bool → Syntax → Syntax
    distinct : Bool → Syntax → Syntax → Syntax
    between : BetweenKind → Syntax → Syntax → Syntax → Syntax
    matched : LikeKind → Syntax → Syntax → Option (List ℕ) → Syntax
    listed : Bool → Syntax → Arguments → Syntax → Syntax
    cast : Bool → Syntax → List ℕ → Bool → Syntax
    converted : Syntax → List ℕ → Bool → Syntax
    chosen : Branches → Syntax → Syntax → Syntax
    chosen_else : Branches → Syntax → Syntax → Syntax → Syntax
    nullary : Bool → List ℕ → Syntax
    applied : Bool → List ℕ → Arguments → Syntax → Syntax
    extracted : Bool → List ℕ → List ℕ → Syntax → Syntax
    parted : Bool → List ℕ → Syntax → Syntax → Syntax
    parted_for : Bool → List ℕ → Syntax → Syntax → List ℕ → Syntax → Syntax
    placed : Bool → List ℕ → Syntax → Syntax → Syntax
    trimmed : Bool → List ℕ → TrimSide → Syntax → Syntax
    trimmed_by : Bool → List ℕ → Option TrimSide → Syntax → Syntax → Syntax

  -- the arguments or items before the last one
  pub data Arguments : Type 0 where
    no_arguments : Arguments
    argument : Arguments → Syntax → Arguments

  -- the branches of a CASE before the last one, after its operand if it has one
  pub data Branches : Type 0 where
    without_operand : Branches
    of_operand : Syntax → Branches
    branch : Branches → Syntax → Syntax → Branches
