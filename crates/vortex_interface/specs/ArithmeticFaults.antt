-- When executing a tree of shipped functions fails: exactly where in some row a call of arithmetic
-- has two operands, neither null, whose exact result its type does not hold.
use Rattle.std.specs.Prelude.{◌≡◌, ◌⊎◌, ℕ, ◌<◌, ℤ, List, [], ◌∷◌, None, Some}
use Rattle.vortex_types.specs.declared.dtype.PType.{PType}
use Rattle.vortex_errors.specs.declared.error.NumericOperator.{NumericOperator}
use Rattle.vortex_errors.specs.declared.error.VortexError.{VortexError}
use Rattle.vortex_errors.specs.declared.error.VortexError.TheVariants.{Arithmetic}
use Rattle.vortex_types.specs.Values.{number}
use Rattle.vortex_columns.specs.ColumnView.{ColumnView}
use Rattle.vortex_operators.specs.declared.operators.Operator.{Operator}
use Rattle.vortex_operators.specs.Arithmetic.{exact_result, held, numeric_operator_of}
use Rattle.vortex_interface.specs.Meaning.{Meaning}
use Rattle.vortex_interface.specs.Arithmetic.{integer_of}
use Rattle.vortex_interface.specs.Shipped.{Binary}
use Rattle.vortex_interface.specs.Functions.{Function, ours}
use Rattle.vortex_interface.specs.Trees.{Tree, leaf, constant, call, Trees, no_trees, tree}
use Rattle.vortex_interface.specs.Eval.{all_give, tree_types, types_or_none, eval_all, IsFirstFault}
use Rattle.vortex_interface.specs.Eval.{HasTreeRows}
use Rattle.vortex_interface.specs.Execution.{LeavesFit, other_length, Executes, RefusesExecution}
use Rattle.vortex_interface.specs.Weights.{OnlyShipped}

-- In a row a call of arithmetic has two operands, numbers of one integer type, whose exact result
-- the type does not hold: an overflow, or a division by zero.
pub record Overflows {V O : Type 0} (m : Meaning V O) (cs : List ColumnView) (o : NumericOperator)
    (f : Function V O) (ts : Trees V O) (i : ℕ) : Type 0 where
  pub operator : Operator
  pub called : f ≡ ours (Binary operator)
  pub numeric : numeric_operator_of operator ≡ Some o
  pub ptype : PType
  pub integers : integer_of (types_or_none (tree_types m ts)) ≡ Some ptype
  pub left : ℤ
  pub right : ℤ
  pub operands : eval_all m cs ts i ≡ all_give (number left ∷ number right ∷ [])
  pub unheld : held ptype (exact_result o left right) ≡ None

module _ {V O : Type 0} (m : Meaning V O) (cs : List ColumnView) (n : ℕ) (o : NumericOperator) where
  -- some call of the tree does, in some of n rows
  abbrev mutual
    pub HasOverflow : Tree V O → Type 0
    HasOverflow (leaf l) = ⊥
    HasOverflow (constant s) = ⊥
    HasOverflow (call f ts) = AnyHasOverflow ts ⊎ ((i : ℕ) × (i < n) × Overflows m cs o f ts i)

    pub AnyHasOverflow : Trees V O → Type 0
    AnyHasOverflow no_trees = ⊥
    AnyHasOverflow (tree t ts) = HasOverflow t ⊎ AnyHasOverflow ts

-- In n rows of a tree of shipped functions: if there is a first fault, some call of arithmetic
-- overflows in some row, and the fault is E7 of such a call; if a column has the tree's rows, none
-- does.
pub record FaultsExactly {V O : Type 0} (m : Meaning V O) (cs : List ColumnView) (n : ℕ)
    (t : Tree V O) : Type 0 where
  pub refused : (e : VortexError) → IsFirstFault m cs n t e
      → (o : NumericOperator) × (e ≡ Arithmetic o) × HasOverflow m cs n o t
  pub answered : (c : ColumnView) → HasTreeRows m cs n t c
      → (o : NumericOperator) → HasOverflow m cs n o t → ⊥

-- Executing a tree of shipped functions over matching columns of one length: if it fails, some call
-- of arithmetic overflows in some row, and the error is E7 of the first such call; if it succeeds,
-- none does. Unless memory runs out, `execute` does one or the other.
pub record ErrsExactly {V O : Type 0} (m : Meaning V O) (cs : List ColumnView) (n : ℕ)
    (t : Tree V O) : Type 0 where
  pub refused : (e : VortexError) → RefusesExecution m cs n t e
      → IsFirstFault m cs n t e × ((o : NumericOperator) × (e ≡ Arithmetic o)
      × HasOverflow m cs n o t)
  pub answered : (c : ColumnView) → Executes m cs n t c
      → (o : NumericOperator) → HasOverflow m cs n o t → ⊥

abbrev pub ErrsWhereArithmeticDoes : {V O : Type 0} → Meaning V O → Type 0
ErrsWhereArithmeticDoes {V} {O} m = (cs : List ColumnView) (n : ℕ) (t : Tree V O)
    → OnlyShipped t → LeavesFit cs t → other_length n cs ≡ None → ErrsExactly m cs n t
