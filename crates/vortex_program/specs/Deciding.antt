-- What decides a tree that joins operands by And or Or before all of them are executed.
use Rattle.std.specs.Prelude.{◌≡◌, ℕ, ◌<◌, ◌≤◌, Bool, true, false, List, [], ◌∷◌, length, ⊤}
use Rattle.std.specs.Prelude.{slice_index_or}
use Rattle.std.specs.declared.borrow.Cow.{Cow}
use Rattle.vortex_types.specs.Values.{truth}
use Rattle.vortex_columns.specs.ColumnView.{ColumnView, row}
use Rattle.vortex_columns.specs.ValidityView.{ValidityView, ValidityForm, all_invalid, array}
use Rattle.vortex_operators.specs.declared.operators.Operator.{Operator}
use Rattle.vortex_operators.specs.Operators.{is_boolean}
use Rattle.vortex_operators.specs.Kleene.{decides}
use Rattle.vortex_interface.specs.Eval.{HasTreeRows, Settled}
use Rattle.vortex_interface.specs.Meaning.{Meaning}
use Rattle.vortex_interface.specs.Functions.{function_infallible}
use Rattle.vortex_interface.specs.Trees as trees
use Rattle.vortex_interface.specs.Trees.{leaf, constant, call, Trees, no_trees, tree}
use Rattle.vortex_interface.specs.ComparisonTrees.{operated}
use Rattle.vortex_functions.specs.Executing.{HasRows}
use Rattle.vortex_expressions.specs.Items.{Tree, meaning}
use Rattle.vortex_program.specs.Coded.{HaveCodes}
use Rattle.vortex_program.specs.declared.coded.CodedRows.{CodedRows}
use Rattle.vortex_program.specs.declared.deciding.Joined.{Joined}

-- each bit from one on, up to another, is this truth value
abbrev pub AreAllBetween : Bool → ℕ → ℕ → List Bool → Type 0
AreAllBetween b from to bits =
    (i : ℕ) → from ≤ i → i < to → slice_index_or bits i false ≡ b

abbrev pub AreAll : Bool → List Bool → Type 0
AreAll b bits = AreAllBetween b 0 (length bits) bits

-- no row is null by its validity
abbrev pub AllValidBy : ValidityForm → List Bool → Type 0
AllValidBy all_invalid bits = ⊥
AllValidBy array bits = AreAll true bits
AllValidBy f bits = ⊤

abbrev pub AllValid : ValidityView → Type 0
AllValid v = AllValidBy v.form v.bits

-- each row is this truth value, and so not null
abbrev pub IsTruth : Bool → ColumnView → Type 0
IsTruth b c = (i : ℕ) → i < length c.rows → row c.rows i ≡ truth b

module _ {V O : Type 0} where
  -- the tree joins these two operands by And or Or
  pub record Joins (op : Operator) (t left right : trees.Tree V O) : Type 0 where
    pub is : t ≡ operated op left right
    pub boolean : is_boolean op ≡ true

  -- the tree is a call of And or Or
  abbrev pub IsJoin : Operator → trees.Tree V O → Type 0
  IsJoin op t = (left : trees.Tree V O) × (right : trees.Tree V O) × Joins op t left right

  module _ (m : Meaning V O) where
    -- each call of the tree is of a function that faults for no values
    abbrev mutual
      pub IsInfallible : trees.Tree V O → Type 0
      IsInfallible (leaf l) = ⊤
      IsInfallible (constant s) = ⊤
      IsInfallible (call f ts) = (function_infallible m f ≡ true) × AllInfallible ts

      pub AllInfallible : Trees V O → Type 0
      AllInfallible no_trees = ⊤
      AllInfallible (tree t ts) = IsInfallible t × AllInfallible ts

-- what a node's own function says of faults
abbrev pub IsNodeInfallible : {V O : Type 0} → Meaning V O → trees.Tree V O → Type 0
IsNodeInfallible m (leaf l) = ⊤
IsNodeInfallible m (constant s) = ⊤
IsNodeInfallible m (call f ts) = function_infallible m f ≡ true

-- from a tree down to its innermost left operand: each node is the left operand of the one before
abbrev pub IsSpine : Tree → List Joined → Tree → Type 0
IsSpine root [] innermost = innermost ≡ root
IsSpine root (j ∷ js) innermost =
    (j.node.now ≡ root) × (left : Tree) × (right : Tree)
    × Joins j.operator j.node.now left right × IsSpine left js innermost

-- the column has the rows of the node's left operand
abbrev pub HasLeftRows : List ColumnView → ℕ → Joined → Cow ColumnView → Type 0
HasLeftRows cs n joined column =
    (left : Tree) × (right : Tree)
    × Joins joined.operator joined.node.now left right × HasRows meaning cs n left column

-- the column has the rows of the node's left operand, the right one has a value in each row, and
-- each row of the column has a code: of its own number, or of a row that is decided as it is
pub record LeavesCoded (cs : List ColumnView) (n : ℕ) (joined : Joined) (c : ColumnView)
    (rows : CodedRows) : Type 0 where
  pub left : Tree
  pub right : Tree
  pub joins : Joins joined.operator joined.node.now left right
  pub has : HasTreeRows meaning cs n left c
  pub truth : Bool
  pub decides : decides joined.operator truth ≡ true
  pub values : Settled meaning cs n right
  pub coded : HaveCodes truth c rows.numbers.items rows.codes.items (length c.rows)
