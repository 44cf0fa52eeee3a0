-- The meaning of a tree: its type, its outcome in each row, and the first fault over all rows.
use Rattle.std.specs.Prelude.{◌≡◌, ℕ, ◌<◌, List, [], ◌∷◌, Option, Some, None, ⊤, ◌⊎◌, length}
use Rattle.std.specs.Prelude.{slice_get}
use Rattle.std.specs.Option.{option_and_then}
use Rattle.vortex_errors.specs.declared.error.VortexError.{VortexError}
use Rattle.vortex_types.specs.LogicalTypes.{LogicalType}
use Rattle.vortex_types.specs.Values.{Value}
use Rattle.vortex_columns.specs.ColumnView.{ColumnView, row}
use Rattle.vortex_interface.specs.Outcomes.{Outcome, gives, faults, Fault, GivesValue, IsRowFault}
use Rattle.vortex_interface.specs.Meaning.{Meaning}
use Rattle.vortex_interface.specs.Functions.{call_type, function_means}
use Rattle.vortex_interface.specs.Trees.{Leaf, place, held, Tree, leaf, constant, call, Trees}
use Rattle.vortex_interface.specs.Trees.{no_trees, tree}

abbrev pub leaf_type : Leaf → LogicalType
leaf_type (place p name t) = t
leaf_type (held c) = c.dtype

abbrev pub rows_or_none : Option ColumnView → List Value
rows_or_none None = []
rows_or_none (Some c) = c.rows

-- the i-th value of a leaf's column
abbrev pub leaf_value : List ColumnView → Leaf → ℕ → Value
leaf_value cs (place p name t) i = row (rows_or_none (slice_get cs p)) i
leaf_value cs (held c) i = row c.rows i

-- the children's values, or the fault of the first child that has one
pub data Inputs : Type 0 where
  all_give : List Value → Inputs
  one_faults : Fault → Inputs

abbrev pub with_first : Outcome → Inputs → Inputs
with_first (faults f) inputs = one_faults f
with_first (gives v) (one_faults f) = one_faults f
with_first (gives v) (all_give vs) = all_give (v ∷ vs)

abbrev pub then_means : (List Value → Outcome) → Inputs → Outcome
then_means means (one_faults f) = faults f
then_means means (all_give vs) = means vs

abbrev pub types_or_none : Option (List LogicalType) → List LogicalType
types_or_none None = []
types_or_none (Some ts) = ts

abbrev pub with_type : Option LogicalType → Option (List LogicalType) → Option (List LogicalType)
with_type None ts = None
with_type (Some t) None = None
with_type (Some t) (Some ts) = Some (t ∷ ts)

module _ {V O : Type 0} (m : Meaning V O) where
  -- the type of a tree, or none if it is not well typed
  abbrev mutual
    pub tree_type : Tree V O → Option LogicalType
    tree_type (leaf l) = Some (leaf_type l)
    tree_type (constant s) = Some s.dtype
    tree_type (call f ts) = option_and_then (call_type m f) (tree_types ts)

    pub tree_types : Trees V O → Option (List LogicalType)
    tree_types no_trees = Some []
    tree_types (tree t ts) = with_type (tree_type t) (tree_types ts)

  module _ (cs : List ColumnView) where
    -- the outcome in row i over the columns of a scope
    abbrev mutual
      pub eval : Tree V O → ℕ → Outcome
      eval (leaf l) i = gives (leaf_value cs l i)
      eval (constant s) i = gives s.value
      eval (call f ts) i =
          then_means (function_means m f (types_or_none (tree_types ts))) (eval_all ts i)

      pub eval_all : Trees V O → ℕ → Inputs
      eval_all no_trees i = all_give []
      eval_all (tree t ts) i = with_first (eval t i) (eval_all ts i)

    module _ (n : ℕ) where
      -- no row faults
      abbrev pub Settled : Tree V O → Type 0
      Settled t = (i : ℕ) → i < n → GivesValue (eval t i)

      abbrev pub AllSettled : Trees V O → Type 0
      AllSettled no_trees = ⊤
      AllSettled (tree t ts) = Settled t × AllSettled ts

      -- The error reports a row's fault of the first call, children before their parent and from
      -- left to right, that faults in some row in which its children have values. If that is a
      -- caller's function, the row is unspecified.
      abbrev mutual
        pub IsFirstFault : Tree V O → VortexError → Type 0
        IsFirstFault (leaf l) e = ⊥
        IsFirstFault (constant s) e = ⊥
        IsFirstFault (call f ts) e =
            IsFirstFaultIn ts e ⊎ (AllSettled ts × IsRowFault n (eval (call f ts)) e)

        pub IsFirstFaultIn : Trees V O → VortexError → Type 0
        IsFirstFaultIn no_trees e = ⊥
        IsFirstFaultIn (tree t ts) e = IsFirstFault t e ⊎ (Settled t × IsFirstFaultIn ts e)

      -- the column has the tree's type, the number of rows, and in each row the tree's value
      pub record HasTreeRows (t : Tree V O) (c : ColumnView) : Type 0 where
        pub dtype : tree_type t ≡ Some c.dtype
        pub count : length c.rows ≡ n
        pub each : (i : ℕ) → i < n → eval t i ≡ gives (row c.rows i)
