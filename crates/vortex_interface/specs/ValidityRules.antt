-- The validity of a node: a tree that is true in each row where the node's value is not null, and
-- false elsewhere.
use Rattle.std.specs.Prelude.{ℕ, zero, suc, List, [], ◌∷◌, Option, Some, None, Bool, true, false}
use Rattle.std.specs.Prelude.{not, map, length, if◌then◌else◌}
use Rattle.std.specs.List.{list_any}
use Rattle.vortex_types.specs.LogicalTypes.{LogicalType, null_type, bool_type, with_nullability}
use Rattle.vortex_types.specs.Values.{truth, is_null}
use Rattle.vortex_columns.specs.ColumnView.{ColumnView}
use Rattle.vortex_columns.specs.ValidityView.{ValidityForm, non_nullable, all_valid, all_invalid}
use Rattle.vortex_columns.specs.ValidityView.{array}
use Rattle.vortex_operators.specs.declared.operators.Operator.TheVariants.{And}
use Rattle.vortex_interface.specs.Meaning.{Meaning}
use Rattle.vortex_interface.specs.Functions.{Function, ours, custom, function_type, function_strict}
use Rattle.vortex_interface.specs.Trees.{Leaf, place, held, Tree, leaf, constant, call, Trees}
use Rattle.vortex_interface.specs.Trees.{no_trees, tree}
use Rattle.vortex_interface.specs.Eval.{tree_types}
use Rattle.vortex_interface.specs.ComparisonTrees.{operated}
use Rattle.vortex_interface.specs.Rules.{Rules, truth_constant, is_not_null_of, may_be_null}
use Rattle.vortex_interface.specs.Rules.{is_nullable_tree}

-- the column of Bool without null that is true in each row that is not null
abbrev pub validity_column : ColumnView → ColumnView
validity_column c =
    record {
      dtype = bool_type false;
      rows = map (λ v. truth (not (is_null v))) c.rows;
      constant = None;
      form = non_nullable;
    }

-- the validity of a held column, by its form
abbrev pub column_validity : {V O : Type 0} → ValidityForm → ColumnView → Tree V O
column_validity non_nullable c = truth_constant false true
column_validity all_valid c = truth_constant false true
column_validity all_invalid c = truth_constant false false
column_validity array c = leaf (held (validity_column c))

-- the column of an expression has no validity that is a tree
abbrev pub leaf_validity : {V O : Type 0} → Leaf → Option (Tree V O)
leaf_validity (place p name t) = None
leaf_validity (held c) = Some (column_validity c.form c)

-- One round of joining by And: neighbours are paired from the left, and an odd last one is joined,
-- as the right operand, to the last pair.
abbrev pub one_round : {V O : Type 0} → List (Tree V O) → List (Tree V O)
one_round [] = []
one_round (a ∷ []) = a ∷ []
one_round (a ∷ b ∷ []) = operated And a b ∷ []
one_round (a ∷ b ∷ c ∷ []) = operated And (operated And a b) c ∷ []
one_round (a ∷ b ∷ c ∷ d ∷ ts) = operated And a b ∷ one_round (c ∷ d ∷ ts)

-- that many rounds
abbrev pub rounds : {V O : Type 0} → ℕ → List (Tree V O) → List (Tree V O)
rounds zero ts = ts
rounds (suc n) ts = rounds n (one_round ts)

-- the first tree, or true if there is none
abbrev pub first_or_true : {V O : Type 0} → List (Tree V O) → Tree V O
first_or_true [] = truth_constant false true
first_or_true (t ∷ ts) = t

-- the trees joined by And in rounds until one is left, which takes no more rounds than there are
-- trees; true if there is none
abbrev pub all_of : {V O : Type 0} → List (Tree V O) → Tree V O
all_of ts = first_or_true (rounds (length ts) ts)

-- the type Null
abbrev pub is_null_type : LogicalType → Bool
is_null_type null_type = true
is_null_type t = false

-- the types, each made non-nullable at the top
abbrev pub without_null : List LogicalType → List LogicalType
without_null = map (λ t. with_nullability t false)

module _ {V O : Type 0} (m : Meaning V O) where
  -- `is_not_null` of each nullable tree, in order
  abbrev pub null_tests : Trees V O → List (Tree V O)
  null_tests no_trees = []
  null_tests (tree t ts) =
      if is_nullable_tree m t then is_not_null_of t ∷ null_tests ts else null_tests ts

  -- no child is null
  abbrev pub union_child_validities : Trees V O → Tree V O
  union_child_validities ts = all_of (null_tests ts)

  -- over children of these types: none if one is of type Null, or if the call could be null though
  -- no child is
  abbrev pub validity_over : Function V O → Trees V O → List LogicalType → Option (Tree V O)
  validity_over f ts types =
      if list_any is_null_type types then None
      else (if may_be_null (function_type m f (without_null types)) then None
      else Some (union_child_validities ts))

  -- over children whose types may be unknown
  abbrev pub validity_of_typed : Function V O → Trees V O → Option (List LogicalType)
      → Option (Tree V O)
  validity_of_typed f ts None = None
  validity_of_typed f ts (Some types) = validity_over f ts types

  -- the validity of a call of a strict function: of every shipped function, and perhaps of a
  -- caller's
  abbrev pub default_validity : Function V O → Trees V O → Option (Tree V O)
  default_validity f ts =
      if function_strict m f then validity_of_typed f ts (tree_types m ts) else None

  -- the rules of functions that have only the default validity
  abbrev pub default_rules : Rules V O
  default_rules =
      record {
        validity_of = λ f o ts. default_validity (custom f o) ts;
        reduce_of = λ f o ts. None;
        simplify_of = λ f o ts. None;
      }

  -- the validity of a node, or none; for a constant, whether it is not null
  abbrev pub validity : Rules V O → Tree V O → Option (Tree V O)
  validity r (leaf l) = leaf_validity l
  validity r (constant s) = Some (truth_constant false (not (is_null s.value)))
  validity r (call (ours s) ts) = default_validity (ours s) ts
  validity r (call (custom f o) ts) = r.validity_of f o ts
