-- Results of binding a leaf or a call, and when a result is borrowed.
use Rattle.std.specs.Prelude.{◌≡◌, ℕ, List, Some, None, true, false, length, map, slice_get}
use Rattle.std.specs.Prelude.{Result}
use Rattle.std.specs.declared.borrow.Cow.{Cow}
use Rattle.std.specs.declared.borrow.Cow.TheVariants as cow
use Rattle.vortex_errors.specs.declared.error.VortexError.{VortexError}
use Rattle.vortex_errors.specs.declared.error.VortexError.TheVariants.{ArityMismatch, ScopeMismatch}
use Rattle.vortex_errors.specs.Answers.{Answers}
use Rattle.vortex_types.specs.LogicalTypes.{LogicalType, Fields, field_type, find_field}
use Rattle.vortex_types.specs.FieldNames.{field_name}
use Rattle.vortex_columns.specs.ColumnView.{ColumnView}
use Rattle.vortex_interface.specs.Meaning.{Meaning, fits}
use Rattle.vortex_interface.specs.Functions.{Function, function_arity, function_type, IsMismatchOf}
use Rattle.vortex_interface.specs.Trees.{place, Tree, leaf, call, trees_of}
use Rattle.vortex_interface.specs.Eval.{tree_types}

-- the leaf of the first field of that name
pub record IsColumnLeaf {V O : Type 0} (scope : Fields) (name : List ℕ) (t : Tree V O) : Type 0
  where
    pub found : ℕ × LogicalType
    pub named : find_field name scope ≡ Some found
    pub is : t ≡ leaf (place found.0 name found.1)

-- the leaf of the field at that index
abbrev pub field_leaf : {V O : Type 0} → ℕ → Fields → Tree V O
field_leaf k fs = leaf (place k (field_name k fs) (field_type k fs))

-- the call of the function on the trees, whose count fits and whose types are accepted
pub record IsCall {V O : Type 0} (m : Meaning V O) (f : Function V O) (ts : List (Tree V O))
    (t : Tree V O) : Type 0 where
  pub is : t ≡ call f (trees_of ts)
  pub arity : fits (function_arity m f) (length ts) ≡ true
  pub types : List LogicalType
  pub typed : tree_types m (trees_of ts) ≡ Some types
  pub dtype : LogicalType
  pub accepted : function_type m f types ≡ Some dtype

-- first a count that does not fit, then types that are not accepted
pub data RefusesCall {V O : Type 0} (m : Meaning V O) (f : Function V O) (ts : List (Tree V O))
    (e : VortexError) : Type 0 where
  count : fits (function_arity m f) (length ts) ≡ false
      → e ≡ ArityMismatch (function_arity m f) (length ts) → RefusesCall m f ts e
  types : (ks : List LogicalType) → fits (function_arity m f) (length ts) ≡ true
      → tree_types m (trees_of ts) ≡ Some ks → function_type m f ks ≡ None
      → IsMismatchOf f ks e → RefusesCall m f ts e

-- the results of binding a leaf, and of binding a call
abbrev pub AnswersLeaf : {V O : Type 0} → Fields → List ℕ → Result (Tree V O) VortexError → Type 0
AnswersLeaf scope name result =
    Answers result (IsColumnLeaf scope name)
    (λ e. (find_field name scope ≡ None) × (e ≡ ScopeMismatch))

abbrev pub AnswersBinding : {V O : Type 0} → Meaning V O → Function V O → List (Tree V O)
    → Result (Tree V O) VortexError → Type 0
AnswersBinding m f ts result = Answers result (IsCall m f ts) (RefusesCall m f ts)

-- for a tree of any kind, with its context
abbrev pub AnswersTreeCall : {V O S B : Type 0} → (S → Tree V O) → (S → B) → Meaning V O
    → Function V O → List S → B → Result S VortexError → Type 0
AnswersTreeCall tree_of context_of m f xs b result =
    Answers result (λ a. IsCall m f (map tree_of xs) (tree_of a) × (context_of a ≡ b))
    (RefusesCall m f (map tree_of xs))

abbrev pub IsLeaf : {V O : Type 0} → Tree V O → Type 0
IsLeaf (leaf l) = Unit {0}
IsLeaf t = ⊥

-- the leaf of a column at that place of a scope
abbrev pub IsLeafAt : {V O : Type 0} → ℕ → Tree V O → Type 0
IsLeafAt k (leaf (place p name t)) = k ≡ p
IsLeafAt k t = ⊥

-- the result is the column at the leaf's place, borrowed
abbrev pub IsBorrowedLeaf : {V O : Type 0} → List ColumnView → Tree V O → Cow ColumnView → Type 0
IsBorrowedLeaf cs (leaf (place p name t)) (cow.Borrowed c) = slice_get cs p ≡ Some c.now
IsBorrowedLeaf cs t c = ⊥
