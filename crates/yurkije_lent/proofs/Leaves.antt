-- Leaves of a tree over lent columns, and the tree of its children.
use Rattle.std.proofs.Common.{◌≡◌, ◌∙◌, ℕ, List, length, Option, Some, None, sym, ap, subst}
use Rattle.std.specs.Prelude.{slice_get, IfSome}
use Rattle.vortex_types.specs.LogicalTypes.{LogicalType}
use Rattle.vortex_types.specs.ScalarView.{ScalarView}
use Rattle.vortex_columns.specs.ColumnView.{ColumnView, row}
use Rattle.vortex_interface.specs.Meaning.{Meaning}
use Rattle.vortex_interface.specs.Outcomes.{gives}
use Rattle.vortex_interface.specs.Trees.{Tree, leaf, place, held, constant, call, trees_of, children_of}
use Rattle.vortex_interface.specs.Trees.{literal}
use Rattle.vortex_interface.specs.Eval.{tree_type, HasTreeRows, rows_or_none}
use Rattle.vortex_interface.specs.Execution.{LeavesFit, AllLeavesFit}
use Rattle.vortex_functions.specs.Binding.{IsLeaf, IsLeafAt}
use Rattle.yurkije_lent.proofs.CallRows.{listed_back}

same_type : (t u : LogicalType) → Some t ≡ Some u → t ≡ u
same_type t u e = cc

pub literal_is : {V O : Type 0} (t : Tree V O) (s : ScalarView) → literal t ≡ Some s → t ≡ constant s
literal_is (leaf l) s e = let none : None ≡ Some s = e in cc
literal_is (constant r) s e = let same : Some r ≡ Some s = e in ap constant cc
literal_is (call f ts) s e = let none : None ≡ Some s = e in cc

pub some_weaker : {A : Type 0} (o : Option A) (P Q : A → Type 0) → ((x : A) → P x → Q x)
    → IfSome o P → IfSome o Q
some_weaker None P Q f h = tt
some_weaker (Some x) P Q f h = f x h

module _ {V O : Type 0} (cs : List ColumnView) where
  -- a tree that is no leaf fits if its children do
  pub fits_call : (t : Tree V O) → (IsLeaf t → ⊥) → AllLeavesFit cs (trees_of (children_of t))
      → LeavesFit cs t
  fits_call (leaf l) nope h = absurd (nope tt)
  fits_call (constant s) nope h = tt
  fits_call (call f ts) nope h = subst (AllLeavesFit cs) (listed_back ts) h

  module _ (m : Meaning V O) where
    pub fits_leaf : (t : Tree V O) (k : ℕ) (ty : LogicalType) → IsLeafAt k t
        → tree_type m t ≡ Some ty
        → (c : ColumnView) × (slice_get cs k ≡ Some c) × (c.dtype ≡ ty) → LeavesFit cs t
    fits_leaf (leaf (place p name u)) k ty at typed found = (
      found.0,
      subst (λ (j : ℕ). slice_get cs j ≡ Some found.0) at found.1,
      found.2 ∙ sym (same_type u ty typed),
    )
    fits_leaf (leaf (held c)) k ty at typed found = absurd at
    fits_leaf (constant s) k ty at typed found = absurd at
    fits_leaf (call f ts) k ty at typed found = absurd at

    pub has_leaf : (n : ℕ) (t : Tree V O) (k : ℕ) (ty : LogicalType) (d : ColumnView)
        → IsLeafAt k t → tree_type m t ≡ Some ty → slice_get cs k ≡ Some d → d.dtype ≡ ty
        → length d.rows ≡ n → HasTreeRows m cs n t d
    has_leaf n (leaf (place p name u)) k ty d at typed there dtype count =
        let found : slice_get cs p ≡ Some d =
        subst (λ (j : ℕ). slice_get cs j ≡ Some d) at there in
        record {
          dtype = typed ∙ ap Some (sym dtype);
          count = count;
          each = λ i lt. ap (λ (o : Option ColumnView). gives (row (rows_or_none o) i)) found;
        }
    has_leaf n (leaf (held c)) k ty d at typed there dtype count = absurd at
    has_leaf n (constant s) k ty d at typed there dtype count = absurd at
    has_leaf n (call f ts) k ty d at typed there dtype count = absurd at
