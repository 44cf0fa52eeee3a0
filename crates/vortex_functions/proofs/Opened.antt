-- An opened tree.
use Rattle.std.proofs.Common.{◌≡◌, ℕ, zero, suc, ◌≤◌, [], ◌∷◌, length, refl, arith, sym, ap, ◌∙◌}
use Rattle.std.proofs.Common.{Bool, false, IsTrue, ◌↔◌, true≢false, Some, None}
use Rattle.std.specs.Prelude.{List, slice_get}
use Rattle.vortex_types.specs.LogicalTypes.{LogicalType}
use Rattle.vortex_types.specs.TypeEquality.{type_eq, type_eq-decides}
use Rattle.vortex_columns.specs.ColumnView.{ColumnView}
use Rattle.vortex_interface.specs.Trees.{place}
use Rattle.vortex_interface.specs.Execution.{LeafFits}

-- a result `false`, from what `true` would need
pub refuted : (b : Bool) (P Q : Type 0) → b ≡ false → (IsTrue b ↔ P) → (Q → P) → IsTrue false ↔ Q
refuted b P Q e iff needs =
    (λ h. absurd (true≢false (sym h)), λ q. absurd (true≢false (sym (iff.1 (needs q)) ∙ e)))

pub never : (Q : Type 0) → (Q → ⊥) → IsTrue false ↔ Q
never Q refuses = (λ h. absurd (true≢false (sym h)), λ q. absurd (refuses q))

-- whether a column is of the leaf's type
pub leaf_fits : (cs : List ColumnView) (p : ℕ) (name : List ℕ) (t : LogicalType) (c : ColumnView)
    (b : Bool)
    → slice_get cs p ≡ Some c → b ≡ type_eq c.dtype t → IsTrue b ↔ LeafFits cs (place p name t)
leaf_fits cs p name t c b found e = (
  λ h. (c, found, (type_eq-decides c.dtype t).0 (sym e ∙ h)),
  λ h. e ∙ (type_eq-decides c.dtype t).1
      (let same : h.0 ≡ c = some_same h.0 c (sym h.1 ∙ found) in ap (λ (d : ColumnView). d.dtype)
      (sym same)
      ∙ h.2),
)
  where
    some_same : (x y : ColumnView) → Some x ≡ Some y → x ≡ y
    some_same x y q = cc

pub no_leaf : (cs : List ColumnView) (p : ℕ) (name : List ℕ) (t : LogicalType)
    → slice_get cs p ≡ None → LeafFits cs (place p name t) → ⊥
no_leaf cs p name t e h = let here : slice_get cs p ≡ Some h.0 = h.1 in cc

pub past_end : (cs : List ColumnView) (p : ℕ) → length cs ≤ p → slice_get cs p ≡ None
past_end [] p h = refl
past_end (c ∷ cs) zero h = absurd (omega arith)
past_end (c ∷ cs) (suc p) h = past_end cs p (omega arith)
