-- Answers row by row, and the column of a call.
use Rattle.std.proofs.Common.{◌≡◌, ℕ, suc, ◌+◌, ◌<◌, Bool, List, [], ◌∷◌, ◌++◌, length}
use Rattle.std.proofs.Common.{Some, refl, ap, sym, ◌∙◌, arith, subst, true, false, nat_lt, map, take, zero}
use Rattle.std.specs.Prelude.{slice_index_or, slice_get, All}
use Rattle.std.proofs.lemmas.List.{map-append}
use Rattle.std.proofs.lemmas.List.Elements.{All-append}
use Rattle.std.proofs.lemmas.List.{get_or_append_left, length-append}
use Rattle.std.proofs.Math.Seq.{get_or-append_seam}
use Rattle.std.proofs.lemmas.Bool.{ltb-true, ltb-false}
use Rattle.vortex_types.specs.LogicalTypes.{LogicalType}
use Rattle.vortex_types.specs.declared.dtype.PType.{PType}
use Rattle.vortex_types.specs.Values.{Value, null}
use Rattle.vortex_columns.specs.declared.cell.Cell.{Cell}
use Rattle.vortex_columns.specs.declared.cell.Cell.TheVariants as cell
use Rattle.vortex_columns.specs.Cells.{cell_value, IsCell}
use Rattle.vortex_columns.specs.ColumnView.{ColumnView, row}
use Rattle.vortex_interface.specs.Outcomes.{Outcome, gives, faults, Fault, arithmetic, custom, error_of, GivesType}
use Rattle.vortex_interface.specs.Outcomes.{values_at, types_in, HasCallRows, IsCallFault}
use Rattle.vortex_errors.specs.declared.error.VortexError.{VortexError}
use Rattle.vortex_errors.specs.Answers.{UnlessMemory}
use Rattle.vortex_kernels.specs.Rows.{HasRows}
use Rattle.vortex_sql_calls.specs.Columns.{cell_row, AreCellsOf}
use Rattle.vortex_sql_calls.specs.Calls.{AnsweredRows, AreRowCells, AreRows, EachTyped}
use Rattle.vortex_sql_rows.specs.Row.{Row, row_type, row_means, row_gives, row_ptype, RefusesRow}
use Rattle.vortex_sql_rows.specs.Row.{LawfulRow}
use Rattle.vortex_sql_rows.specs.Laws.{typed}
use Rattle.vortex_sql_rows.proofs.Maps.{one_more}
use Rattle.vortex_interface.specs.Meaning.{HaveTypes}

-- one more row
module _ {A : Type 0} (value : A → Value) (d : A) (means : List Value → Outcome)
    (cs : List ColumnView) where
  pub pushed : (i : ℕ) (before made : List A) (x : A) → AreRows value d means cs i before
      → made ≡ before ++ x ∷ [] → means (values_at cs i) ≡ gives (value x)
      → AreRows value d means cs (i + 1) made
  pushed i before made x a e h =
      subst (AreRows value d means cs (i + 1)) (sym e)
      (record {
        count = length-append before (x ∷ []) ∙ ap (λ n. n + 1) a.count;
        each = λ k lt. by k lt (nat_lt k i) refl;
      })
    where
      last : (k : ℕ) → k ≡ i → slice_index_or (before ++ x ∷ []) k d ≡ x
      last k same =
          ap (λ n. slice_index_or (before ++ x ∷ []) n d) (same ∙ sym a.count)
          ∙ get_or-append_seam before x [] d

      by : (k : ℕ) → k < i + 1 → (b : Bool) → nat_lt k i ≡ b
          → means (values_at cs k) ≡ gives (value (slice_index_or (before ++ x ∷ []) k d))
      by k lt true e =
          let below : k < i = ltb-true k i e in
          a.each k below
          ∙ ap (λ c. gives (value c))
          (sym (get_or_append_left before (x ∷ []) d k (omega (arith, below, a.count))))
      by k lt false e =
          let same : k ≡ i = omega (arith, ltb-false k i e, lt) in
          ap (λ n. means (values_at cs n)) same ∙ h
          ∙ ap (λ c. gives (value c)) (sym (last k same))

pub called_rows : (r : Row) (cs : List ColumnView) (n : ℕ) (t : LogicalType) (cells : List Cell)
    (d : ColumnView) → row_type r (types_in cs) ≡ Some t
    → AnsweredRows (row_gives r (row_ptype r (types_in cs))) cs n cells
    → HasRows t (length cells) (cell_row cells) d
    → HasCallRows (row_type r) (row_means r) cs n d
called_rows r cs n t cells d e a is = record {
  dtype = e ∙ ap Some (sym is.dtype);
  count = is.count ∙ a.count;
  each = λ i lt. a.each i lt ∙ ap gives (sym (is.each i (omega (arith, lt, a.count))));
}

pub fault_at : (means : List Value → Outcome) (cs : List ColumnView) (n i : ℕ) (e : VortexError)
    → i < n → RefusesRow (means (values_at cs i)) e
    → UnlessMemory (IsCallFault (λ ts. means) cs n) e
fault_at means cs n i e lt (f, here, told) =
    subst (UnlessMemory (IsCallFault (λ ts. means) cs n)) (sym told) (by f here)
  where
    by : (g : Fault) → means (values_at cs i) ≡ faults g
        → UnlessMemory (IsCallFault (λ ts. means) cs n) (error_of g)
    by (arithmetic o) k = record { at = i; below = lt; fault = arithmetic o; here = k; told = refl }
    by (custom m) k = record { at = i; below = lt; fault = custom m; here = k; told = refl }

haves : (cs : List ColumnView) (n i : ℕ) → i < n → EachTyped cs n
    → HaveTypes (types_in cs) (values_at cs i)
haves [] n i lt h = tt
haves (c ∷ cs) n i lt h =
    let one = h 0 c refl in
    (one.0 i null (omega (arith, one.1, lt)), haves cs n i lt (λ k d e. h (suc k) d e))

pub cells_typed : (r : Row) (law : LawfulRow r) (cs : List ColumnView) (n : ℕ) (t : LogicalType)
    (cells : List Cell) → row_type r (types_in cs) ≡ Some t → EachTyped cs n
    → AnsweredRows (row_gives r (row_ptype r (types_in cs))) cs n cells → AreCellsOf t cells
cells_typed r law cs n t cells e each a k lt =
    let below : k < n = omega (arith, lt, a.count) in
    let given = typed r law (types_in cs) t (values_at cs k) e (haves cs n k below each) in
    subst (GivesType t) (a.each k below) given

one_cell : (x : Cell) → IsCell x → All IsCell (x ∷ [])
one_cell x w zero d lt = w
one_cell x w (suc k) d lt = absurd (omega (arith, lt))

pub no_cells : (vs : List Value) (cells : List Cell) → vs ≡ [] → cells ≡ [] → AreRowCells vs cells
no_cells vs cells v e = record {
  values = ap (map cell_value) e ∙ sym v;
  whole = subst (All IsCell) (sym e) (λ k d lt. absurd (omega (arith, lt)));
}

pub one_more_cell : (cs : List ColumnView) (i k : ℕ) (c : ColumnView) (before made : List Cell)
    (x : Cell) → k < length cs → slice_get cs k ≡ Some c
    → AreRowCells (values_at (take k cs) i) before → made ≡ before ++ x ∷ []
    → cell_value x ≡ row c.rows i → IsCell x
    → AreRowCells (values_at (take (k + 1) cs) i) made
one_more_cell cs i k c before made x lt at a e v w = record {
  values =
      ap (map cell_value) e ∙ map-append cell_value before (x ∷ [])
      ∙ (λ j. a.values j ++ v j ∷ [])
      ∙ sym (one_more (λ (d : ColumnView). row d.rows i) cs k c lt at);
  whole =
      subst (All IsCell) (sym e)
      (All-append IsCell before (x ∷ []) a.whole (one_cell x w));
}

-- a fault by the integer type is one of the call
pub same_fault : (r : Row) (cs : List ColumnView) (n : ℕ) (p : PType) (e : VortexError)
    → p ≡ row_ptype r (types_in cs) → UnlessMemory (IsCallFault (λ ts. row_gives r p) cs n) e
    → UnlessMemory (IsCallFault (row_means r) cs n) e
same_fault r cs n p e same h =
    subst (λ q. UnlessMemory (IsCallFault (λ ts. row_gives r q) cs n) e) same h
