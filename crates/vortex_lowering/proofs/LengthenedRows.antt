-- Rows of operands with the digits that they lack, and the truth of comparisons of their values.
use Rattle.std.proofs.Common.{◌≡◌, ◌∙◌, ◌≤◌, ℕ, ℤ, zero, suc, Bool, true, refl, ap, sym}
use Rattle.std.specs.Prelude.{List, Option, Some, None, if◌then◌else◌}
use Rattle.vortex_errors.specs.declared.error.NumericOperator.TheVariants as numeric
use Rattle.vortex_types.specs.Values.{Value, null, number, truth, truth_or_null}
use Rattle.vortex_columns.specs.ColumnView.{ColumnView}
use Rattle.vortex_operators.specs.declared.operators.CompareOperator.{CompareOperator}
use Rattle.vortex_operators.specs.OperatorValues.{holds, comparison_value}
use Rattle.vortex_interface.specs.Meaning.{Meaning}
use Rattle.vortex_interface.specs.Outcomes.{Outcome, gives, faults, arithmetic}
use Rattle.vortex_interface.specs.Trees.{Tree}
use Rattle.vortex_interface.specs.Eval.{eval}
use Rattle.vortex_logical.specs.declared.kind.Kind.TheVariants.{Plain, Date, Timestamp, Decimal, F64, F32}
use Rattle.vortex_logical.specs.declared.operand.Operand.{Operand}
use Rattle.vortex_logical.specs.declared.operand.Operand.TheVariants.{Whole, Of}
use Rattle.vortex_logical.specs.Decimals.{RescalingOrders}
use Rattle.vortex_logical.specs.StandsFor as logical
use Rattle.vortex_logical.specs.StandsFor.{StoredValuesAreOrdered}
use Rattle.vortex_lowering.specs.Operands.{OperandMeans, are_shipped, scale_of, lacking, is_held, held_at}
use Rattle.vortex_lowering.specs.Truths.{IsTruth}
use Rattle.vortex_lowering.specs.Rows.{Lowered, IsRow}
use Rattle.vortex_lowering.proofs.LengthenedTrees.{lengthened, IsLengthened}
use Rattle.vortex_lowering.proofs.StoredComparisons.{longer, stored_comparison}

-- the outcome, or the fault of a product
abbrev pub or_fault : Bool → Outcome → Outcome
or_fault b o = if b then o else faults (arithmetic numeric.Mul)

length_number : (k : ℕ) (z : ℤ) → lengthened k (gives (number z)) ≡ or_fault (is_held k z) (gives (number (longer k z)))
length_number zero z = refl
length_number (suc k) z = refl

length_null : (k : ℕ) → lengthened k (gives null) ≡ gives null
length_null zero = refl
length_null (suc k) = refl

-- what is held is the stored integer
held_is : (u : ℕ) (a : Operand) (y : ℤ) (v : logical.Meaning) → OperandMeans a y v
    → held_at u a (Some v) ≡ is_held (lacking u a) y
held_is u (Whole p) y (logical.number m s) h = ap (is_held u) (sym h.0)
held_is u (Whole p) y v h = absurd h
held_is u (Of (Decimal d)) y (logical.number m s) h = ap (is_held (lacking u (Of (Decimal d)))) (sym h.0)
held_is u (Of (Decimal d)) y v h = absurd h
held_is u (Of Date) y (logical.day d) h = refl
held_is u (Of Date) y v h = absurd h
held_is u (Of Timestamp) y (logical.instant d t) h = refl
held_is u (Of Timestamp) y v h = absurd h
held_is u (Of F64) y (logical.float x) h = refl
held_is u (Of F64) y v h = absurd h
held_is u (Of F32) y (logical.float x) h = refl
held_is u (Of F32) y v h = absurd h
held_is u (Of Plain) y v h = absurd h

-- the value in a row of an operand with the digits that it lacks
abbrev pub RowValue : ℕ → Operand → Option logical.Meaning → Value → Type 0
RowValue u a None s = s ≡ null
RowValue u a (Some v) s = (y : ℤ) × (s ≡ number (longer (lacking u a) y)) × OperandMeans a y v

module _ {V O : Type 0} (m : Meaning V O) (u : ℕ) (x : Lowered V O) (l : Tree V O)
    (left : IsLengthened m (lacking u x.operand) x.tree l) (cs : List ColumnView) (i : ℕ) where
  pub row_outcome : (v : Option logical.Meaning) → IsRow m cs i x v
      → (s : Value) × (eval m cs l i ≡ or_fault (held_at u x.operand v) (gives s)) × RowValue u x.operand v s
  row_outcome None h = (
    null,
    left.rows cs i ∙ ap (lengthened (lacking u x.operand)) h ∙ length_null (lacking u x.operand),
    refl,
  )
  row_outcome (Some v) h =
      let k = lacking u x.operand in
      let s = number (longer k h.stored) in (
        s,
        left.rows cs i ∙ ap (lengthened k) h.given ∙ length_number k h.stored
            ∙ ap (λ b. or_fault b (gives s)) (sym (held_is u x.operand h.stored v h.means)),
        (h.stored, refl, h.means),
      )

module _ (ordered : StoredValuesAreOrdered) (orders : RescalingOrders) (op : CompareOperator) (u : ℕ) (a b : Operand)
    (shipped : are_shipped a b ≡ true) (low : scale_of a ≤ u) (high : scale_of b ≤ u) where
  pub truth_value : (v w : Option logical.Meaning) (p : Option Bool) (s t : Value) → RowValue u a v s → RowValue u b w t
      → IsTruth op v w p → comparison_value op s t ≡ truth_or_null p
  truth_value (Some v) (Some w) p s t h g e =
      let order = stored_comparison ordered orders u a b shipped low high h.0 g.0 v w e.0 h.2 g.2 e.1 in
      (λ j. comparison_value op (h.1 j) (g.1 j))
      ∙ ap (λ c. truth (holds op c)) order
      ∙ ap truth_or_null (sym e.2)
  truth_value (Some v) None p s t h g e = (λ j. comparison_value op (h.1 j) (g j)) ∙ ap truth_or_null (sym e)
  truth_value None w p s t h g e = ap (λ r. comparison_value op r t) h ∙ ap truth_or_null (sym e)
