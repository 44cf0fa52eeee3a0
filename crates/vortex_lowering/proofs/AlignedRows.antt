-- Rows of operands in the kind in which several meet.
use Rattle.std.proofs.Common.{◌≡◌, ◌∙◌, ◌-◌, ℕ, ℤ, Bool, true, false, refl, ap, sym, arith}
use Rattle.std.specs.Prelude.{List, Option, Some, None, is_some}
use Rattle.std.specs.Bool.{MatchBool}
use Rattle.std.specs.Option.{option_map}
use Rattle.vortex_errors.specs.declared.error.NumericOperator.TheVariants as numeric
use Rattle.vortex_types.specs.Values.{Value, null, number}
use Rattle.vortex_columns.specs.ColumnView.{ColumnView}
use Rattle.vortex_interface.specs.Meaning.{Meaning}
use Rattle.vortex_interface.specs.Outcomes.{gives, faults, arithmetic}
use Rattle.vortex_interface.specs.Trees.{Tree}
use Rattle.vortex_interface.specs.Eval.{tree_type, eval}
use Rattle.vortex_logical.specs.declared.kind.Kind.TheVariants.{Plain, Date, Timestamp, Decimal, F64, F32}
use Rattle.vortex_logical.specs.declared.operand.Operand.{Operand}
use Rattle.vortex_logical.specs.declared.operand.Operand.TheVariants.{Whole, Of}
use Rattle.vortex_logical.specs.Decimals.{shifted}
use Rattle.vortex_logical.specs.StandsFor as logical
use Rattle.vortex_lowering.specs.Operands.{OperandMeans, are_shipped, scale_of, lacking, held_at}
use Rattle.vortex_lowering.specs.Rows.{Lowered, lowered, IsRow}
use Rattle.vortex_lowering.specs.LoweredTrees.{tree_at_scale}
use Rattle.vortex_lowering.specs.Aligning.{at_scale, Aligns}
use Rattle.vortex_lowering.proofs.LengthenedTrees.{scaled}
use Rattle.vortex_lowering.proofs.LengthenedRows.{or_fault, RowValue, row_outcome}
use Rattle.vortex_lowering.proofs.StoredComparisons.{longer, longer_is}

nothing_less : (u : ℕ) → u ≡ u - 0
nothing_less u = omega arith

-- the digits that a number lacks at the scale
longer_moved : (k u a s : ℕ) (y m : ℤ) → k ≡ u - a → y ≡ m → s ≡ a
    → longer k y ≡ shifted m (u - s)
longer_moved k u a s y m e f g =
    (λ i. longer (e i) (f i)) ∙ sym (longer_is (u - a) m) ∙ (λ i. shifted m (u - sym g i))

-- the stored integer with those digits means the same in the other kind
stored_means : (a c : Operand) → are_shipped a c ≡ true → (y : ℤ) (v : logical.Meaning)
    → OperandMeans a y v
    → OperandMeans c (longer (lacking (scale_of c) a) y) (at_scale (scale_of c) v)
stored_means (Whole p) (Whole q) r y (logical.number m s) h =
    (longer_moved 0 0 0 s y m refl h.0 h.1, refl)
stored_means (Whole p) (Whole q) r y v h = absurd h
stored_means (Of (Decimal d)) (Of (Decimal e)) r y (logical.number m s) h =
    (longer_moved (e.scale - d.scale) e.scale d.scale s y m refl h.0 h.1, refl)
stored_means (Of (Decimal d)) (Of (Decimal e)) r y v h = absurd h
stored_means (Of (Decimal d)) (Whole p) r y (logical.number m s) h =
    (longer_moved (0 - d.scale) 0 d.scale s y m refl h.0 h.1, refl)
stored_means (Of (Decimal d)) (Whole p) r y v h = absurd h
stored_means (Whole p) (Of (Decimal e)) r y (logical.number m s) h =
    (longer_moved e.scale e.scale 0 s y m (nothing_less e.scale) h.0 h.1, refl)
stored_means (Whole p) (Of (Decimal e)) r y v h = absurd h
stored_means (Of Date) (Of Date) r y (logical.day d) h = h
stored_means (Of Date) (Of Date) r y v h = absurd h
stored_means (Of Timestamp) (Of Timestamp) r y (logical.instant d t) h = h
stored_means (Of Timestamp) (Of Timestamp) r y v h = absurd h
stored_means (Of F64) (Of F64) r y (logical.float x) h = h
stored_means (Of F64) (Of F64) r y v h = absurd h
stored_means (Of F32) (Of F32) r y (logical.float x) h = h
stored_means (Of F32) (Of F32) r y v h = absurd h
stored_means (Of Plain) c r y v h = absurd h
stored_means a c r y v h = cc

module _ {V O : Type 0} (m : Meaning V O) (common : Operand) (x : Lowered V O)
    (shipped : are_shipped x.operand common ≡ true) where
  abbrev u : ℕ
  u = scale_of common

  module _ (t : Tree V O) (cs : List ColumnView) (i : ℕ) where
    -- a row with that value in the common kind
    row_means : (v : Option logical.Meaning) (s : Value) → RowValue u x.operand v s
        → eval m cs t i ≡ gives s → IsRow m cs i (lowered t common) (option_map (at_scale u) v)
    row_means None s h e = e ∙ ap gives h
    row_means (Some v) s h e = record {
      stored = longer (lacking u x.operand) h.0;
      given = e ∙ ap gives h.1;
      means = stored_means x.operand common shipped h.0 v h.2;
    }

    row_or_fault : (b : Bool) (v : Option logical.Meaning) (s : Value) → RowValue u x.operand v s
        → eval m cs t i ≡ or_fault b (gives s)
        → MatchBool b (IsRow m cs i (lowered t common) (option_map (at_scale u) v))
        (eval m cs t i ≡ faults (arithmetic numeric.Mul))
    row_or_fault true v s h e = row_means v s h e
    row_or_fault false v s h e = e

  pub aligns : (t : Tree V O) → t ≡ tree_at_scale u x → is_some (tree_type m t) ≡ true
      → Aligns m common x t
  aligns t is takes cs i v h =
      let l = tree_at_scale u x in
      let has_type = ap (λ s. is_some (tree_type m s)) (sym is) ∙ takes in
      let one = row_outcome m u x l (scaled m u x has_type) cs i v h in
      row_or_fault t cs i (held_at u x.operand v) v one.0 one.2
      (ap (λ s. eval m cs s i) is ∙ one.1)
