-- And and Or with one truth value, and with their sides swapped.
use Rattle.std.proofs.Common.{◌≡◌, ℕ, zero, suc, ◌<◌, ◌≤◌, Bool, true, false, Option, Some, None}
use Rattle.std.proofs.Common.{length, refl, sym, ap, ◌∙◌, arith}
use Rattle.std.specs.Prelude.{◌||◌, ◌&&◌, not, MatchOption}
use Rattle.vortex_types.specs.LogicalTypes.{bool_type, is_bool_type, is_nullable}
use Rattle.vortex_types.specs.ScalarView.{ScalarView}
use Rattle.vortex_types.specs.Typing.{HasType}
use Rattle.vortex_types.specs.Values.{Value, null, truth, number, text, bytes, list, is_null}
use Rattle.vortex_types.specs.Values.{truth_of, truth_or_null}
use Rattle.vortex_columns.specs.ColumnView.{ColumnView, row, constant_column}
use Rattle.vortex_operators.specs.Kleene.{decides}
use Rattle.vortex_operators.specs.OperatorValues.{boolean_value}
use Rattle.vortex_operators.specs.Operators.{is_boolean}
use Rattle.vortex_operators.specs.SwapLaws.{turned}
use Rattle.vortex_operators.specs.declared.operators.Operator.{Operator}
use Rattle.vortex_operators.specs.declared.operators.Operator.TheVariants.{And, Or}
use Rattle.vortex_kernels.specs.Boolean.{AnswersBoolean}
use Rattle.vortex_kernels.specs.Comparison.{IsConstantOf}
use Rattle.vortex_kernels.proofs.CastRows.{only_null}
use Rattle.vortex_kernels.proofs.Comparing.{constant_row}
use Rattle.vortex_interface.proofs.KleeneConstants.{right_decides}
use Rattle.vortex_arrays.specs.Encoded.{InOrder}
use Rattle.vortex_arrays.specs.Encoded.{is_value_constant, boolean_answers}
use Rattle.vortex_arrays.proofs.Answering.{told_rows, is_below, either_side}

some_truth : (v : Value) (b : Bool) → truth_of v ≡ Some b → v ≡ truth b
some_truth (truth a) b e = let same : a ≡ b = cc in ap truth same
some_truth null b e = cc
some_truth (number z) b e = cc
some_truth (text bs) b e = cc
some_truth (bytes bs) b e = cc
some_truth (list vs) b e = cc

-- the truth value of a constant
pub truth_of_constant : (s : ScalarView) (c : ColumnView) (o : Option Bool)
    → c ≡ constant_column s (length c.rows) → is_bool_type c.dtype ≡ true → HasType s.dtype s.value
    → o ≡ truth_of s.value
    → MatchOption o (is_value_constant c ≡ false)
    (λ b. (is_value_constant c ≡ true) × IsConstantOf (truth b) c)
truth_of_constant s c o e bool typed is = by o is
  where
    tells : is_value_constant c ≡ not (is_null s.value)
    tells = ap (λ (d : ColumnView). is_value_constant d) e

    by : (o : Option Bool) → o ≡ truth_of s.value
        → MatchOption o (is_value_constant c ≡ false)
        (λ b. (is_value_constant c ≡ true) × IsConstantOf (truth b) c)
    by None h =
        let bool_scalar : is_bool_type s.dtype ≡ true =
        sym (ap (λ (d : ColumnView). is_bool_type d.dtype) e) ∙ bool in
        tells
        ∙ ap (λ v. not (is_null v)) (sym (only_null s.dtype s.value bool_scalar typed (sym h)))
    by (Some b) h =
        let value : s.value ≡ truth b = some_truth s.value b (sym h) in
        (tells ∙ ap (λ v. not (is_null v)) value, λ i lt. constant_row s c e i lt ∙ value)

-- And and Or with the sides swapped
turns : (op : Operator) (v w : Value) → is_boolean op ≡ true
    → boolean_value op v w ≡ boolean_value op w v
turns And v w h = (turned And And refl).values v w
turns Or v w h = (turned Or Or refl).values v w
turns op v w h = cc

both_sides : (a b : Bool) → (a && b) ≡ true → (b && a) ≡ true
both_sides true true h = refl
both_sides true false h = cc
both_sides false b h = cc

pub boolean_in_order : (k : ℕ) (op : Operator) (c other d : ColumnView)
    → length c.rows ≡ length other.rows → AnswersBoolean op c other d
    → InOrder k (AnswersBoolean op) c other d
boolean_in_order zero op c other d lengths h = h
boolean_in_order (suc k) op c other d lengths h = record {
  operator = h.operator;
  bools = both_sides (is_bool_type c.dtype) (is_bool_type other.dtype) h.bools;
  rows =
      told_rows (bool_type (is_nullable c.dtype || is_nullable other.dtype))
      (bool_type (is_nullable other.dtype || is_nullable c.dtype)) (length c.rows)
      (length other.rows) (λ i. boolean_value op (row c.rows i) (row other.rows i))
      (λ i. boolean_value op (row other.rows i) (row c.rows i)) d
      (ap bool_type (either_side (is_nullable c.dtype) (is_nullable other.dtype))) lengths
      (λ i lt. turns op (row c.rows i) (row other.rows i) h.operator) h.rows;
}

-- the rows for a truth value that decides
pub decided_row : (op : Operator) (b : Bool) (c other : ColumnView) → is_boolean op ≡ true
    → decides op b ≡ true → length c.rows ≡ length other.rows → IsConstantOf (truth b) other
    → (i : ℕ) → i < length c.rows → truth b ≡ boolean_value op (row c.rows i) (row other.rows i)
decided_row op b c other h d lengths constant i lt =
    ap truth_or_null (sym (right_decides op b (truth_of (row c.rows i)) d))
    ∙ ap (boolean_value op (row c.rows i)) (sym (constant i (omega (arith, lengths))))

-- where the adaptor returns a column: for a constant that is not null, and for other columns
pub answers_constant : (kernel : ColumnView → Operator → Bool) (op : Operator) (other : ColumnView)
    (k : ℕ) → is_boolean op ≡ true → k ≤ 1 → is_value_constant other ≡ true
    → boolean_answers kernel op other k ≡ true
answers_constant kernel op other k h at constant =
    λ i. (h i && is_below k at i) && (constant i || kernel other op)

pub answers_asked : (kernel : ColumnView → Operator → Bool) (op : Operator) (other : ColumnView)
    (k : ℕ) → is_boolean op ≡ true → k ≤ 1 → is_value_constant other ≡ false
    → kernel other op ≡ boolean_answers kernel op other k
answers_asked kernel op other k h at constant =
    sym (λ i. (h i && is_below k at i) && (constant i || kernel other op))
