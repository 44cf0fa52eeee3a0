-- Calls on values of kinds are trees with a type, or are refused.
use Rattle.std.proofs.Common.{◌≡◌, ℕ, Bool, true, false, ◌||◌, cond, List, [], ◌∷◌, Option, Some}
use Rattle.std.proofs.Common.{None, refl}
use Rattle.std.specs.Prelude.{is_some}
use Rattle.vortex_types.specs.declared.dtype.PType.{PType}
use Rattle.vortex_types.specs.LogicalTypes.{LogicalType, integer_type, text_type}
use Rattle.vortex_errors.specs.declared.error.NumericOperator.{NumericOperator}
use Rattle.vortex_errors.specs.declared.error.NumericOperator.TheVariants as numeric
use Rattle.vortex_types.specs.ScalarView.{ScalarView}
use Rattle.vortex_operators.specs.declared.operators.CompareOperator.{CompareOperator}
use Rattle.vortex_interface.specs.Meaning.{fits}
use Rattle.vortex_interface.specs.Functions.{ours, custom, function_arity}
use Rattle.vortex_interface.specs.Shipped.{Binary}
use Rattle.vortex_interface.specs.Trees.{call, constant, trees_of}
use Rattle.vortex_interface.specs.Eval.{tree_type}
use Rattle.vortex_lowering.specs.Rows.{lowered}
use Rattle.vortex_expressions.specs.Outcomes.{answers}
use Rattle.vortex_logical.specs.declared.kind.Kind.{Kind}
use Rattle.vortex_logical.specs.Kinds.{stored_ptype}
use Rattle.vortex_logical.specs.declared.operand.Operand.{Operand}
use Rattle.vortex_logical.specs.declared.operand.Operand.TheVariants.{Whole, Of}
use Rattle.vortex_logical.specs.CommonKinds.{common_operand}
use Rattle.vortex_lowering.specs.Operands.{are_shipped}
use Rattle.vortex_lowering.specs.Results.{result_operand, are_computed}
use Rattle.vortex_lowering.specs.LoweredTrees.{compared_tree, bounded_tree, computed_tree, tree_at_scale}
use Rattle.vortex_lowering.specs.LoweredTrees.{arithmetic_operator}
use Rattle.vortex_standard.specs.declared.standard.Standard.{Standard}
use Rattle.vortex_logical_calls.specs.Outcomes as calls
use Rattle.vortex_logical_calls.specs.Calls.{Lowered, typed, call_on, call_two}
use Rattle.vortex_logical_calls.specs.Conversions.{conversion_beside, conversion_by_two, converted, as_float}
use Rattle.vortex_logical_calls.specs.Conversions.{after, float_function}
use Rattle.vortex_logical_calls.specs.Calls.{call_one}
use Rattle.vortex_logical_calls.specs.Literals.{constant_of, number_of_text}
use Rattle.std.specs.Prelude.{ℤ, pos, ◌-ℤ◌}
use Rattle.vortex_types.specs.declared.dtype.PType.TheVariants.{I64}
use Rattle.vortex_columns.specs.ScalarOf.{int_scalar}
use Rattle.vortex_logical_calls.specs.declared.intervals.Interval.{Interval}
use Rattle.vortex_logical_calls.specs.declared.intervals.Interval.TheVariants.{Micros, Months}
use Rattle.vortex_logical_calls.specs.Comparison.{if_met, compared}
use Rattle.vortex_logical_calls.specs.Bounds as bounds
use Rattle.vortex_logical_calls.specs.Computation.{of_operand, of_result}
use Rattle.vortex_logical_calls.specs.Computation.{float_operator, goes_by_floats}
use Rattle.vortex_logical.specs.declared.kind.Kind.TheVariants.{Plain, Date, Timestamp, Decimal, F64}
use Rattle.vortex_logical.specs.declared.kind.Kind.TheVariants.{F32}
use Rattle.vortex_standard.specs.declared.standard.Standard.TheVariants as standard
use Rattle.vortex_logical_calls.specs.Computation.{computed}
use Rattle.vortex_logical_calls.specs.Alignment.{meet_next, aligned}
use Rattle.vortex_lowering.specs.Operands.{scale_of}
use Rattle.vortex_logical_calls.specs.Literals.{kind_beside, literal_of}
use Rattle.vortex_logical_calls.specs.Intervals.{moved_by, moved, shifted, elapses, elapsed}
use Rattle.vortex_logical_calls.specs.Spans.{counted, spans_computed, instant, moved_instant}
use Rattle.vortex_syntax.specs.declared.step.WrittenOperator as written
use Rattle.vortex_syntax.specs.declared.step.WrittenOperator.TheVariants as signs
use Rattle.vortex_expressions.specs.Literals.{Literal, number, text, truth, null}
use Rattle.vortex_expressions.specs.Items.{Tree, Item, literal, bound, kinded, fraction, interval}
use Rattle.vortex_expressions.specs.Items.{meaning, constant_at, call_of, callable, text_of}
use Rattle.vortex_expressions.specs.Kinded.{told, stored_item, first_kind, whole_ptype}
use Rattle.vortex_expressions.specs.Kinded.{whole_literal, text_literal, number_literal, null_of}
use Rattle.vortex_expressions.specs.Kinded.{literal_operand, item_operand, value_item}
use Rattle.vortex_expressions.specs.declared.item.Timespan.{Timespan}
use Rattle.vortex_expressions.specs.declared.item.Timespan.TheVariants.{Given, Elapsed}
use Rattle.vortex_expressions.specs.declared.kind_operators.KindedOperator.{KindedOperator}
use Rattle.vortex_expressions.specs.declared.kind_operators.KindedOperator.TheVariants.{Compares}
use Rattle.vortex_expressions.specs.declared.kind_operators.KindedOperator.TheVariants.{Computes}
use Rattle.vortex_expressions.specs.declared.kind_operators.KindedOperator.TheVariants.{Neither}
use Rattle.vortex_expressions.specs.Kinded.{operated, span_operand, spans_joined, span_item}
use Rattle.vortex_expressions.specs.Kinded.{spans_added, whole_count, literal_count, count_of}
use Rattle.vortex_expressions.specs.Kinded.{multiplied, moved_or_added, added_items, taken_items}
use Rattle.vortex_expressions.specs.Kinded.{multiplied_items}
use Rattle.vortex_expressions.specs.Kinded.{kinded_operator, kinded_joined, kinded_between}
use Rattle.vortex_expressions.specs.Kinded.{within_bounds, is_interval, shifted_item, moved_by_span, moved_items}
use Rattle.vortex_expressions.specs.Kinded.{joined_beside, moved_item, folded_by, folded_or_joined}
use Rattle.vortex_expressions.specs.Months.{months_function, months_moved}
use Rattle.vortex_expressions.specs.KindCasts.{kind_literal, kind_item, becomes_float, float_item}
use Rattle.vortex_expressions.specs.KindCasts.{kind_cast, cast_to_kind, cast_by, instant_cast}
use Rattle.vortex_expressions.specs.KindCasts.{more_trees, step_on, stepped, kind_by, text_cast}
use Rattle.vortex_expressions.specs.KindCasts.{decimal_cast, number_cast, is_text_type, plain_cast}
use Rattle.vortex_expressions.specs.KindCasts.{literal_cast, from_kind, stored_cast}
use Rattle.vortex_expressions.specs.KindCasts.{fraction_cast, decimal_of_float}
use Rattle.vortex_expressions.specs.KindCasts.{numeric_cast, numeric_kind}
use Rattle.vortex_sql_kind_texts.specs.TextKinds.{overflows}
use Rattle.vortex_logical.specs.Digits.{Digits}
use Rattle.vortex_logical_casts.specs.Casts.{float_steps}
use Rattle.vortex_logical_casts.specs.declared.steps.Step.{Step}
use Rattle.vortex_logical_casts.specs.declared.steps.Steps.{Steps}
use Rattle.vortex_logical_casts.specs.declared.steps.Steps.TheVariants.{One, Two}
use Rattle.vortex_logical_casts.specs.Casts.{text_steps, decimal_steps, integer_steps, written_steps}
use Rattle.vortex_expressions.specs.Kinded.{plain_operand}
use Rattle.vortex_expressions.specs.Functions.{met_with, met_values, aligned_item, aligned_items}
use Rattle.vortex_expressions.specs.Functions.{aligned_cases, aligned_arguments, is_choice, result_item}
use Rattle.vortex_sql_rows.specs.declared.types.Takes.{Takes}
use Rattle.vortex_sql_rows.specs.declared.types.Takes.TheVariants.{Alike, Each, Cases}
use Rattle.vortex_expressions.proofs.SureCalls.{Sure, sure_then, IsTyped, IsItem, sure_constant}
use Rattle.vortex_expressions.proofs.SureCalls.{sure_item, sure_if, AllItems, sure_named_call, sure_text}

-- P of the result, if there is one
abbrev IfMade : {A : Type 0} → (A → Type 0) → calls.Outcome A → Type 0
IfMade P (calls.made a) = P a
IfMade P o = Unit {0}

any_made : {A : Type 0} (o : calls.Outcome A) → IfMade (λ a. Unit {0}) o
any_made (calls.made a) = tt
any_made (calls.refused r) = tt
any_made calls.untyped = tt

if_then : {A B : Type 0} (Q : B → Type 0) (o : calls.Outcome A) (f : A → calls.Outcome B)
    → ((a : A) → IfMade Q (f a)) → IfMade Q (calls.and_then o f)
if_then Q (calls.made a) f h = h a
if_then Q (calls.refused r) f h = tt
if_then Q calls.untyped f h = tt

if_both : {A B : Type 0} (P : A → Type 0) (Q : B → Type 0) (o : calls.Outcome A)
    (f : A → calls.Outcome B) → IfMade P o → ((a : A) → P a → IfMade Q (f a))
    → IfMade Q (calls.and_then o f)
if_both P Q (calls.made a) f h k = k a h
if_both P Q (calls.refused r) f h k = tt
if_both P Q calls.untyped f h k = tt

if_chosen : {A : Type 0} (P : A → Type 0) (b : Bool) (o u : calls.Outcome A) → IfMade P o
    → IfMade P u → IfMade P (cond b o u)
if_chosen P true o u h k = h
if_chosen P false o u h k = k

sure_told : {A : Type 0} (P : A → Type 0) (o : calls.Outcome A) → IfMade P o → Sure P (told o)
sure_told P (calls.made a) h = h
sure_told P (calls.refused r) h = tt
sure_told P calls.untyped h = tt

-- calls
typed_made : (t : Tree) → IfMade IsTyped (typed t)
typed_made t = by (is_some (tree_type meaning t)) refl
  where
    by : (b : Bool) → is_some (tree_type meaning t) ≡ b
        → IfMade IsTyped (cond b (calls.made t) calls.untyped)
    by true e = e
    by false e = tt

two_made : (f : Standard) (t u : Tree) → IfMade IsTyped (call_two f t u)
two_made f t u =
    if_chosen IsTyped (fits (function_arity meaning (custom f (record {}))) 2) _ _
    (typed_made (call (custom f (record {})) (trees_of (t ∷ u ∷ [])))) tt

met_made : (a b : Operand) (o : calls.Outcome Tree) → IfMade IsTyped o
    → IfMade IsTyped (if_met a b o)
met_made a b o h =
    if_chosen IsTyped (is_some (common_operand a b)) _ _
    (if_chosen IsTyped (are_shipped a b) _ _ h tt) tt

compared_made : (op : CompareOperator) (x y : Lowered) → IfMade IsTyped (compared op x y)
compared_made op x y =
    if_then IsTyped (converted (conversion_beside x.operand y.operand) x) _
    (λ a. if_then IsTyped (converted (conversion_beside y.operand x.operand) y) _
    (λ b. met_made a.operand b.operand _ (typed_made (compared_tree op a b))))

between_made : (x low high : Lowered) → IfMade IsTyped (bounds.between within_bounds x low high)
between_made x low high =
    if_then IsTyped (converted (conversion_by_two x.operand low.operand high.operand) x) _
    (λ a. if_then IsTyped (converted (conversion_by_two low.operand x.operand high.operand) low) _
    (λ b. if_then IsTyped (converted (conversion_by_two high.operand x.operand low.operand) high) _
    (λ c. met_made b.operand a.operand _
    (met_made a.operand c.operand _ (typed_made (bounded_tree within_bounds a b c))))))

abbrev IsValue : Lowered → Type 0
IsValue x = IsTyped x.tree

operand_made : (a : Operand) (o : calls.Outcome Tree) → IfMade IsTyped o
    → IfMade IsValue (of_operand a o)
operand_made a o h = if_both IsTyped IsValue o _ h (λ t k. k)

result_made : (b : Bool) (x y : Lowered) (a : Option Operand) (o : calls.Outcome Tree)
    → IfMade IsTyped o → IfMade IsValue (of_result b x y a o)
result_made b x y None o h = tt
result_made b x y (Some a) o h = if_chosen IsValue b _ _ (operand_made a o h) tt

computed_made : (o : NumericOperator) (x y : Lowered) → IfMade IsValue (computed o x y)
computed_made o x y =
    if_chosen IsValue (goes_by_floats o x.operand y.operand) _ _
    (if_then IsValue (as_float x) _
    (λ a. if_then IsValue (as_float y) _
    (λ b. operand_made (Of F64) (call_two (standard.FloatOperator (float_operator o)) a.tree b.tree)
    (two_made (standard.FloatOperator (float_operator o)) a.tree b.tree))))
    (if_then IsValue (converted (conversion_beside x.operand y.operand) x) _
    (λ a. if_then IsValue (converted (conversion_beside y.operand x.operand) y) _
    (λ b. result_made (are_computed o a.operand b.operand) a b
    (result_operand o a.operand b.operand) _ (typed_made (computed_tree o a b)))))

-- items next to a value of a kind
abbrev pub Any : {A : Type 0} → A → Type 0
Any a = Unit {0}

sure_whole : (p : PType) (l : Literal) → Sure Any (whole_literal p l)
sure_whole p l =
    sure_then IsTyped Any (constant_at l (integer_type p false)) _
    (sure_constant l (integer_type p false)) (λ t h. tt)

pub sure_text_literal : (k : Kind) (bs : List ℕ) → Sure Any (text_literal k bs)
sure_text_literal k bs =
    sure_if Any (overflows k bs) _ _ tt (sure_told Any (literal_of k bs) (any_made (literal_of k bs)))

sure_number : (k : Kind) (o : Option Kind) (w : List ℕ) → Sure Any (number_literal k o w)
sure_number k None w = sure_whole (whole_ptype k) (number w)
sure_number k (Some j) w = sure_text_literal j w

sure_null_of : (k : Kind) (o : Option PType) → Sure Any (null_of k o)
sure_null_of k None = tt
sure_null_of k (Some p) =
    sure_then {B = Lowered} IsTyped Any (constant_at null (integer_type p true))
    (λ t. answers (lowered t (Of k))) (sure_constant null (integer_type p true)) (λ t h. tt)

sure_literal_operand : (k : Kind) (l : Literal) → Sure Any (literal_operand k l)
sure_literal_operand k (number w) = sure_number k (kind_beside (Of k) w) w
sure_literal_operand k (text bs) = sure_text_literal k bs
sure_literal_operand k (truth b) = tt
sure_literal_operand k null = sure_null_of k (stored_ptype k)

sure_operand : (k : Kind) (i : Item) → Sure Any (item_operand k i)
sure_operand k (literal l) = sure_literal_operand k l
sure_operand k (bound t) = tt
sure_operand k (kinded j t) = tt
sure_operand k (fraction w) = sure_literal_operand k (number w)
sure_operand k (interval z) = tt

value_is : (a : Operand) (t : Tree) → IsTyped t → IsItem (value_item a t)
value_is (Whole p) t h = h
value_is (Of k) t h = h

on_two_made : (o : NumericOperator) (t u : Tree)
    → IfMade IsTyped (call_on (ours (Binary (arithmetic_operator o))) (t ∷ u ∷ []))
on_two_made o t u =
    let f = ours (Binary (arithmetic_operator o)) in
    if_chosen IsTyped (fits (function_arity meaning f) 2) (typed (call f (trees_of (t ∷ u ∷ []))))
    calls.untyped (typed_made (call f (trees_of (t ∷ u ∷ [])))) tt

elapsed_made : (x y : Lowered) → IfMade IsTyped (elapsed x y)
elapsed_made x y =
    if_then IsTyped (converted (conversion_beside x.operand y.operand) x) _
    (λ a. if_then IsTyped (converted (conversion_beside y.operand x.operand) y) _
    (λ b. on_two_made numeric.Sub a.tree b.tree))

sure_operated : (k : Kind) (o : KindedOperator) (x y : Lowered) → Sure IsItem (operated k o x y)
sure_operated k (Compares op) x y =
    sure_item _ (sure_told IsTyped (compared op x y) (compared_made op x y))
sure_operated k (Computes o) x y =
    sure_if IsItem (elapses o x.operand y.operand) _ _
    (sure_then IsTyped IsItem (told (elapsed x y)) (λ t. answers (interval (Elapsed t)))
    (sure_told IsTyped (elapsed x y) (elapsed_made x y)) (λ t h. h))
    (sure_then IsValue IsItem (told (computed o x y)) _
    (sure_told IsValue (computed o x y) (computed_made o x y))
    (λ z h. value_is z.operand z.tree h))
sure_operated k Neither x y = tt

-- intervals
moved_made : (o : NumericOperator) (x : Lowered) (s : Option ScalarView) → IfMade IsValue (moved o x s)
moved_made o x None = tt
moved_made o x (Some s) =
    operand_made x.operand
    (call_on (ours (Binary (arithmetic_operator o))) (x.tree ∷ constant s ∷ []))
    (on_two_made o x.tree (constant s))

sure_shifted : (o : NumericOperator) (k : Kind) (t : Tree) (z : ℤ)
    → Sure IsItem (shifted_item o k t z)
sure_shifted o k t z =
    let x = lowered t (Of k) in
    sure_then IsValue IsItem (told (shifted o x z)) _
    (sure_told IsValue (shifted o x z) (moved_made o x (moved_by (Of k) z)))
    (λ y h. value_is y.operand y.tree h)

pub sure_months_function : (k : Kind) → Sure Any (months_function k)
sure_months_function Date = tt
sure_months_function Timestamp = tt
sure_months_function k = tt

sure_months_moved : (k : Kind) (t : Tree) (n : ℤ) → Sure IsItem (months_moved k t n)
sure_months_moved k t n =
    sure_then Any IsItem (months_function k) _ (sure_months_function k)
    (λ f l. sure_then IsTyped IsItem
    (call_of (callable f) (t ∷ constant (int_scalar I64 n) ∷ [])) (λ u. answers (kinded k u))
    (sure_named_call f (t ∷ constant (int_scalar I64 n) ∷ [])) (λ u g. g))

sure_moved : (o : NumericOperator) (k : Kind) (t : Tree) (z : Interval)
    → Sure IsItem (moved_item o k t z)
sure_moved o k t (Micros z) = sure_shifted o k t z
sure_moved numeric.Sub k t (Months n) = sure_months_moved k t (pos 0 -ℤ n)
sure_moved o k t (Months n) = sure_months_moved k t n

sure_span : (i : Item) → Sure Any (span_operand i)
sure_span (interval (Given (Micros z))) = tt
sure_span (interval (Elapsed t)) = tt
sure_span i = tt

instant_made : (o : NumericOperator) (x : Lowered) (u : Tree) → IfMade IsValue (moved_instant o x u)
instant_made o x u =
    if_then IsValue (instant x) _
    (λ a. operand_made (Of Timestamp) (spans_computed o a.tree u) (on_two_made o a.tree u))

sure_moved_by : (o : NumericOperator) (k : Kind) (t : Tree) (s : Timespan)
    → Sure IsItem (moved_by_span o k t s)
sure_moved_by o k t (Given z) = sure_moved o k t z
sure_moved_by o k t (Elapsed u) =
    let x = lowered t (Of k) in
    sure_then IsValue IsItem (told (moved_instant o x u)) _
    (sure_told IsValue (moved_instant o x u) (instant_made o x u))
    (λ y h. value_is y.operand y.tree h)

sure_span_item : (o : NumericOperator) (t u : Tree)
    → Sure IsItem (span_item (told (spans_computed o t u)))
sure_span_item o t u =
    sure_then IsTyped IsItem (told (spans_computed o t u)) (λ v. answers (interval (Elapsed v)))
    (sure_told IsTyped (spans_computed o t u) (on_two_made o t u)) (λ v h. h)

sure_added : (o : NumericOperator) (a b : Item) → Sure IsItem (spans_added o a b)
sure_added o a b =
    sure_then Any IsItem (span_operand a) _ (sure_span a)
    (λ x h. sure_then Any IsItem (span_operand b) _ (sure_span b)
    (λ y j. sure_span_item o x.tree y.tree))

sure_whole_count : (a : Operand) (t : Tree) → Sure Any (whole_count a t)
sure_whole_count (Whole p) t = tt
sure_whole_count (Of k) t = tt

sure_literal_count : (l : Literal) → Sure Any (literal_count l)
sure_literal_count (number w) = sure_whole I64 (number w)
sure_literal_count (text bs) = tt
sure_literal_count (truth b) = tt
sure_literal_count null = tt

sure_count : (i : Item) → Sure Any (count_of i)
sure_count (literal l) = sure_literal_count l
sure_count (bound t) = sure_whole_count (plain_operand (tree_type meaning t)) t
sure_count (kinded k t) = tt
sure_count (fraction w) = tt
sure_count (interval s) = tt

sure_multiplied : (i : Item) (s : Timespan) → Sure IsItem (multiplied i s)
sure_multiplied i s =
    sure_then Any IsItem (count_of i) _ (sure_count i)
    (λ x h. sure_then Any IsItem (told (counted x)) _ (sure_told Any (counted x) (any_made (counted x)))
    (λ n g. sure_then Any IsItem (span_operand (interval s)) _ (sure_span (interval s))
    (λ y j. sure_span_item numeric.Mul n.tree y.tree)))

sure_moved_or_added : (o : NumericOperator) (i : Item) (s : Timespan)
    → Sure IsItem (moved_or_added o i s)
sure_moved_or_added o (kinded k t) s = sure_moved_by o k t s
sure_moved_or_added o (interval r) s = sure_added o (interval r) (interval s)
sure_moved_or_added o (literal l) s = tt
sure_moved_or_added o (bound t) s = tt
sure_moved_or_added o (fraction w) s = tt

sure_added_items : (a b : Item) → Sure IsItem (added_items a b)
sure_added_items a (interval s) = sure_moved_or_added numeric.Add a s
sure_added_items (interval s) b = sure_moved_or_added numeric.Add b s
sure_added_items a b = tt

sure_taken_items : (a b : Item) → Sure IsItem (taken_items a b)
sure_taken_items a (interval s) = sure_moved_or_added numeric.Sub a s
sure_taken_items a b = tt

sure_multiplied_items : (a b : Item) → Sure IsItem (multiplied_items a b)
sure_multiplied_items a (interval s) = sure_multiplied a s
sure_multiplied_items (interval s) b = sure_multiplied b s
sure_multiplied_items a b = tt

sure_moved_items : (o : NumericOperator) (a b : Item) → Sure IsItem (moved_items o a b)
sure_moved_items numeric.Add a b = sure_added_items a b
sure_moved_items numeric.Sub a b = sure_taken_items a b
sure_moved_items numeric.Mul a b = sure_multiplied_items a b
sure_moved_items numeric.Div a b = tt

sure_spans : (o : KindedOperator) (a b : Item) → Sure IsItem (spans_joined o a b)
sure_spans (Compares op) a b =
    sure_then Any IsItem (span_operand a) _ (sure_span a)
    (λ x h. sure_then Any IsItem (span_operand b) _ (sure_span b)
    (λ y j. sure_operated Plain (Compares op) x y))
sure_spans (Computes o) a b = sure_moved_items o a b
sure_spans Neither a b = tt

sure_beside : (k : Kind) (o : KindedOperator) (a b : Item) → Sure IsItem (joined_beside k o a b)
sure_beside k o a b =
    sure_then Any IsItem (item_operand k a) _ (sure_operand k a)
    (λ x h. sure_then Any IsItem (item_operand k b) _ (sure_operand k b)
    (λ y j. sure_operated k o x y))

sure_folded : (f : Option (List ℕ)) (o : KindedOperator) (a b : Item)
    → Sure IsItem (folded_or_joined f o a b)
sure_folded (Some bs) o a b = sure_then _ IsItem (text_of bs) _ (sure_text bs) (λ w h. tt)
sure_folded None o a b = sure_beside (first_kind (a ∷ b ∷ [])) o a b

pub sure_kinded_joined : (o : written.WrittenOperator) (a b : Item)
    → Sure IsItem (kinded_joined o a b)
sure_kinded_joined o a b =
    sure_if IsItem (is_interval a || is_interval b) _ _ (sure_spans (kinded_operator o) a b)
    (sure_folded (folded_by (kinded_operator o) a b) (kinded_operator o) a b)

pub sure_kinded_between : (a b c : Item) → Sure IsTyped (kinded_between a b c)
sure_kinded_between a b c =
    let k = first_kind (a ∷ b ∷ c ∷ []) in
    sure_then Any IsTyped (item_operand k a) _ (sure_operand k a)
    (λ x h. sure_then Any IsTyped (item_operand k b) _ (sure_operand k b)
    (λ y j. sure_then Any IsTyped (item_operand k c) _ (sure_operand k c)
    (λ z l. sure_told IsTyped (bounds.between within_bounds x y z) (between_made x y z))))

pub sure_stored : (i : Item) → IsItem i → IsItem (stored_item i)
sure_stored (literal l) h = h
sure_stored (bound t) h = h
sure_stored (kinded k t) h = h
sure_stored (fraction w) h = h
sure_stored (interval z) h = h

-- functions on values of kinds
aligned_made : (a : Operand) (x : Lowered) → IfMade IsTyped (aligned a x)
aligned_made a x =
    if_then IsTyped (converted (conversion_beside x.operand a) x) _
    (λ y. typed_made (tree_at_scale (scale_of a) y))

pub sure_met : (k : Kind) (a : Operand) (is : List Item) → Sure Any (met_values k a is)
sure_met k a [] = tt
sure_met k a (i ∷ is) =
    sure_then {A = Operand} Any Any (met_with k a i) _
    (sure_then {A = Lowered} {B = Operand} Any Any (item_operand k i) _ (sure_operand k i)
    (λ x h. sure_told Any (meet_next a x.operand) (any_made (meet_next a x.operand))))
    (λ b h. sure_met k b is)

sure_aligned : (k : Kind) (a : Operand) (i : Item) → Sure IsItem (aligned_item k a i)
sure_aligned k a i =
    sure_then {A = Lowered} Any IsItem (item_operand k i) _ (sure_operand k i)
    (λ x h. sure_item _ (sure_told IsTyped (aligned a x) (aligned_made a x)))

sure_aligned_items : (k : Kind) (a : Operand) (is : List Item) → Sure AllItems (aligned_items k a is)
sure_aligned_items k a [] = tt
sure_aligned_items k a (i ∷ is) =
    sure_then IsItem AllItems (aligned_item k a i) _ (sure_aligned k a i)
    (λ j h. sure_then AllItems AllItems (aligned_items k a is) _ (sure_aligned_items k a is)
    (λ js g. (h, g)))

sure_aligned_cases : (k : Kind) (a : Operand) (is : List Item) → AllItems is
    → Sure AllItems (aligned_cases k a is)
sure_aligned_cases k a [] h = tt
sure_aligned_cases k a (v ∷ []) h =
    sure_then IsItem AllItems (aligned_item k a v) _ (sure_aligned k a v) (λ j g. (g, tt))
sure_aligned_cases k a (c ∷ v ∷ is) h =
    sure_then IsItem AllItems (aligned_item k a v) _ (sure_aligned k a v)
    (λ j g. sure_then AllItems AllItems (aligned_cases k a is) _ (sure_aligned_cases k a is h.1.1)
    (λ js l. (h.0, (g, l))))

pub sure_aligned_arguments : (s : Takes) (k : Kind) (a : Operand) (is : List Item) → AllItems is
    → Sure AllItems (aligned_arguments s k a is)
sure_aligned_arguments (Alike q) k a is h = sure_aligned_items k a is
sure_aligned_arguments (Each x y z) k a is h = sure_aligned_items k a is
sure_aligned_arguments Cases k a is h = sure_aligned_cases k a is h

pub result_is : (f : Standard) (a : Operand) (t : Tree) → IsTyped t → IsItem (result_item f a t)
result_is f a t h = by (is_choice f)
  where
    by : (b : Bool) → IsItem (cond b (value_item a t) (bound t))
    by true = value_is a t h
    by false = h

-- literals of kinds
constant_made : (k : Kind) (z : Option ℤ) (p : Option PType) → IfMade IsValue (constant_of k z p)
constant_made k None p = tt
constant_made k (Some z) None = tt
constant_made k (Some z) (Some p) = refl

sure_text_value : (k : Kind) (bs : List ℕ) → Sure IsValue (text_literal k bs)
sure_text_value k bs =
    sure_if IsValue (overflows k bs) _ _ tt
    (sure_told IsValue (literal_of k bs)
    (constant_made k (number_of_text k bs) (stored_ptype k)))

sure_null_value : (k : Kind) (o : Option PType) → Sure IsValue (null_of k o)
sure_null_value k None = tt
sure_null_value k (Some p) =
    sure_then {B = Lowered} IsTyped IsValue (constant_at null (integer_type p true))
    (λ t. answers (lowered t (Of k))) (sure_constant null (integer_type p true)) (λ t h. h)

sure_kind_literal : (k : Kind) (l : Literal) → Sure IsValue (kind_literal k l)
sure_kind_literal k (number w) = sure_text_value k w
sure_kind_literal k (text bs) = sure_text_value k bs
sure_kind_literal k (truth b) = tt
sure_kind_literal k null = sure_null_value k (stored_ptype k)

pub sure_kind_item : (k : Kind) (l : Literal) → Sure IsItem (kind_item k l)
sure_kind_item k l =
    sure_then IsValue IsItem (kind_literal k l) _ (sure_kind_literal k l)
    (λ x h. value_is x.operand x.tree h)

-- casts to kinds
one_made : (f : Standard) (t : Tree) → IfMade IsTyped (call_one f t)
one_made f t =
    if_chosen IsTyped (fits (function_arity meaning (custom f (record {}))) 1) _ _
    (typed_made (call (custom f (record {})) (trees_of (t ∷ [])))) tt

after_made : (o : Option Standard) (a : Operand) (x : Lowered) → IsValue x
    → IfMade IsValue (after o a x)
after_made None a x h = h
after_made (Some f) a x h =
    if_both IsTyped IsValue (call_one f x.tree) _ (one_made f x.tree) (λ t k. k)

sure_float_item : (x : Lowered) → IsValue x → Sure IsItem (float_item x)
sure_float_item x h =
    sure_if IsItem (becomes_float x.operand) _ _
    (sure_then IsValue IsItem (told (as_float x)) _
    (sure_told IsValue (as_float x) (after_made (float_function x.operand) (Of F64) x h))
    (λ y j. value_is y.operand y.tree j)) tt

sure_cast_by : (k : Kind) (f : Standard) (t : Tree) → Sure IsItem (cast_by k f t)
sure_cast_by k f t =
    sure_then IsTyped IsItem (call_of (callable f) (t ∷ [])) (λ u. answers (kinded k u))
    (sure_named_call f (t ∷ [])) (λ u j. j)

-- values after functions
pub sure_step : (s : Step) (t : Tree) → Sure IsTyped (step_on s t)
sure_step s t = sure_named_call s.function (t ∷ more_trees s.more)

sure_stepped : (s : Steps) (t : Tree) → Sure IsTyped (stepped s t)
sure_stepped (One s) t = sure_step s t
sure_stepped (Two s r) t =
    sure_then IsTyped IsTyped (step_on s t) (step_on r) (sure_step s t) (λ u h. sure_step r u)

sure_kind_by : (k : Kind) (o : Option Steps) (t : Tree) → Sure IsItem (kind_by k o t)
sure_kind_by k None t = tt
sure_kind_by k (Some s) t =
    sure_then IsTyped IsItem (stepped s t) (λ u. answers (kinded k u)) (sure_stepped s t) (λ u h. h)

sure_instant_cast : (p : Bool) (k : Kind) (f : Standard) (t : Tree)
    → Sure IsItem (instant_cast p k f t)
sure_instant_cast p k f t = sure_if IsItem p _ _ tt (sure_cast_by k f t)

sure_decimal_of_float : (p : Bool) (d : Digits) (j : Kind) (t : Tree) → IsTyped t
    → Sure IsItem (decimal_of_float p d j t)
sure_decimal_of_float p d j t h =
    let x : Lowered = lowered t (Of j) in
    sure_then {A = Lowered} IsValue IsItem (told (as_float x)) _
    (sure_told IsValue (as_float x) (after_made (float_function x.operand) (Of F64) x h))
    (λ y l. sure_kind_by (Decimal d) (Some (float_steps p d)) y.tree)

sure_decimal_cast : (p : Bool) (d : Digits) (j : Kind) (t : Tree) → IsTyped t
    → Sure IsItem (decimal_cast p d j t)
sure_decimal_cast p d F64 t h = sure_decimal_of_float p d F64 t h
sure_decimal_cast p d F32 t h = sure_decimal_of_float p d F32 t h
sure_decimal_cast p d j t h = sure_kind_by (Decimal d) (decimal_steps p d (Of j)) t

pub sure_kind_cast : (p : Bool) (k j : Kind) (t : Tree) → IsTyped t → Sure IsItem (kind_cast p k j t)
sure_kind_cast p Date Date t h = h
sure_kind_cast p Timestamp Timestamp t h = h
sure_kind_cast p F32 F32 t h = h
sure_kind_cast p F64 F64 t h = h
sure_kind_cast p F64 j t h = sure_float_item (lowered t (Of j)) h
sure_kind_cast p Timestamp Date t h =
    sure_instant_cast p Timestamp standard.DateToTimestamp t
sure_kind_cast p Date Timestamp t h = sure_instant_cast p Date standard.TimestampToDate t
sure_kind_cast p (Decimal d) j t h = sure_decimal_cast p d j t h
sure_kind_cast p k j t h = tt

sure_text_cast : (p : Bool) (k : Kind) (t : Tree) → Sure IsItem (text_cast p k t)
sure_text_cast p k t = sure_kind_by k (text_steps p k) t

sure_number_cast : (p : Bool) (k : Kind) (a : Operand) (t : Tree) → IsTyped t
    → Sure IsItem (number_cast p k a t)
sure_number_cast p F64 a t h = sure_float_item (lowered t a) h
sure_number_cast p (Decimal d) a t h = sure_kind_by (Decimal d) (decimal_steps p d a) t
sure_number_cast p k a t h = tt

sure_plain_cast : (p : Bool) (k : Kind) (t : Tree) → IsTyped t → Sure IsItem (plain_cast p k t)
sure_plain_cast p k t h =
    sure_if IsItem (is_text_type (tree_type meaning t)) _ _ (sure_text_cast p k t)
    (sure_number_cast p k (plain_operand (tree_type meaning t)) t h)

sure_literal_cast : (p : Bool) (k : Kind) (l : Literal) → Sure IsItem (literal_cast p k l)
sure_literal_cast true k (text bs) =
    sure_then IsTyped IsItem (constant_at (text bs) (text_type false)) (text_cast true k)
    (sure_constant (text bs) (text_type false)) (λ t h. sure_text_cast true k t)
sure_literal_cast p k l = sure_kind_item k l

pub sure_cast_to_kind : (p : Bool) (k : Kind) (i : Item) → IsItem i
    → Sure IsItem (cast_to_kind p k i)
sure_cast_to_kind p k (literal l) h = sure_literal_cast p k l
sure_cast_to_kind p k (bound t) h = sure_plain_cast p k t h
sure_cast_to_kind p k (kinded j t) h = sure_kind_cast p k j t h
sure_cast_to_kind p k (fraction w) h = sure_kind_item k (number w)
sure_cast_to_kind p k (interval z) h = tt

pub sure_numeric_cast : (p : Bool) (i : Item) → IsItem i → Sure IsItem (numeric_cast p i)
sure_numeric_cast p (fraction w) h = tt
sure_numeric_cast p (kinded (Decimal d) t) h = h
sure_numeric_cast p i h = sure_cast_to_kind p (numeric_kind i) i h

-- casts from kinds
pub sure_from_kind : (k : Kind) (o : Option Steps) (t : Tree) → Sure IsItem (from_kind k o t)
sure_from_kind k None t = tt
sure_from_kind k (Some s) t = sure_item (stepped s t) (sure_stepped s t)

pub sure_stored_cast : (p : Bool) (k : Kind) (u : LogicalType) (t : Tree)
    → Sure IsItem (stored_cast p k u t)
sure_stored_cast p k (integer_type q false) t = sure_from_kind k (integer_steps p k q) t
sure_stored_cast true k (text_type false) t = tt
sure_stored_cast false k (text_type false) t = sure_from_kind k (written_steps k) t
sure_stored_cast p k u t = tt

pub sure_fraction_cast : (p : Bool) (w : List ℕ) (u : LogicalType)
    → Sure IsItem (fraction_cast p w u)
sure_fraction_cast p w u =
    sure_then {A = Lowered} Any IsItem (text_literal F64 w) (λ x. stored_cast p F64 u x.tree)
    (sure_text_literal F64 w) (λ x h. sure_stored_cast p F64 u x.tree)
