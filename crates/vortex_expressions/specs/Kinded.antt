-- Calls on values of kinds: dates, timestamps, decimals and floats.
use Rattle.std.specs.Prelude.{ℕ, ℤ, List, [], ◌∷◌, Option, Some, None, Bool, true, false, ◌||◌}
use Rattle.std.specs.Prelude.{if◌then◌else◌, pos, ◌-ℤ◌}
use Rattle.vortex_types.specs.declared.dtype.PType.{PType}
use Rattle.vortex_types.specs.declared.dtype.PType.TheVariants.{I32, I64}
use Rattle.vortex_types.specs.LogicalTypes.{LogicalType, integer_type}
use Rattle.vortex_errors.specs.declared.error.NumericOperator.{NumericOperator}
use Rattle.vortex_errors.specs.declared.error.NumericOperator.TheVariants as numeric
use Rattle.vortex_errors.specs.declared.error.VortexError.TheVariants.{OutOfMemory, TypeMismatch}
use Rattle.vortex_errors.specs.declared.error.MismatchPlace.TheVariants.{Scalars}
use Rattle.vortex_operators.specs.declared.operators.CompareOperator.{CompareOperator}
use Rattle.vortex_operators.specs.declared.operators.CompareOperator.TheVariants as compare
use Rattle.vortex_operators.specs.declared.between.BetweenOptions.{BetweenOptions}
use Rattle.vortex_operators.specs.declared.between.StrictComparison.TheVariants.{NonStrict}
use Rattle.vortex_columns.specs.ScalarOf.{int_scalar}
use Rattle.vortex_interface.specs.Eval.{tree_type}
use Rattle.vortex_interface.specs.Trees.{constant}
use Rattle.vortex_syntax.specs.declared.step.WrittenOperator as syntax
use Rattle.vortex_syntax.specs.declared.step.WrittenOperator.TheVariants as written
use Rattle.vortex_logical.specs.declared.kind.Kind.{Kind}
use Rattle.vortex_logical.specs.declared.kind.Kind.TheVariants.{Plain, Date, Timestamp, F64}
use Rattle.vortex_logical.specs.Kinds.{stored_ptype}
use Rattle.vortex_logical.specs.declared.operand.Operand.{Operand}
use Rattle.vortex_logical.specs.declared.operand.Operand.TheVariants.{Whole, Of}
use Rattle.vortex_lowering.specs.Leaves.{is_ptype}
use Rattle.vortex_lowering.specs.Rows.{lowered}
use Rattle.vortex_lowering.specs.declared.refusal.Refusal as lowering
use Rattle.vortex_lowering.specs.declared.refusal.Refusal.TheVariants as unlowered
use Rattle.vortex_logical_calls.specs.Outcomes as calls
use Rattle.vortex_logical_calls.specs.Calls.{Lowered}
use Rattle.vortex_logical_calls.specs.Comparison.{compared}
use Rattle.vortex_logical_calls.specs.Bounds as bounds
use Rattle.vortex_logical_calls.specs.Computation.{computed}
use Rattle.vortex_logical_calls.specs.Literals.{kind_beside, literal_of}
use Rattle.vortex_logical_calls.specs.Intervals.{shifted, elapses, elapsed}
use Rattle.vortex_logical_calls.specs.Spans.{counted, spans_computed, moved_instant}
use Rattle.vortex_logical_calls.specs.declared.intervals.Interval.{Interval}
use Rattle.vortex_logical_calls.specs.declared.intervals.Interval.TheVariants.{Micros, Months}
use Rattle.vortex_sql_kind_texts.specs.TextKinds.{overflows}
use Rattle.vortex_expressions.specs.declared.refusal.Refusal.TheVariants.{NotHeld, UntypedNull}
use Rattle.vortex_expressions.specs.declared.refusal.Refusal.TheVariants.{OfKind, Kinds, Binding}
use Rattle.vortex_expressions.specs.declared.refusal.BindStop.{BindStop}
use Rattle.vortex_expressions.specs.declared.refusal.BindStop.TheVariants.{Refused}
use Rattle.vortex_expressions.specs.declared.item.Timespan.{Timespan}
use Rattle.vortex_expressions.specs.declared.item.Timespan.TheVariants.{Given, Elapsed}
use Rattle.vortex_expressions.specs.declared.kind_operators.KindedOperator.{KindedOperator}
use Rattle.vortex_expressions.specs.declared.kind_operators.KindedOperator.TheVariants.{Compares}
use Rattle.vortex_expressions.specs.declared.kind_operators.KindedOperator.TheVariants.{Computes}
use Rattle.vortex_expressions.specs.declared.kind_operators.KindedOperator.TheVariants.{Neither}
use Rattle.vortex_expressions.specs.Literals.{Literal, number, text, truth, null}
use Rattle.vortex_expressions.specs.Outcomes.{Outcome, answers, refuses, and_then}
use Rattle.vortex_expressions.specs.Items.{Item, literal, bound, kinded, fraction, interval, Tree}
use Rattle.vortex_expressions.specs.Months.{months_moved}
use Rattle.vortex_expressions.specs.Items.{meaning, constant_at, as_item, text_of}
use Rattle.vortex_expressions.specs.Folding.{folded}

-- values of a kind, and what has a meaning only next to them
abbrev pub is_kinded : Item → Bool
is_kinded (literal l) = false
is_kinded (bound t) = false
is_kinded i = true

abbrev pub is_interval : Item → Bool
is_interval (interval z) = true
is_interval i = false

abbrev pub is_plain : Kind → Bool
is_plain Plain = true
is_plain k = false

-- columns of the type store the kind
abbrev pub stores : Kind → Option LogicalType → Bool
stores k (Some (integer_type p n)) = is_ptype (stored_ptype k) p
stores k o = false

-- the tree of a value's stored integers
abbrev pub stored_item : Item → Item
stored_item (kinded k t) = bound t
stored_item i = i

-- the outcome of a call on operands
abbrev pub told : {A : Type 0} → calls.Outcome A → Outcome A
told (calls.made a) = answers a
told (calls.refused r) = refuses (Kinds r)
told calls.untyped = refuses (Binding (TypeMismatch Scalars))

-- the report of its error
abbrev pub stop_of : lowering.Refusal → BindStop
stop_of (unlowered.Binding OutOfMemory) = Refused (Binding OutOfMemory)
stop_of (unlowered.Binding e) = Refused (Binding (TypeMismatch Scalars))
stop_of r = Refused (Kinds r)

-- where no value has a kind a number with a fraction is a float
abbrev pub fraction_kind : Bool → Kind → Kind
fraction_kind true Plain = F64
fraction_kind b k = k

-- the kind of a value, or else the other kind; a difference is one of timestamps
abbrev pub kind_or : Item → Kind → Kind
kind_or (kinded k t) j = k
kind_or (fraction w) j = fraction_kind true j
kind_or (interval (Elapsed t)) j = Timestamp
kind_or i j = j

-- the kind of the first value with one, or that of a number with a fraction
abbrev pub first_kind : List Item → Kind
first_kind [] = Plain
first_kind (i ∷ is) = kind_or i (first_kind is)

-- what a tree without a kind is
abbrev pub plain_operand : Option LogicalType → Operand
plain_operand (Some (integer_type p n)) = Whole p
plain_operand o = Of Plain

-- a number without a point next to a date is days
abbrev pub whole_ptype : Kind → PType
whole_ptype Date = I32
whole_ptype k = I64

abbrev pub whole_literal : PType → Literal → Outcome Lowered
whole_literal p l = and_then (constant_at l (integer_type p false)) (λ t. answers (lowered t (Whole p)))

-- a number that is past all floats is none
abbrev pub text_literal : Kind → List ℕ → Outcome Lowered
text_literal k bs =
    if overflows k bs then refuses (Kinds (unlowered.NotOfKind k)) else told (literal_of k bs)

abbrev pub number_literal : Kind → Option Kind → List ℕ → Outcome Lowered
number_literal k None w = whole_literal (whole_ptype k) (number w)
number_literal k (Some j) w = text_literal j w

abbrev pub null_of : Kind → Option PType → Outcome Lowered
null_of k None = refuses UntypedNull
null_of k (Some p) = and_then (constant_at null (integer_type p true)) (λ t. answers (lowered t (Of k)))

abbrev pub null_literal : Kind → Outcome Lowered
null_literal k = null_of k (stored_ptype k)

-- a literal next to a value of a kind
abbrev pub literal_operand : Kind → Literal → Outcome Lowered
literal_operand k (number w) = number_literal k (kind_beside (Of k) w) w
literal_operand k (text bs) = text_literal k bs
literal_operand k (truth b) = refuses NotHeld
literal_operand k null = null_literal k

-- an item next to a value of a kind
abbrev pub item_operand : Kind → Item → Outcome Lowered
item_operand k (literal l) = literal_operand k l
item_operand k (bound t) = answers (lowered t (plain_operand (tree_type meaning t)))
item_operand k (kinded j t) = answers (lowered t (Of j))
item_operand k (fraction w) = literal_operand k (number w)
item_operand k (interval z) = refuses NotHeld

-- a tree of stored integers; whole numbers have no kind
abbrev pub value_item : Operand → Tree → Item
value_item (Whole p) t = bound t
value_item (Of k) t = kinded k t

-- what an operator does with values of kinds
abbrev pub kinded_operator : syntax.WrittenOperator → KindedOperator
kinded_operator written.Equal = Compares compare.Eq
kinded_operator written.NotEqual = Compares compare.NotEq
kinded_operator written.Less = Compares compare.Lt
kinded_operator written.LessOrEqual = Compares compare.Lte
kinded_operator written.Greater = Compares compare.Gt
kinded_operator written.GreaterOrEqual = Compares compare.Gte
kinded_operator written.Add = Computes numeric.Add
kinded_operator written.Sub = Computes numeric.Sub
kinded_operator written.Mul = Computes numeric.Mul
kinded_operator written.Div = Computes numeric.Div
kinded_operator o = Neither

abbrev pub compared_item : CompareOperator → Lowered → Lowered → Outcome Item
compared_item op x y = as_item (told (compared op x y))

-- the time from one timestamp to another, or a value
abbrev pub computed_item : NumericOperator → Lowered → Lowered → Outcome Item
computed_item o x y =
    if elapses o x.operand y.operand
    then and_then (told (elapsed x y)) (λ t. answers (interval (Elapsed t)))
    else and_then (told (computed o x y)) (λ z. answers (value_item z.operand z.tree))

abbrev pub operated : Kind → KindedOperator → Lowered → Lowered → Outcome Item
operated k (Compares op) x y = compared_item op x y
operated k (Computes o) x y = computed_item o x y
operated k Neither x y = refuses (OfKind k)

abbrev pub joined_beside : Kind → KindedOperator → Item → Item → Outcome Item
joined_beside k o a b =
    and_then (item_operand k a) (λ x. and_then (item_operand k b) (λ y. operated k o x y))

-- a date or a timestamp moved by an interval
abbrev pub shifted_item : NumericOperator → Kind → Tree → ℤ → Outcome Item
shifted_item o k t z =
    and_then (told (shifted o (lowered t (Of k)) z)) (λ x. answers (value_item x.operand x.tree))

-- months are added as the calendar has them, and taken as so many below zero
abbrev pub moved_item : NumericOperator → Kind → Tree → Interval → Outcome Item
moved_item o k t (Micros z) = shifted_item o k t z
moved_item numeric.Sub k t (Months n) = months_moved k t (pos 0 -ℤ n)
moved_item o k t (Months n) = months_moved k t n

-- how long it is, in microseconds, but for an interval of months
abbrev pub span_operand : Item → Outcome Lowered
span_operand (interval (Given (Micros z))) =
    answers (lowered (constant (int_scalar I64 z)) (Whole I64))
span_operand (interval (Elapsed t)) = answers (lowered t (Whole I64))
span_operand i = refuses NotHeld

-- which of two is longer
abbrev pub spans_compared : CompareOperator → Item → Item → Outcome Item
spans_compared op a b =
    and_then (span_operand a) (λ x. and_then (span_operand b) (λ y. compared_item op x y))

-- a value moved by an interval, or by microseconds that each row may have others of
abbrev pub moved_by_span : NumericOperator → Kind → Tree → Timespan → Outcome Item
moved_by_span o k t (Given z) = moved_item o k t z
moved_by_span o k t (Elapsed u) =
    and_then (told (moved_instant o (lowered t (Of k)) u))
    (λ x. answers (value_item x.operand x.tree))

-- the microseconds of two as one
abbrev pub span_item : Outcome Tree → Outcome Item
span_item o = and_then o (λ t. answers (interval (Elapsed t)))

abbrev pub spans_added : NumericOperator → Item → Item → Outcome Item
spans_added o a b =
    and_then (span_operand a) (λ x. and_then (span_operand b)
    (λ y. span_item (told (spans_computed o x.tree y.tree))))

-- a whole number, which says how many times
abbrev pub whole_count : Operand → Tree → Outcome Lowered
whole_count (Whole p) t = answers (lowered t (Whole p))
whole_count a t = refuses NotHeld

abbrev pub literal_count : Literal → Outcome Lowered
literal_count (number w) = whole_literal I64 (number w)
literal_count l = refuses NotHeld

abbrev pub count_of : Item → Outcome Lowered
count_of (literal l) = literal_count l
count_of (bound t) = whole_count (plain_operand (tree_type meaning t)) t
count_of i = refuses NotHeld

-- so many times an interval
abbrev pub multiplied : Item → Timespan → Outcome Item
multiplied i s =
    and_then (count_of i) (λ x. and_then (told (counted x)) (λ n. and_then (span_operand (interval s))
    (λ y. span_item (told (spans_computed numeric.Mul n.tree y.tree)))))

-- a value or another interval, and one that is added to it or taken from it
abbrev pub moved_or_added : NumericOperator → Item → Timespan → Outcome Item
moved_or_added o (kinded k t) s = moved_by_span o k t s
moved_or_added o (interval r) s = spans_added o (interval r) (interval s)
moved_or_added o i s = refuses NotHeld

abbrev pub added_items : Item → Item → Outcome Item
added_items a (interval s) = moved_or_added numeric.Add a s
added_items (interval s) b = moved_or_added numeric.Add b s
added_items a b = refuses NotHeld

abbrev pub taken_items : Item → Item → Outcome Item
taken_items a (interval s) = moved_or_added numeric.Sub a s
taken_items a b = refuses NotHeld

abbrev pub multiplied_items : Item → Item → Outcome Item
multiplied_items a (interval s) = multiplied a s
multiplied_items (interval s) b = multiplied b s
multiplied_items a b = refuses NotHeld

-- an operator of arithmetic, one of whose operands is an interval
abbrev pub moved_items : NumericOperator → Item → Item → Outcome Item
moved_items numeric.Add a b = added_items a b
moved_items numeric.Sub a b = taken_items a b
moved_items numeric.Mul a b = multiplied_items a b
moved_items numeric.Div a b = refuses NotHeld

-- an operator, one of whose operands is an interval
abbrev pub spans_joined : KindedOperator → Item → Item → Outcome Item
spans_joined (Compares op) a b = spans_compared op a b
spans_joined (Computes o) a b = moved_items o a b
spans_joined Neither a b = refuses NotHeld

-- the text of the result of two literal numbers
abbrev pub folded_by : KindedOperator → Item → Item → Option (List ℕ)
folded_by (Computes o) a b = folded o a b
folded_by o a b = None

abbrev pub fraction_of : List ℕ → Outcome Item
fraction_of bs = and_then (text_of bs) (λ w. answers (fraction w))

-- two literal numbers are one; else the operator is called
abbrev pub folded_or_joined : Option (List ℕ) → KindedOperator → Item → Item → Outcome Item
folded_or_joined (Some bs) o a b = fraction_of bs
folded_or_joined None o a b = joined_beside (first_kind (a ∷ b ∷ [])) o a b

abbrev pub values_joined : KindedOperator → Item → Item → Outcome Item
values_joined o a b = folded_or_joined (folded_by o a b) o a b

-- an operator, one of whose operands has a kind or is an interval
abbrev pub kinded_joined : syntax.WrittenOperator → Item → Item → Outcome Item
kinded_joined o a b =
    if is_interval a || is_interval b then spans_joined (kinded_operator o) a b
    else values_joined (kinded_operator o) a b

-- both bounds are inclusive
abbrev pub within_bounds : BetweenOptions
within_bounds = record { lower_strict = NonStrict; upper_strict = NonStrict }

abbrev pub between_beside : Kind → Item → Item → Item → Outcome Tree
between_beside k a low high =
    and_then (item_operand k a) (λ x. and_then (item_operand k low) (λ y.
    and_then (item_operand k high) (λ z. told (bounds.between within_bounds x y z))))

-- BETWEEN of three, one of which has a kind
abbrev pub kinded_between : Item → Item → Item → Outcome Tree
kinded_between a low high = between_beside (first_kind (a ∷ low ∷ high ∷ [])) a low high
