-- What the rows of comparisons, bounds, arithmetic and functions in texts over columns with kinds mean.
use Rattle.std.specs.Prelude.{◌≡◌, ◌||◌, ℕ, ℤ, Bool, true, false, List, [], ◌∷◌, Option, Some, None}
use Rattle.std.specs.Prelude.{reverse, codes}
use Rattle.vortex_types.specs.LogicalTypes.{Fields}
use Rattle.vortex_errors.specs.declared.error.NumericOperator.{NumericOperator}
use Rattle.vortex_errors.specs.declared.error.NumericOperator.TheVariants.{Add, Sub, Mul}
use Rattle.vortex_operators.specs.declared.operators.CompareOperator.{CompareOperator}
use Rattle.vortex_operators.specs.declared.operators.Operator.TheVariants as operator
use Rattle.vortex_interface.specs.Shipped.{Binary}
use Rattle.vortex_interface.specs.Functions.{ours}
use Rattle.vortex_syntax.specs.declared.step.WrittenOperator.{WrittenOperator}
use Rattle.vortex_syntax.specs.declared.step.WrittenOperator.TheVariants as written
use Rattle.vortex_syntax.specs.Syntax.{Syntax, joined, between, listed, distinct, applied, chosen}
use Rattle.vortex_syntax.specs.Syntax.{chosen_else, Arguments, Branches}
use Rattle.vortex_syntax.specs.Postfix.{has_operand}
use Rattle.vortex_syntax.specs.Keywords.{same_word}
use Rattle.vortex_logical.specs.declared.kind.Kind.{Kind}
use Rattle.vortex_logical.specs.declared.operand.Operand.TheVariants.{Of}
use Rattle.vortex_lowering.specs.Rows.{lowered}
use Rattle.vortex_logical_calls.specs.declared.intervals.Interval.TheVariants.{Micros}
use Rattle.vortex_logical_calls.specs.Outcomes.{made}
use Rattle.vortex_logical_calls.specs.Calls.{Lowered}
use Rattle.vortex_logical_calls.specs.Computation.{goes_by_floats}
use Rattle.vortex_logical_calls.specs.RowLaws.{ComparedRows, BoundedRows, ComputedRows}
use Rattle.vortex_logical_calls.specs.RowLaws.{ShiftedRows, ElapsedRows, SpanRows, is_sum}
use Rattle.vortex_logical_calls.specs.RowLaws.{MovedInstantRows}
use Rattle.vortex_logical_calls.specs.Spans.{counted}
use Rattle.vortex_standard.specs.declared.standard.Standard.{Standard}
use Rattle.vortex_standard.specs.declared.standard.Standard.TheVariants as standard
use Rattle.vortex_standard.specs.Names.{standard_named}
use Rattle.vortex_expressions.specs.declared.item.Timespan.{Timespan}
use Rattle.vortex_expressions.specs.declared.item.Timespan.TheVariants.{Given, Elapsed}
use Rattle.vortex_expressions.specs.declared.kind_operators.KindedOperator.TheVariants.{Compares}
use Rattle.vortex_expressions.specs.declared.kind_operators.KindedOperator.TheVariants.{Computes}
use Rattle.vortex_expressions.specs.Outcomes.{Outcome, answers}
use Rattle.vortex_expressions.specs.Folding.{folded}
use Rattle.vortex_expressions.specs.Items.{Item, bound, kinded, fraction, interval, Tree, called}
use Rattle.vortex_expressions.specs.Kinded.{is_kinded, is_interval, first_kind, value_item}
use Rattle.vortex_expressions.specs.Kinded.{kinded_operator, within_bounds, span_operand, count_of}
use Rattle.vortex_expressions.specs.KindWords.{kind_word}
use Rattle.vortex_expressions.specs.Functions.{meant_by}
use Rattle.vortex_expressions.specs.Calls.{Names, names_in, negated_if, negated_item, conditions_of}
use Rattle.vortex_expressions.specs.Binding.{LogicalTree, item_by, items_by, branches_by, with_item}
use Rattle.vortex_expressions.specs.Binding.{ended, logical_of}
use Rattle.vortex_expressions.specs.FunctionRows.{IsNext, IsCall}

-- a comparison in a text: its operands, and its rows
pub record ComparesItems (op : CompareOperator) (i j : Item) (t : Tree) : Type 0 where
  pub x : Lowered
  pub y : Lowered
  pub left : IsNext (first_kind (i ∷ j ∷ [])) i x
  pub right : IsNext (first_kind (i ∷ j ∷ [])) j y
  pub rows : ComparedRows op x y t

-- arithmetic, the same, where it does not go by floats
pub record ComputesItems (o : NumericOperator) (i j : Item) (t : LogicalTree) : Type 0 where
  pub x : Lowered
  pub y : Lowered
  pub z : Lowered
  pub left : IsNext (first_kind (i ∷ j ∷ [])) i x
  pub right : IsNext (first_kind (i ∷ j ∷ [])) j y
  pub value : ended (value_item z.operand z.tree) ≡ answers t
  pub rows : goes_by_floats o x.operand y.operand ≡ false → ComputedRows o x y z

-- BETWEEN, the same
pub record BoundsItems (i low high : Item) (t : Tree) : Type 0 where
  pub x : Lowered
  pub y : Lowered
  pub z : Lowered
  pub operand : IsNext (first_kind (i ∷ low ∷ high ∷ [])) i x
  pub lower : IsNext (first_kind (i ∷ low ∷ high ∷ [])) low y
  pub upper : IsNext (first_kind (i ∷ low ∷ high ∷ [])) high z
  pub rows : BoundedRows within_bounds x y z t

-- between the bounds in either order
pub record EitherBoundsItems (i low high : Item) (t : Tree) : Type 0 where
  pub first : Tree
  pub second : Tree
  pub as_written : BoundsItems i low high first
  pub turned : BoundsItems i high low second
  pub either : called (ours (Binary operator.Or)) None (bound first ∷ bound second ∷ []) ≡ answers t

-- how long it is from one timestamp to another
pub record ElapsesItem (i j : Item) (t : Tree) : Type 0 where
  pub x : Lowered
  pub y : Lowered
  pub left : IsNext (first_kind (i ∷ j ∷ [])) i x
  pub right : IsNext (first_kind (i ∷ j ∷ [])) j y
  pub rows : ElapsedRows x y t

-- a comparison of intervals, or of such differences
pub record ComparesSpans (op : CompareOperator) (i j : Item) (t : Tree) : Type 0 where
  pub x : Lowered
  pub y : Lowered
  pub left : span_operand i ≡ answers x
  pub right : span_operand j ≡ answers y
  pub rows : ComparedRows op x y t

-- a value, the interval that moves it, and whether it is added
pub record Shift : Type 0 where
  pub operator : NumericOperator
  pub value : Lowered
  pub micros : ℤ

abbrev pub shift : NumericOperator → Kind → Tree → ℤ → Shift
shift o k t z = record { operator = o; value = lowered t (Of k); micros = z }

-- an interval of a fixed length is added to a value of a kind, or taken from it
abbrev pub shift_of : WrittenOperator → Item → Item → Option Shift
shift_of written.Add (kinded k t) (interval (Given (Micros z))) = Some (shift Add k t z)
shift_of written.Add (interval (Given (Micros z))) (kinded k t) = Some (shift Add k t z)
shift_of written.Sub (kinded k t) (interval (Given (Micros z))) = Some (shift Sub k t z)
shift_of o i j = None

-- a value moved by an interval, and its rows
pub record MovesItem (s : Shift) (t : LogicalTree) : Type 0 where
  pub w : Lowered
  pub value : ended (value_item w.operand w.tree) ≡ answers t
  pub rows : ShiftedRows s.operator s.value s.micros w

-- so many times an interval, or a difference of timestamps
pub record Multiple : Type 0 where
  pub count : Item
  pub timespan : Timespan

abbrev pub multiple : Item → Timespan → Multiple
multiple i s = record { count = i; timespan = s }

abbrev pub multiple_of : Item → Item → Option Multiple
multiple_of i (interval s) = Some (multiple i s)
multiple_of (interval s) j = Some (multiple j s)
multiple_of i j = None

-- the product of the count, a whole number, and the microseconds
pub record MultipliesSpan (m : Multiple) (t : Tree) : Type 0 where
  pub x : Lowered
  pub n : Lowered
  pub y : Lowered
  pub count : count_of m.count ≡ answers x
  pub whole : counted x ≡ made n
  pub micros : span_operand (interval m.timespan) ≡ answers y
  pub rows : SpanRows Mul n.tree y.tree t

-- two intervals or differences, and whether the second is added
pub record AddsSpans (o : NumericOperator) (i j : Item) (t : Tree) : Type 0 where
  pub x : Lowered
  pub y : Lowered
  pub left : span_operand i ≡ answers x
  pub right : span_operand j ≡ answers y
  pub rows : SpanRows o x.tree y.tree t

-- a value, and the microseconds of each row that move it
pub record Move : Type 0 where
  pub operator : NumericOperator
  pub value : Lowered
  pub micros : Tree

abbrev pub move : NumericOperator → Kind → Tree → Tree → Move
move o k t u = record { operator = o; value = lowered t (Of k); micros = u }

abbrev pub move_of : WrittenOperator → Item → Item → Option Move
move_of written.Add (kinded k t) (interval (Elapsed u)) = Some (move Add k t u)
move_of written.Add (interval (Elapsed u)) (kinded k t) = Some (move Add k t u)
move_of written.Sub (kinded k t) (interval (Elapsed u)) = Some (move Sub k t u)
move_of o i j = None

pub record MovesInstant (m : Move) (t : LogicalTree) : Type 0 where
  pub w : Lowered
  pub value : ended (value_item w.operand w.tree) ≡ answers t
  pub rows : MovedInstantRows m.operator m.value m.micros w

module _ (scope : Fields) (kinds : List Kind) where
  abbrev names : Names
  names = names_in scope kinds

  -- the part of a text is the item
  abbrev Is : Syntax → Item → Type 0
  Is a i = item_by names a ≡ answers i

  abbrev pub ComparisonsCompare : Type 0
  ComparisonsCompare =
      (o : WrittenOperator) (op : CompareOperator) (a b : Syntax) (i j : Item) (t : LogicalTree)
      → kinded_operator o ≡ Compares op → Is a i → Is b j
      → (is_kinded i || is_kinded j) ≡ true → (is_interval i || is_interval j) ≡ false
      → logical_of scope kinds (joined o a b) ≡ answers t → ComparesItems op i j t.tree

  abbrev pub ArithmeticComputes : Type 0
  ArithmeticComputes =
      (o : WrittenOperator) (op : NumericOperator) (a b : Syntax) (i j : Item) (t : LogicalTree)
      → kinded_operator o ≡ Computes op → Is a i → Is b j
      → (is_kinded i || is_kinded j) ≡ true → (is_interval i || is_interval j) ≡ false
      → folded op i j ≡ None
      → logical_of scope kinds (joined o a b) ≡ answers t → ComputesItems op i j t

  -- a sum, a difference or a product of two literal numbers, one of them with a point, is the number
  -- with that text
  abbrev pub NumbersFold : Type 0
  NumbersFold =
      (o : WrittenOperator) (op : NumericOperator) (a b : Syntax) (i j : Item) (w : List ℕ)
      (t : LogicalTree) → kinded_operator o ≡ Computes op → Is a i → Is b j
      → (is_kinded i || is_kinded j) ≡ true → folded op i j ≡ Some w
      → logical_of scope kinds (joined o a b) ≡ answers t → ended (fraction w) ≡ answers t

  abbrev pub BoundsBound : Type 0
  BoundsBound =
      (n : Bool) (a low high : Syntax) (i j k : Item) (t : LogicalTree)
      → Is a i → Is low j → Is high k
      → (is_kinded i || (is_kinded j || is_kinded k)) ≡ true
      → logical_of scope kinds (between (record { negated = n; symmetric = false }) a low high)
      ≡ answers t
      → (u : Tree) × BoundsItems i j k u × (negated_if n u ≡ answers t.tree)

  abbrev pub EitherBoundsBound : Type 0
  EitherBoundsBound =
      (n : Bool) (a low high : Syntax) (i j k : Item) (t : LogicalTree)
      → Is a i → Is low j → Is high k
      → (is_kinded i || (is_kinded j || is_kinded k)) ≡ true
      → logical_of scope kinds (between (record { negated = n; symmetric = true }) a low high)
      ≡ answers t
      → (u : Tree) × EitherBoundsItems i j k u × (negated_if n u ≡ answers t.tree)

  -- the difference of two timestamps
  abbrev pub TimestampsElapse : Type 0
  TimestampsElapse =
      (o : WrittenOperator) (a b : Syntax) (i j : Item) (t : Tree)
      → kinded_operator o ≡ Computes Sub → Is a i → Is b j
      → (is_kinded i || is_kinded j) ≡ true → (is_interval i || is_interval j) ≡ false
      → Is (joined o a b) (interval (Elapsed t)) → ElapsesItem i j t

  -- two intervals, or such differences, compare by their microseconds
  abbrev pub IntervalsCompare : Type 0
  IntervalsCompare =
      (o : WrittenOperator) (op : CompareOperator) (a b : Syntax) (i j : Item) (t : LogicalTree)
      → kinded_operator o ≡ Compares op → Is a i → Is b j
      → (is_interval i || is_interval j) ≡ true
      → logical_of scope kinds (joined o a b) ≡ answers t → ComparesSpans op i j t.tree

  abbrev pub IntervalsShift : Type 0
  IntervalsShift =
      (o : WrittenOperator) (a b : Syntax) (i j : Item) (s : Shift) (t : LogicalTree)
      → Is a i → Is b j → shift_of o i j ≡ Some s
      → logical_of scope kinds (joined o a b) ≡ answers t → MovesItem s t

  -- so many times an interval
  abbrev pub SpansMultiply : Type 0
  SpansMultiply =
      (a b : Syntax) (i j : Item) (m : Multiple) (t : Tree) → Is a i → Is b j
      → multiple_of i j ≡ Some m → Is (joined written.Mul a b) (interval (Elapsed t))
      → MultipliesSpan m t

  -- the sum and the difference of two
  abbrev pub SpansAdd : Type 0
  SpansAdd =
      (o : WrittenOperator) (op : NumericOperator) (a b : Syntax) (r s : Timespan) (t : Tree)
      → kinded_operator o ≡ Computes op → is_sum op ≡ true → Is a (interval r) → Is b (interval s)
      → Is (joined o a b) (interval (Elapsed t)) → AddsSpans op (interval r) (interval s) t

  -- a date or a timestamp that microseconds move
  abbrev pub SpansMove : Type 0
  SpansMove =
      (o : WrittenOperator) (a b : Syntax) (i j : Item) (m : Move) (t : LogicalTree)
      → Is a i → Is b j → move_of o i j ≡ Some m
      → logical_of scope kinds (joined o a b) ≡ answers t → MovesInstant m t

  -- what follows from the items of a part, the last of which is first: it is the call on them
  abbrev IsEnded : Standard → List Item → (Item → Outcome Item) → LogicalTree → Type 0
  IsEnded f is p t = (r : Item) × IsCall f is p r × (ended r ≡ answers t)

  abbrev pub ListsCall : Type 0
  ListsCall =
      (n : Bool) (a b : Syntax) (args : Arguments) (us : List Item) (t : LogicalTree)
      → with_item (items_by names (with_item (answers []) (item_by names a)) args)
      (item_by names b) ≡ answers us
      → logical_of scope kinds (listed n a args b) ≡ answers t
      → IsEnded standard.InList (reverse us) (negated_item n) t

  abbrev pub DistinctCalls : Type 0
  DistinctCalls =
      (n : Bool) (a b : Syntax) (i j : Item) (t : LogicalTree) → Is a i → Is b j
      → logical_of scope kinds (distinct n a b) ≡ answers t
      → IsEnded standard.IsDistinct (i ∷ j ∷ []) (negated_item n) t

  abbrev pub NamesCall : Type 0
  NamesCall =
      (p : Bool) (w : List ℕ) (args : Arguments) (a : Syntax) (f : Standard) (us : List Item)
      (t : LogicalTree) → same_word w (codes "make_date") ≡ false → kind_word w ≡ None
      → standard_named w ≡ Some f
      → with_item (items_by names (answers []) args) (item_by names a) ≡ answers us
      → logical_of scope kinds (applied p w args a) ≡ answers t
      → IsEnded (meant_by names.has_kinds f (reverse us)) (reverse us) answers t

  abbrev pub CasesCall : Type 0
  CasesCall =
      (bs : Branches) (c v : Syntax) (us js : List Item) (t : LogicalTree)
      → with_item (with_item (branches_by names bs) (item_by names c)) (item_by names v)
      ≡ answers us → conditions_of (has_operand bs) (reverse us) ≡ answers js
      → logical_of scope kinds (chosen bs c v) ≡ answers t
      → IsEnded standard.Case js answers t

  abbrev pub ElseCasesCall : Type 0
  ElseCasesCall =
      (bs : Branches) (c v e : Syntax) (us js : List Item) (t : LogicalTree)
      → with_item (with_item (with_item (branches_by names bs) (item_by names c))
      (item_by names v)) (item_by names e) ≡ answers us
      → conditions_of (has_operand bs) (reverse us) ≡ answers js
      → logical_of scope kinds (chosen_else bs c v e) ≡ answers t
      → IsEnded standard.Case js answers t

-- each comparison, BETWEEN and operator of arithmetic between values of kinds in a text means what
-- its operands do, two literal numbers are one, an interval moves them, intervals and differences of
-- timestamps compare, add up and are multiplied by their microseconds, and each call of a function on
-- them is that on what stores them in one kind: IN, IS DISTINCT FROM, a function's name, and CASE
pub record TextsMeanTheirRows (scope : Fields) (kinds : List Kind) : Type 0 where
  pub comparisons : ComparisonsCompare scope kinds
  pub bounds : BoundsBound scope kinds
  pub either_bounds : EitherBoundsBound scope kinds
  pub arithmetic : ArithmeticComputes scope kinds
  pub numbers : NumbersFold scope kinds
  pub shifts : IntervalsShift scope kinds
  pub differences : TimestampsElapse scope kinds
  pub intervals : IntervalsCompare scope kinds
  pub multiples : SpansMultiply scope kinds
  pub sums_of_spans : SpansAdd scope kinds
  pub moves : SpansMove scope kinds
  pub lists : ListsCall scope kinds
  pub distinctions : DistinctCalls scope kinds
  pub functions : NamesCall scope kinds
  pub cases : CasesCall scope kinds
  pub cases_with_else : ElseCasesCall scope kinds
