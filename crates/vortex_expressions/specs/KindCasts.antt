-- Literals of kinds by name, and casts from and to kinds.
use Rattle.std.specs.Prelude.{ℕ, ℤ, List, [], ◌∷◌, Bool, true, false, ◌||◌, Option, Some, None}
use Rattle.std.specs.Prelude.{codes, pos, ◌++◌, if◌then◌else◌}
use Rattle.std.specs.Str.{str_to_ascii_lowercase}
use Rattle.vortex_types.specs.declared.dtype.PType.TheVariants.{I64}
use Rattle.vortex_types.specs.LogicalTypes.{LogicalType, integer_type, text_type}
use Rattle.vortex_columns.specs.ScalarOf.{int_scalar}
use Rattle.vortex_interface.specs.Trees.{constant}
use Rattle.vortex_interface.specs.Eval.{tree_type}
use Rattle.vortex_syntax.specs.Keywords.{same_word}
use Rattle.vortex_syntax.specs.Levels.{is_unit}
use Rattle.vortex_logical.specs.declared.kind.Kind.{Kind}
use Rattle.vortex_logical.specs.declared.kind.Kind.TheVariants.{Date, Timestamp, Decimal}
use Rattle.vortex_logical.specs.declared.kind.Kind.TheVariants.{F64, F32}
use Rattle.vortex_logical.specs.declared.operand.Operand.{Operand}
use Rattle.vortex_logical.specs.declared.operand.Operand.TheVariants.{Whole, Of}
use Rattle.vortex_logical.specs.Kinds.{decimal_kind, digit_of, teen_of}
use Rattle.vortex_syntax.specs.SizeDigits.{sizes_of}
use Rattle.vortex_logical_casts.specs.declared.steps.Step.{Step}
use Rattle.vortex_logical_casts.specs.declared.steps.Steps.{Steps}
use Rattle.vortex_logical_casts.specs.declared.steps.Steps.TheVariants.{One, Two}
use Rattle.vortex_logical_casts.specs.declared.steps.More.{More}
use Rattle.vortex_logical_casts.specs.declared.steps.More.TheVariants as more
use Rattle.vortex_logical_casts.specs.Casts.{text_steps, decimal_steps, integer_steps, written_steps}
use Rattle.vortex_logical_casts.specs.Casts.{float_steps}
use Rattle.vortex_logical.specs.Digits.{Digits, digits_of}
use Rattle.vortex_lowering.specs.Rows.{lowered}
use Rattle.vortex_logical_calls.specs.Calls.{Lowered}
use Rattle.vortex_logical_calls.specs.Conversions.{as_float}
use Rattle.vortex_logical_calls.specs.Intervals.{interval_of}
use Rattle.vortex_logical_calls.specs.declared.intervals.Interval.{Interval}
use Rattle.vortex_standard.specs.declared.standard.Standard.{Standard}
use Rattle.vortex_standard.specs.declared.standard.Standard.TheVariants as standard
use Rattle.vortex_expressions.specs.declared.refusal.Refusal.TheVariants.{NoCast, NotHeld, OfKind}
use Rattle.vortex_expressions.specs.Literals.{Literal, number, text, truth, null}
use Rattle.vortex_expressions.specs.Outcomes.{Outcome, answers, refuses, and_then}
use Rattle.vortex_expressions.specs.declared.item.Timespan.TheVariants.{Given}
use Rattle.vortex_expressions.specs.Items.{Item, literal, bound, kinded, fraction, interval, Tree}
use Rattle.vortex_expressions.specs.Items.{meaning, as_item, constant_at}
use Rattle.vortex_expressions.specs.Items.{callable, call_of}
use Rattle.vortex_expressions.specs.Kinded.{told, text_literal, null_literal, plain_operand}
use Rattle.vortex_expressions.specs.Kinded.{value_item}

-- the kinds with a name in texts, in either case
abbrev pub is_f64 : List ℕ → Bool
is_f64 w =
    (same_word w (codes "f64") || same_word w (codes "float8"))
    || (same_word w (codes "float") || same_word w (codes "double"))

abbrev pub is_f32 : List ℕ → Bool
is_f32 w =
    same_word w (codes "f32") || (same_word w (codes "float4") || same_word w (codes "real"))

-- a number from 0 to 19
abbrev pub count_of : List ℕ → Option ℕ
count_of (b ∷ []) = digit_of b
count_of (t ∷ b ∷ []) = teen_of t b
count_of bs = None

abbrev pub digits_kind : Option ℕ → Option ℕ → Option Kind
digits_kind (Some p) (Some s) = decimal_kind p s
digits_kind p s = None

-- the decimal of precision and scale
abbrev pub sized_kind : Option (List ℕ × List ℕ) → Option Kind
sized_kind None = None
sized_kind (Some x) = digits_kind (count_of x.0) (count_of x.1)

abbrev pub word_kind : List ℕ → Option Kind
word_kind w =
    if same_word w (codes "date") then Some Date
    else (if same_word w (codes "timestamp") then Some Timestamp
    else (if is_f64 w then Some F64 else (if is_f32 w then Some F32 else sized_kind (sizes_of w))))

-- a literal of a kind
abbrev pub kind_literal : Kind → Literal → Outcome Lowered
kind_literal k (number w) = text_literal k w
kind_literal k (text bs) = text_literal k bs
kind_literal k (truth b) = refuses NotHeld
kind_literal k null = null_literal k

abbrev pub kind_item : Kind → Literal → Outcome Item
kind_item k l = and_then (kind_literal k l) (λ x. answers (value_item x.operand x.tree))

-- numbers, but floats of 64 bits
abbrev pub becomes_float : Operand → Bool
becomes_float (Whole p) = true
becomes_float (Of (Decimal d)) = true
becomes_float (Of F32) = true
becomes_float a = false

abbrev pub float_item : Lowered → Outcome Item
float_item x =
    if becomes_float x.operand
    then and_then (told (as_float x)) (λ y. answers (value_item y.operand y.tree))
    else refuses NoCast

-- whole numbers after a value among the arguments
abbrev pub whole_tree : ℕ → Tree
whole_tree n = constant (int_scalar I64 (pos n))

abbrev pub more_trees : More → List Tree
more_trees more.Nothing = []
more_trees (more.One n) = whole_tree n ∷ []
more_trees (more.Two n m) = whole_tree n ∷ whole_tree m ∷ []

-- a value after functions, the first one first
abbrev pub step_on : Step → Tree → Outcome Tree
step_on s t = call_of (callable s.function) (t ∷ more_trees s.more)

abbrev pub stepped : Steps → Tree → Outcome Tree
stepped (One s) t = step_on s t
stepped (Two s r) t = and_then (step_on s t) (step_on r)

abbrev pub kind_by : Kind → Option Steps → Tree → Outcome Item
kind_by k None t = refuses NoCast
kind_by k (Some s) t = and_then (stepped s t) (λ u. answers (kinded k u))

-- a value that a function makes one of the kind
abbrev pub cast_by : Kind → Standard → Tree → Outcome Item
cast_by k f t = and_then (call_of (callable f) (t ∷ [])) (λ u. answers (kinded k u))

-- by `try_cast`, of what may fault only texts and numbers
abbrev pub instant_cast : Bool → Kind → Standard → Tree → Outcome Item
instant_cast p k f t = if p then refuses NoCast else cast_by k f t

-- a float as so many digits
abbrev pub decimal_of_float : Bool → Digits → Kind → Tree → Outcome Item
decimal_of_float p d j t =
    and_then (told (as_float (lowered t (Of j))))
    (λ x. kind_by (Decimal d) (Some (float_steps p d)) x.tree)

-- a value of a kind as a decimal
abbrev pub decimal_cast : Bool → Digits → Kind → Tree → Outcome Item
decimal_cast p d F64 t = decimal_of_float p d F64 t
decimal_cast p d F32 t = decimal_of_float p d F32 t
decimal_cast p d j t = kind_by (Decimal d) (decimal_steps p d (Of j)) t

-- a value of the first kind as one of the second, by `try_cast` if the flag is true: of its own kind
-- it is unchanged, each number has a nearest float, and a date is a timestamp's day, which is its
-- midnight
abbrev pub kind_cast : Bool → Kind → Kind → Tree → Outcome Item
kind_cast p Date Date t = answers (kinded Date t)
kind_cast p Timestamp Timestamp t = answers (kinded Timestamp t)
kind_cast p F32 F32 t = answers (kinded F32 t)
kind_cast p F64 F64 t = answers (kinded F64 t)
kind_cast p F64 j t = float_item (lowered t (Of j))
kind_cast p Timestamp Date t = instant_cast p Timestamp standard.DateToTimestamp t
kind_cast p Date Timestamp t = instant_cast p Date standard.TimestampToDate t
kind_cast p (Decimal d) j t = decimal_cast p d j t
kind_cast p k j t = refuses NoCast

-- from a text
abbrev pub text_cast : Bool → Kind → Tree → Outcome Item
text_cast p k t = kind_by k (text_steps p k) t

-- from a whole number
abbrev pub number_cast : Bool → Kind → Operand → Tree → Outcome Item
number_cast p F64 a t = float_item (lowered t a)
number_cast p (Decimal d) a t = kind_by (Decimal d) (decimal_steps p d a) t
number_cast p k a t = refuses NoCast

-- from a text or a whole number
abbrev pub is_text_type : Option LogicalType → Bool
is_text_type (Some (text_type n)) = true
is_text_type o = false

abbrev pub plain_cast : Bool → Kind → Tree → Outcome Item
plain_cast p k t =
    if is_text_type (tree_type meaning t) then text_cast p k t
    else number_cast p k (plain_operand (tree_type meaning t)) t

-- a literal is one of the kind; by `try_cast` a text is cast like any other
abbrev pub literal_cast : Bool → Kind → Literal → Outcome Item
literal_cast true k (text bs) =
    and_then (constant_at (text bs) (text_type false)) (text_cast true k)
literal_cast p k l = kind_item k l

-- a cast to a kind
abbrev pub cast_to_kind : Bool → Kind → Item → Outcome Item
cast_to_kind p k (literal l) = literal_cast p k l
cast_to_kind p k (bound t) = plain_cast p k t
cast_to_kind p k (kinded j t) = kind_cast p k j t
cast_to_kind p k (fraction w) = kind_item k (number w)
cast_to_kind p k (interval z) = refuses NoCast

-- `numeric` without digits is the type of a decimal as it is, of a whole number with 18 digits, and
-- of all else a float
abbrev pub is_numeric_name : List ℕ → Bool → Bool
is_numeric_name w n =
    if n then false else same_word w (codes "numeric") || same_word w (codes "decimal")

abbrev pub whole_kind : Operand → Kind
whole_kind (Whole p) = Decimal (digits_of 18 0)
whole_kind a = F64

abbrev pub numeric_kind : Item → Kind
numeric_kind (bound t) = whole_kind (plain_operand (tree_type meaning t))
numeric_kind (literal (number w)) = Decimal (digits_of 18 0)
numeric_kind i = F64

abbrev pub numeric_cast : Bool → Item → Outcome Item
numeric_cast p (fraction w) = answers (fraction w)
numeric_cast p (kinded (Decimal d) t) = answers (kinded (Decimal d) t)
numeric_cast p i = cast_to_kind p (numeric_kind i) i

abbrev pub from_kind : Kind → Option Steps → Tree → Outcome Item
from_kind k None t = refuses (OfKind k)
from_kind k (Some s) t = as_item (stepped s t)

-- a value of a kind as a text, but by `try_cast`
abbrev pub text_from : Bool → Kind → Tree → Outcome Item
text_from p k t = if p then refuses (OfKind k) else from_kind k (written_steps k) t

-- a value of a kind as the nearest integer, or as a text
abbrev pub stored_cast : Bool → Kind → LogicalType → Tree → Outcome Item
stored_cast p k (integer_type q false) t = from_kind k (integer_steps p k q) t
stored_cast p k (text_type false) t = text_from p k t
stored_cast p k u t = refuses (OfKind k)

-- a number with a fraction is a float of 64 bits
abbrev pub fraction_cast : Bool → List ℕ → LogicalType → Outcome Item
fraction_cast p w u = and_then (text_literal F64 w) (λ x. stored_cast p F64 u x.tree)

-- the interval of a text
abbrev pub is_interval_name : List ℕ → Bool → Bool
is_interval_name w n = if n then false else same_word w (codes "interval")

abbrev pub interval_told : Option Interval → Outcome Item
interval_told None = refuses NotHeld
interval_told (Some z) = answers (interval (Given z))

abbrev pub interval_item : Literal → Outcome Item
interval_item (text bs) = interval_told (interval_of bs)
interval_item l = refuses NotHeld

-- the name of a unit is a type of intervals, too: `'3'::month` is the interval `3 month`
abbrev pub is_unit_name : List ℕ → Bool → Bool
is_unit_name w n = if n then false else is_unit w

abbrev pub unit_text : List ℕ → List ℕ → List ℕ
unit_text ds u = (ds ++ codes " ") ++ str_to_ascii_lowercase u

abbrev pub unit_item : List ℕ → Literal → Outcome Item
unit_item u (text bs) = interval_told (interval_of (unit_text bs u))
unit_item u (number ds) = interval_told (interval_of (unit_text ds u))
unit_item u l = refuses NotHeld
