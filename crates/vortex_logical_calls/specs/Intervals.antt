-- Intervals, of a fixed length as their microseconds, or of months, the dates and timestamps that the
-- former move, and how long it is from one to another.
use Rattle.std.specs.Prelude.{ℕ, ◌+◌, ◌*◌, ◌/◌, ◌%◌, ◌==◌, ◌&&◌, nat_le, ℤ, pos, int_rem, int_div}
use Rattle.std.specs.Prelude.{List, [], ◌∷◌, Option, Some, None, option_map, Result, Ok, Err}
use Rattle.std.specs.Prelude.{if◌then◌else◌, Bool, true, false}
use Rattle.std.specs.Ordering.{int_eq}
use Rattle.jiff_core.specs.Sign.{signed}
use Rattle.jiff_core.specs.declared.error.Error.{Error}
use Rattle.jiff_fmt.specs.Friendly.{parse_span}
use Rattle.vortex_errors.specs.declared.error.NumericOperator.{NumericOperator}
use Rattle.vortex_errors.specs.declared.error.NumericOperator.TheVariants as numeric
use Rattle.vortex_types.specs.declared.dtype.PType.TheVariants.{I32, I64}
use Rattle.vortex_types.specs.ScalarView.{ScalarView}
use Rattle.vortex_columns.specs.ScalarOf.{int_scalar}
use Rattle.vortex_interface.specs.Shipped.{Binary}
use Rattle.vortex_interface.specs.Functions.{ours}
use Rattle.vortex_interface.specs.Trees.{constant}
use Rattle.vortex_logical.specs.declared.kind.Kind.TheVariants.{Date, Timestamp}
use Rattle.vortex_logical.specs.declared.operand.Operand.{Operand}
use Rattle.vortex_logical.specs.declared.operand.Operand.TheVariants.{Whole, Of}
use Rattle.vortex_lowering.specs.declared.refusal.Refusal.TheVariants.{NoCommonKind}
use Rattle.vortex_lowering.specs.LoweredTrees.{arithmetic_operator}
use Rattle.vortex_logical_calls.specs.Outcomes.{Outcome, refused, and_then}
use Rattle.vortex_logical_calls.specs.Calls.{Tree, Lowered, call_on}
use Rattle.vortex_logical_calls.specs.Conversions.{conversion_beside, converted}
use Rattle.vortex_logical_calls.specs.Computation.{of_operand}
use Rattle.vortex_logical_calls.specs.declared.intervals.Interval.{Interval}
use Rattle.vortex_logical_calls.specs.declared.intervals.Interval.TheVariants.{Micros, Months}

-- the nanoseconds of a week, a day, an hour, a minute, a second, and of its thousandths
abbrev pub unit_lengths : List ℕ
unit_lengths =
    604_800_000_000_000 ∷ 86_400_000_000_000 ∷ 3_600_000_000_000 ∷ 60_000_000_000 ∷ 1_000_000_000
    ∷ 1_000_000 ∷ 1_000 ∷ 1 ∷ []

abbrev pub total : List ℕ → List ℕ → ℕ
total (n ∷ ns) (u ∷ us) = n * u + total ns us
total ns us = 0

-- whole microseconds that 64 bits hold, below zero where the mark is 1
abbrev pub whole_micros : ℕ → ℕ → Option ℤ
whole_micros s n =
    if (n % 1_000 == 0) && nat_le (n / 1_000) 9_223_372_036_854_775_807
    then Some (signed (s == 1) (n / 1_000)) else None

-- of a sign, and of years, months and smaller units: months have no fixed length
abbrev pub micros_of : List ℕ → Option ℤ
micros_of (s ∷ years ∷ months ∷ units) =
    if (years == 0) && (months == 0) then whole_micros s (total units unit_lengths) else None
micros_of ns = None

-- months that 32 bits hold, below zero where the mark is 1
abbrev pub whole_months : ℕ → ℕ → Option ℤ
whole_months s n = if nat_le n 2_147_483_647 then Some (signed (s == 1) n) else None

-- of a sign, and of years and months without smaller units
abbrev pub months_of : List ℕ → Option ℤ
months_of (s ∷ years ∷ months ∷ units) =
    if total units unit_lengths == 0 then whole_months s (years * 12 + months) else None
months_of ns = None

abbrev pub or_months : Option ℤ → Option ℤ → Option Interval
or_months (Some z) o = Some (Micros z)
or_months None o = option_map Months o

abbrev pub interval_read : Result (List ℕ) Error → Option Interval
interval_read (Ok ns) = or_months (micros_of ns) (months_of ns)
interval_read (Err e) = None

-- the interval of a text such as `3 days` or `2 months`
abbrev pub interval_of : List ℕ → Option Interval
interval_of text = interval_read (parse_span text)

-- what a date and a timestamp take of an interval: a date whole days
abbrev pub whole_days : ℤ → Option ScalarView
whole_days z =
    if int_eq (int_rem z (pos 86_400_000_000)) (pos 0)
    then Some (int_scalar I32 (int_div z (pos 86_400_000_000))) else None

abbrev pub moved_by : Operand → ℤ → Option ScalarView
moved_by (Of Timestamp) z = Some (int_scalar I64 z)
moved_by (Of Date) z = whole_days z
moved_by a z = None

abbrev pub moved : NumericOperator → Lowered → Option ScalarView → Outcome Lowered
moved o x None = refused (NoCommonKind x.operand (Whole I64))
moved o x (Some s) =
    of_operand x.operand
    (call_on (ours (Binary (arithmetic_operator o))) (x.tree ∷ constant s ∷ []))

-- an operand moved by an interval
abbrev pub shifted : NumericOperator → Lowered → ℤ → Outcome Lowered
shifted o x z = moved o x (moved_by x.operand z)

-- a timestamp next to another one, or next to a date
abbrev pub are_instants : Operand → Operand → Bool
are_instants (Of Timestamp) (Of Timestamp) = true
are_instants (Of Timestamp) (Of Date) = true
are_instants (Of Date) (Of Timestamp) = true
are_instants a b = false

-- the difference of two of them is how long it is from one to the other
abbrev pub elapses : NumericOperator → Operand → Operand → Bool
elapses numeric.Sub a b = are_instants a b
elapses o a b = false

-- the microseconds from the second to the first
abbrev pub elapsed : Lowered → Lowered → Outcome Tree
elapsed x y =
    and_then (converted (conversion_beside x.operand y.operand) x) (λ a.
    and_then (converted (conversion_beside y.operand x.operand) y) (λ b.
    call_on (ours (Binary (arithmetic_operator numeric.Sub))) (a.tree ∷ b.tree ∷ [])))
