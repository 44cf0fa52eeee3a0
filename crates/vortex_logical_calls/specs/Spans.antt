-- Lengths of time in microseconds, which each row may have another of, and the dates and timestamps
-- that they move.
use Rattle.std.specs.Prelude.{[], ◌∷◌}
use Rattle.vortex_errors.specs.declared.error.NumericOperator.{NumericOperator}
use Rattle.vortex_types.specs.declared.dtype.PType.TheVariants.{I64}
use Rattle.vortex_interface.specs.Shipped.{Binary}
use Rattle.vortex_interface.specs.Functions.{ours}
use Rattle.vortex_logical.specs.declared.kind.Kind.TheVariants.{Date, Timestamp}
use Rattle.vortex_logical.specs.declared.operand.Operand.{Operand}
use Rattle.vortex_logical.specs.declared.operand.Operand.TheVariants.{Whole, Of}
use Rattle.vortex_lowering.specs.declared.refusal.Refusal.TheVariants.{NoCommonKind}
use Rattle.vortex_lowering.specs.LoweredTrees.{arithmetic_operator}
use Rattle.vortex_logical_calls.specs.Outcomes.{Outcome, made, refused, and_then}
use Rattle.vortex_logical_calls.specs.Calls.{Tree, Lowered, call_on}
use Rattle.vortex_logical_calls.specs.Conversions.{as_integer, as_instant}
use Rattle.vortex_logical_calls.specs.Computation.{of_operand}

-- a whole number, which says how many times, in 64 bits
abbrev pub counted_by : Operand → Lowered → Outcome Lowered
counted_by (Whole p) x = as_integer I64 x
counted_by a x = refused (NoCommonKind a (Whole I64))

abbrev pub counted : Lowered → Outcome Lowered
counted x = counted_by x.operand x

-- the sum or the difference of two lengths, or the product of one and a count
abbrev pub spans_computed : NumericOperator → Tree → Tree → Outcome Tree
spans_computed o t u = call_on (ours (Binary (arithmetic_operator o))) (t ∷ u ∷ [])

-- a timestamp, and a date from its midnight on
abbrev pub instant_by : Operand → Lowered → Outcome Lowered
instant_by (Of Timestamp) x = made x
instant_by (Of Date) x = as_instant x
instant_by a x = refused (NoCommonKind a (Of Timestamp))

abbrev pub instant : Lowered → Outcome Lowered
instant x = instant_by x.operand x

-- an instant so many microseconds later or earlier
abbrev pub moved_instant : NumericOperator → Lowered → Tree → Outcome Lowered
moved_instant o x t =
    and_then (instant x) (λ a. of_operand (Of Timestamp) (spans_computed o a.tree t))
