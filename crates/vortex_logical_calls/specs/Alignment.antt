-- Several operands in the kind in which they meet.
use Rattle.std.specs.Prelude.{Option, Some, None}
use Rattle.vortex_logical.specs.declared.operand.Operand.{Operand}
use Rattle.vortex_logical.specs.CommonKinds.{common_operand}
use Rattle.vortex_lowering.specs.declared.refusal.Refusal.TheVariants.{NoCommonKind}
use Rattle.vortex_lowering.specs.Operands.{scale_of}
use Rattle.vortex_lowering.specs.LoweredTrees.{tree_at_scale}
use Rattle.vortex_logical_calls.specs.Outcomes.{Outcome, made, refused, and_then}
use Rattle.vortex_logical_calls.specs.Calls.{Tree, Lowered, typed}
use Rattle.vortex_logical_calls.specs.Conversions.{conversion_beside, converted}

abbrev pub found_next : Operand → Operand → Option Operand → Outcome Operand
found_next a b None = refused (NoCommonKind a b)
found_next a b (Some c) = made c

-- the kind in which those so far and one more meet
abbrev pub meet_next : Operand → Operand → Outcome Operand
meet_next a b = found_next a b (common_operand a b)

-- the stored integers with the digits after the point of the common kind
abbrev pub lengthened : Operand → Lowered → Outcome Tree
lengthened common x = typed (tree_at_scale (scale_of common) x)

-- an operand in the common kind, converted as next to a value of that kind
abbrev pub aligned : Operand → Lowered → Outcome Tree
aligned common x =
    and_then (converted (conversion_beside x.operand common) x) (λ a. lengthened common a)
