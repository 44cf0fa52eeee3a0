-- Comparisons of operands.
use Rattle.std.specs.Prelude.{is_some, if◌then◌else◌}
use Rattle.vortex_operators.specs.declared.operators.CompareOperator.{CompareOperator}
use Rattle.vortex_logical.specs.declared.operand.Operand.{Operand}
use Rattle.vortex_logical.specs.CommonKinds.{common_operand}
use Rattle.vortex_lowering.specs.declared.refusal.Refusal.TheVariants.{NoCommonKind, NotShipped}
use Rattle.vortex_lowering.specs.Operands.{are_shipped}
use Rattle.vortex_lowering.specs.LoweredTrees.{compared_tree}
use Rattle.vortex_logical_calls.specs.Outcomes.{Outcome, refused, and_then}
use Rattle.vortex_logical_calls.specs.Calls.{Tree, Lowered, typed}
use Rattle.vortex_logical_calls.specs.Conversions.{conversion_beside, converted}

-- of operands that meet, and that shipped functions compare
abbrev pub if_met : {A : Type 0} → Operand → Operand → Outcome A → Outcome A
if_met a b o =
    if is_some (common_operand a b) then (if are_shipped a b then o else refused (NotShipped a b))
    else refused (NoCommonKind a b)

abbrev pub compare_met : CompareOperator → Lowered → Lowered → Outcome Tree
compare_met op x y = if_met x.operand y.operand (typed (compared_tree op x y))

abbrev pub compared : CompareOperator → Lowered → Lowered → Outcome Tree
compared op x y =
    and_then (converted (conversion_beside x.operand y.operand) x) (λ a.
    and_then (converted (conversion_beside y.operand x.operand) y) (λ b. compare_met op a b))
