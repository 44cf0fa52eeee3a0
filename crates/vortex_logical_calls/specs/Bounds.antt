-- BETWEEN of operands.
use Rattle.vortex_operators.specs.declared.between.BetweenOptions.{BetweenOptions}
use Rattle.vortex_lowering.specs.LoweredTrees.{bounded_tree}
use Rattle.vortex_logical_calls.specs.Outcomes.{Outcome, and_then}
use Rattle.vortex_logical_calls.specs.Calls.{Tree, Lowered, typed}
use Rattle.vortex_logical_calls.specs.Conversions.{conversion_by_two, converted}
use Rattle.vortex_logical_calls.specs.Comparison.{if_met}

-- the lower bound meets the operand, and the operand the upper bound
abbrev pub between_met : BetweenOptions → Lowered → Lowered → Lowered → Outcome Tree
between_met o x low high =
    if_met low.operand x.operand
    (if_met x.operand high.operand (typed (bounded_tree o x low high)))

abbrev pub between : BetweenOptions → Lowered → Lowered → Lowered → Outcome Tree
between o x low high =
    and_then (converted (conversion_by_two x.operand low.operand high.operand) x) (λ a.
    and_then (converted (conversion_by_two low.operand x.operand high.operand) low) (λ b.
    and_then (converted (conversion_by_two high.operand x.operand low.operand) high) (λ c.
    between_met o a b c)))
