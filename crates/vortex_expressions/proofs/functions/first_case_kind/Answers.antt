use Rattle.std.proofs.Common.{◌∙◌, ◌<◌, sym, ap, length, arith, List}
use Rattle.vortex_expressions.specs.Items.{Item}
use Rattle.vortex_expressions.specs.Kinded.{first_kind, fraction_kind}
use Rattle.vortex_expressions.proofs.AlignedCases.{few_values}
use Rattle.vortex_expressions.proofs.functions.first_case_kind.Goals as goal

pub returns : goal.returns
returns c =
    let few : length c.loop-rest.rest.now < 2 = omega (arith, c.in_default.len_below) in
    c.first_kind.ensures
    ∙ ap (λ (is : List Item). fraction_kind c.loop-rest.has_fraction (first_kind is))
    (sym (few_values c.loop-rest.rest.now few))
    ∙ sym c.loop-rest.invariant
