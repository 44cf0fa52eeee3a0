use Rattle.std.proofs.Common.{rules, length, ap, ◌∙◌}
use Rattle.vortex_functions.specs.Arrays.{rows_in}
use Rattle.vortex_rewriting.proofs.ArrayTrees.{rows_of_constant}
use Rattle.vortex_rewriting.proofs.array_leaf.ArrayLeafRuleLeaf.new_constant.Goals as goal

pub returns : goal.returns
returns g c = (
  search rules,
  ap rows_in c.in_ok-array.ensures
      ∙ ap (λ d. length d.rows) c.in_ok-column.ensures
      ∙ rows_of_constant c.args.scalar c.args.rows,
)
