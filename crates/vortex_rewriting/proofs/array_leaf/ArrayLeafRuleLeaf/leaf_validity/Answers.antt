use Rattle.std.proofs.Common.{rules, length, ap, ◌∙◌}
use Rattle.vortex_functions.specs.Arrays.{rows_in}
use Rattle.vortex_rewriting.proofs.ValidBits.{rows_by_form}
use Rattle.vortex_rewriting.proofs.array_leaf.ArrayLeafRuleLeaf.leaf_validity.Goals as goal

pub returns-in_ok-column-in-Some : goal.returns-in_ok-column-in-Some
returns-in_ok-column-in-Some g c =
    let column = c.in-Some.column.now in (
      search rules,
      ap rows_in c.in_ok-column-in-Some.ensures
          ∙ ap (λ d. length d.rows) c.in_ok-valid-in-Some.ensures
          ∙ rows_by_form column.form column
          ∙ c.in-Some.ensures.rows,
    )
