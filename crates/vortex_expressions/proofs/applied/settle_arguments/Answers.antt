use Rattle.std.proofs.Common.{◌∙◌, sym, ap, subst, map, option_map, List, Option}
use Rattle.vortex_types.specs.TypeOf.{type_of}
use Rattle.vortex_types.specs.LogicalTypes.{LogicalType}
use Rattle.vortex_expressions.specs.Answering.{Gives}
use Rattle.vortex_expressions.specs.Applied.{cases_settled, arguments_settled}
use Rattle.vortex_expressions.specs.Items.{Tree, item_in}
use Rattle.vortex_sql_rows.specs.declared.types.Takes.{Takes}
use Rattle.vortex_expressions.proofs.Settling.{copied}
use Rattle.vortex_expressions.proofs.applied.settle_arguments.Goals as goal

pub returns-in_ok-dtype-in-Cases : goal.returns-in_ok-dtype-in-Cases
returns-in_ok-dtype-in-Cases c =
    let types = copied type_of c.as_ref.result
    ∙ ap (option_map type_of) c.as_ref.ensures.value ∙ c.in_ok-dtype-in-Cases.ensures in
    subst (λ (s : Takes). Gives {B = List Tree} (λ ts. ts.items) c.settle_cases.result
    (arguments_settled s (map item_in c.args.items.now))) (sym c.in-Cases.is)
    (subst (λ (o : Option LogicalType). Gives {B = List Tree} (λ ts. ts.items)
    c.settle_cases.result (cases_settled o (map item_in c.args.items.now))) types
    c.settle_cases.ensures)
