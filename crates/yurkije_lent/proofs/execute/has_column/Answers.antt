use Rattle.std.proofs.Common.{◌≡◌, ◌∙◌, Option, Some, get_or, subst, arith}
use Rattle.std.specs.Prelude.{slice_get}
use Rattle.vortex_arrow.specs.Columns.{arrow_column}
use Rattle.yurkije_columns.specs.Batches.{batch_column}
use Rattle.vortex_arrow.specs.declared.column.ArrowColumn.{ArrowColumn}
use Rattle.yurkije_lent.proofs.CallRows.{mapped_at, get_at}
use Rattle.yurkije_lent.proofs.LentRows.{lent_type}
use Rattle.yurkije_lent.proofs.execute.has_column.Goals as goal

pub returns-in-Some-Some : goal.returns-in-Some-Some
returns-in-Some-Some c = λ yes n.
    let column = c.in-Some-Some.column in
    let there : slice_get c.args.columns.now c.args.place ≡ Some (Some column) =
    get_at c.args.columns.now c.args.place (Some column) (grind arith)
    (subst (λ (o : Option ArrowColumn). o ≡ get_or c.args.columns.now c.args.place o)
    c.in-Some-Some.field-0-is c.in-Some-Some.ensures.lookup.1) in (
      arrow_column column,
      mapped_at (batch_column n) c.args.columns.now c.args.place (Some column) there,
      lent_type column ∙ c.has_dtype.ensures.0 yes,
    )
