use Rattle.std.proofs.Common.{◌≡◌, ◌∙◌, Option, Some, get_or, subst, arith}
use Rattle.std.specs.Prelude.{slice_get}
use Rattle.yurkije_columns.specs.Batches.{batch_column}
use Rattle.vortex_arrow.specs.declared.column.ArrowColumn.{ArrowColumn}
use Rattle.yurkije_lent.proofs.CallRows.{mapped_at, get_at}
use Rattle.yurkije_lent.proofs.LentRows.{lent_type, lent_count}
use Rattle.yurkije_lent.proofs.execute.leaf_rows.Goals as goal

pub returns-then-has_dtype : goal.returns-then-has_dtype
returns-then-has_dtype c =
    let column = c.in_ok-column.column in
    let there : slice_get c.args.columns.now c.args.place ≡ Some (Some column) =
    get_at c.args.columns.now c.args.place (Some column) (grind arith)
    (subst (λ (o : Option ArrowColumn). o ≡ get_or c.args.columns.now c.args.place o)
    c.in_ok-column.was c.in_ok-get.ensures.lookup.1) in
    record {
      there = mapped_at (batch_column c.args.rows) c.args.columns.now c.args.place (Some column) there;
      dtype = lent_type column ∙ c.has_dtype.ensures.0 c.if-has_dtype.true;
      count = lent_count column ∙ c.if-column-rows.true;
    }
