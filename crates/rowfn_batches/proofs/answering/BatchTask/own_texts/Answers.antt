use Rattle.std.proofs.Common.{Some, None, sym, ◌∙◌, inr}
use Rattle.vortex_types.proofs.TypeViews.{type_of-Utf8}
use Rattle.rowfn_batches.proofs.FirstRows.{are_own}
use Rattle.rowfn_batches.proofs.answering.BatchTask.own_texts.Goals as goal

pub returns-in-Ok-Some : goal.returns-in-Ok-Some
returns-in-Ok-Some c =
    are_own c.args.self.now.asked c.args.fields.now c.args.row_count c.len-width.result
    c.len-width.ensures c.first_rows-whole.result.now c.first_rows-whole.ensures c.args.place
    (Some c.in-Ok-Some.column) _ (type_of-Utf8 _)
    (sym c.in-Ok-Some.field-0-is ∙ c.in-Ok-Some.ensures)

pub returns-in-Ok-None : goal.returns-in-Ok-None
returns-in-Ok-None c =
    inr (
      are_own c.args.self.now.asked c.args.fields.now c.args.row_count c.len-width.result
          c.len-width.ensures c.first_rows-whole.result.now c.first_rows-whole.ensures c.args.place
          None _ (type_of-Utf8 _) (sym c.in-Ok-None.field-0-is ∙ c.in-Ok-None.ensures),
      c.in_ok-long_answer-in-Ok-None.ensures,
    )
