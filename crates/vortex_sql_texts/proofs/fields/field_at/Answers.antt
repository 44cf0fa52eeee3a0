use Rattle.std.proofs.Common.{◌∙◌, arith}
use Rattle.vortex_sql_texts.specs.Fields.{fields}
use Rattle.vortex_sql_texts.proofs.FieldParts.{field_past, one_less}
use Rattle.vortex_sql_texts.proofs.fields.field_at.Goals as goal

pub returns-in-None : goal.returns-in-None
returns-in-None c =
    field_past c.loop.counter c.args.index (fields c.args.delimiter.now c.args.text.now)
    c.loop.rest.now (c.loop.invariant.left ∙ c.in-None.ensures.fields) (omega arith)

pub loop-preserved : goal.loop-preserved
loop-preserved c = record {
  left =
      one_less c.loop.counter (fields c.args.delimiter.now c.args.text.now)
      (fields c.args.delimiter.now c.in-Some.after.now) c.in-Some.field-0-0.now
      (c.loop.invariant.left ∙ c.in-Some.ensures.fields);
  utf8 = c.in-Some.ensures.utf8.1;
}
