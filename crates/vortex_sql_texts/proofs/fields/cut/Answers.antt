use Rattle.vortex_sql_texts.proofs.FieldParts.{back_shorter, back_utf8, first_field, front_utf8, some_bytes}
use Rattle.vortex_sql_texts.proofs.FieldParts.{uncut}
use Rattle.vortex_sql_texts.proofs.fields.cut.Goals as goal

pub returns-in-Some-clause-fields : goal.returns-in-Some-clause-fields
returns-in-Some-clause-fields c =
    first_field c.args.delimiter.now c.args.text.now c.in-Some.field.now c.in-Some.rest.now
    (some_bytes c.args.delimiter.now c.is_empty.result c.is_empty.ensures c.if-is_empty.false)
    c.in-Some.ensures.cases

pub returns-in-Some-clause-utf8 : goal.returns-in-Some-clause-utf8
returns-in-Some-clause-utf8 c = (
  front_utf8 c.args.delimiter.now c.args.text.now c.in-Some.field.now c.in-Some.rest.now
      c.utf8.delimiter c.utf8.text c.in-Some.ensures.cases,
  back_utf8 c.args.delimiter.now c.args.text.now c.in-Some.field.now c.in-Some.rest.now
      c.utf8.text c.in-Some.ensures.cases,
)

pub returns-in-Some-clause-shorter : goal.returns-in-Some-clause-shorter
returns-in-Some-clause-shorter c =
    back_shorter c.args.delimiter.now c.args.text.now c.in-Some.field.now c.in-Some.rest.now
    (some_bytes c.args.delimiter.now c.is_empty.result c.is_empty.ensures c.if-is_empty.false)
    c.in-Some.ensures.cases

pub returns-in-None-clause-fields : goal.returns-in-None-clause-fields
returns-in-None-clause-fields c =
    uncut c.args.delimiter.now c.args.text.now
    (some_bytes c.args.delimiter.now c.is_empty.result c.is_empty.ensures c.if-is_empty.false)
    c.in-None.ensures.cases
