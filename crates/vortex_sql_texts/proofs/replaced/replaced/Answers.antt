use Rattle.std.proofs.Common.{rules, ◌++◌, ap, ◌∙◌}
use Rattle.std.specs.Prelude.{string_bytes}
use Rattle.vortex_sql_texts.specs.Fields.{fields, joined}
use Rattle.vortex_sql_texts.proofs.FieldParts.{joined_step, too_long_here}
use Rattle.vortex_sql_texts.proofs.replaced.replaced.Goals as goal

pub returns-in_err-push_text-2 : goal.returns-in_err-push_text-2
returns-in_err-push_text-2 c =
    let long =
    too_long_here c.args.other.now c.in-Some.field.now c.args.part.now c.in-Some.after.now
    (string_bytes c.loop-field.made) (string_bytes c.push_text.new.made)
    (joined c.args.other.now (fields c.args.part.now c.args.text.now))
    c.in_err-push_text-2.field-0.0
    (c.loop-field.invariant.made
    ∙ ap (λ fs. string_bytes c.loop-field.made ++ joined c.args.other.now fs) c.in-Some.ensures.fields)
    c.in_ok-push_text.ensures c.in_err-push_text-2.ensures in
    search rules

pub loop-field-preserved : goal.loop-field-preserved
loop-field-preserved c = record {
  made =
      joined_step c.args.other.now c.in-Some.field.now c.args.part.now c.in-Some.after.now
      (string_bytes c.loop-field.made) (string_bytes c.push_text.new.made)
      (string_bytes c.push_text-in-Some.new.made)
      (joined c.args.other.now (fields c.args.part.now c.args.text.now))
      (c.loop-field.invariant.made
      ∙ ap (λ fs. string_bytes c.loop-field.made ++ joined c.args.other.now fs) c.in-Some.ensures.fields)
      c.in_ok-push_text.ensures c.in_ok-push_text-2.ensures;
  utf8 = c.in-Some.ensures.utf8.1;
}
