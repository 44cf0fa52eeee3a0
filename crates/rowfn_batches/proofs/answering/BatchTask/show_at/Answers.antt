use Rattle.std.proofs.Common.{sym, ap, refl, ◌∙◌, map, length}
use Rattle.std.specs.Prelude.{slice_get}
use Rattle.std.proofs.lemmas.Option.{slice_get_read}
use Rattle.std.proofs.lemmas.Result.{err_from_is_err_and}
use Rattle.rowfn_batches.specs.Fields.{field_in}
use Rattle.rowfn_batches.specs.BatchAnswers.{width_of, first_fields, answers_asked}
use Rattle.rowfn_batches.proofs.ShownColumns.{hidden_at, lacks_at, shown_texts}
use Rattle.rowfn_batches.proofs.answering.BatchTask.show_at.Goals as goal

pub returns-in_err-show_answer : goal.returns-in_err-show_answer
returns-in_err-show_answer c =
    let x = c.args.self.now.asked in
    let p = err_from_is_err_and c.from_residual.result c.from_residual.ensures.1 in
    rw (p.1, p.2)
    (hidden_at (width_of x) (first_fields x (map field_in c.args.fields.now) c.args.row_count)
    c.args.row_count (answers_asked x) c.args.shown.now.items c.args.k c.in-Some.answer.now
    c.index.result.now c.in_err-show_answer.field-0.0
    (record {
      written = sym (c.in-Some.ensures ∙ ap (λ l. slice_get l c.args.k) c.deref.ensures.value);
      there = slice_get_read c.args.shown.now.items (length c.args.shown.now.items) c.args.k
          c.index.result.now refl c.requires.place c.index.ensures;
    })
    c.in_err-show_answer.ensures)

pub returns-in-Some-Texts : goal.returns-in-Some-Texts
returns-in-Some-Texts c =
    let x = c.args.self.now.asked in
    let pair =
    (sym (c.in-Some.ensures ∙ ap (λ l. slice_get l c.args.k) c.deref.ensures.value)) in
    shown_texts (width_of x) (first_fields x (map field_in c.args.fields.now) c.args.row_count)
    c.args.row_count (answers_asked x) c.args.shown.now.items c.args.k c.in-Some.answer.now
    c.index.result.now c.in-Some-Texts.texts c.requires.place pair
    (slice_get_read c.args.shown.now.items (length c.args.shown.now.items) c.args.k
    c.index.result.now refl c.requires.place c.index.ensures)
    (rw c.in-Some-Texts.field-0-is at (rw c.in-Some-Texts.is at c.in_ok-show_answer.ensures))

pub returns-in_ok-no_text-in-Some-NoText : goal.returns-in_ok-no_text-in-Some-NoText
returns-in_ok-no_text-in-Some-NoText c =
    let x = c.args.self.now.asked in (
      c.in-Some.answer.now,
      lacks_at (width_of x) (first_fields x (map field_in c.args.fields.now) c.args.row_count)
          c.args.row_count (answers_asked x) c.args.shown.now.items c.args.k c.in-Some.answer.now
          c.index.result.now c.in-Some-NoText.row
          (record {
            written = sym (c.in-Some.ensures ∙ ap (λ l. slice_get l c.args.k) c.deref.ensures.value);
            there = slice_get_read c.args.shown.now.items (length c.args.shown.now.items) c.args.k
                c.index.result.now refl c.requires.place c.index.ensures;
          })
          (rw c.in-Some-NoText.field-0-is at (rw c.in-Some-NoText.is at c.in_ok-show_answer.ensures)),
      c.in_ok-no_text-in-Some-NoText.ensures,
    )
