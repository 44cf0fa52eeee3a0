use Rattle.std.proofs.Common.{◌≡◌, Bool, List, Option, map, subst, sym}
use Rattle.vortex_arrow.specs.declared.column.ArrowColumn.{ArrowColumn}
use Rattle.yurkije_columns.specs.Borrowed.{AllSay, RefusesBorrowed}
use Rattle.yurkije_columns.specs.Messages.{borrowed_words}
use Rattle.yurkije_core.specs.Reports.{borrowed_told, run_told}
use Rattle.yurkije_core.specs.Messages.{IsRunWords}
use Rattle.yurkije.specs.Views.{program_view}
use Rattle.vortex_program.specs.declared.answer.Answer.{Answer}
use Rattle.yurkije.specs.Answering.{no_kind, refused, KeepsOrWants}
use Rattle.yurkije.proofs.RunHeld.{run_holds}
use Rattle.yurkije.proofs.ErrorNumbers.{refuses_in}
use Rattle.yurkije.proofs.running.run.Goals as goal

pub returns-in-Err : goal.returns-in-Err
returns-in-Err c =
    let wrong = c.in-Err.wrong in
    no_kind wrong
    (subst (λ (bs : List Bool). RefusesBorrowed bs c.args.columns.now wrong) c.deref.ensures.value
    c.in-Err.ensures)
    (refuses_in (λ w. w ≡ borrowed_words wrong) c.borrowed_words-words.result (borrowed_told wrong)
    c.of_borrowed.result c.args.answers.now.held c.report_text.result c.args.error.now c.report_text.new.self
    c.of_borrowed.ensures c.requires c.report_text.ensures.status c.report_text.ensures.told
    c.borrowed_words-words.ensures c.report_text.ensures.message)

pub returns-in-Ok-run_program : goal.returns-in-Ok-run_program
returns-in-Ok-run_program c =
    let say =
    subst (λ (xs : List (Option ArrowColumn)).
    AllSay c.args.expression.now.reads.items c.args.columns.now xs) (sym c.deref-2.ensures.value)
    (subst (λ (bs : List Bool). AllSay bs c.args.columns.now c.in-Ok.columns.items)
    c.deref.ensures.value c.in-Ok.ensures) in
    run_holds (program_view c.args.expression.now) c.args.columns.now c.args.rows
    c.hold.new.answers.held c.hold.result c.args.error.now c.hold.new.error c.deref-2.result.now
    c.in-Ok-run_program.columns.items say c.in-Ok-run_program.ensures
    (subst
    (λ (written : List Answer).
    KeepsOrWants c.in-Ok-run_program.columns.items (map (λ a. a.kind) written)
    c.hold.new.answers.held c.hold.result c.args.error.now c.hold.new.error)
    c.deref-in-Ok-run_program.ensures.value c.hold.ensures)

pub returns : goal.returns
returns c =
    let say =
    subst (λ (xs : List (Option ArrowColumn)).
    AllSay c.args.expression.now.reads.items c.args.columns.now xs) (sym c.deref-2.ensures.value)
    (subst (λ (bs : List Bool). AllSay bs c.args.columns.now c.in-Ok.columns.items)
    c.deref.ensures.value c.in-Ok.ensures) in
    let told = c.report_text-in-Err-run_program in
    let wrong = c.in-Err-run_program.wrong in
    let p = program_view c.args.expression.now in
    refused c.deref-2.result.now wrong say c.in-Err-run_program.ensures
    (refuses_in (IsRunWords p.scope p.names c.args.rows wrong) c.run_words-words.result
    (run_told wrong) c.of_run.result c.args.answers.now.held told.result c.args.error.now
    told.new.self c.of_run.ensures c.requires told.ensures.status told.ensures.told
    c.run_words-words.ensures told.ensures.message)
