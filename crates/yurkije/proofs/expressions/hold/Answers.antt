use Rattle.std.proofs.Common.{subst, sym}
use Rattle.std.specs.Prelude.{Result}
use Rattle.vortex_program.specs.declared.program.Program.{Program}
use Rattle.yurkije_core.specs.declared.reading.ProgramError.{ProgramError}
use Rattle.yurkije_core.specs.Messages.{IsProgramWords}
use Rattle.yurkije_core.specs.Reports.{program_told}
use Rattle.yurkije.specs.Reading.{Reads}
use Rattle.yurkije.proofs.ErrorNumbers.{refuses_in}
use Rattle.yurkije.proofs.expressions.hold.Goals as goal

pub returns-in-Err : goal.returns-in-Err
returns-in-Err c =
    let wrong = c.in-Err.wrong in
    let held = c.args.expression.now.held in
    let result = c.report_text.result in
    let old = c.args.error.now in
    let report = c.report_text.new.self in
    subst (λ (r : Result Program ProgramError). Reads r held result old report) (sym c.in-Err.is)
    (refuses_in (IsProgramWords wrong) c.program_words-words.result (program_told wrong)
    c.of_program.result held result old report c.of_program.ensures c.requires
    c.report_text.ensures.status c.report_text.ensures.told c.program_words-words.ensures
    c.report_text.ensures.message)
