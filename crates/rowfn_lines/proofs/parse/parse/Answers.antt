use Rattle.std.proofs.Common.{◌≡◌, sym, ap, subst, ◌∙◌, if◌then◌else◌}
use Rattle.std.specs.Str.{is_utf8}
use Rattle.std.proofs.lemmas.Str.{IsUtf8-from_is_utf8, is_utf8-from_IsUtf8}
use Rattle.std.proofs.lemmas.Bool.{false_from_ne_true}
use Rattle.vortex_errors.specs.Answers.{AnswersUnlessMemory}
use Rattle.rowfn_lines.specs.Lines.{after_spaces}
use Rattle.rowfn_lines.specs.Commands.{Command, malformed, command_of_text, command_in}
use Rattle.rowfn_lines.proofs.parse.parse.Goals as goal

pub returns-in_default : goal.returns-in_default
returns-in_default c =
    let line = c.args.line.now in
    let unreadable =
    false_from_ne_true (is_utf8 line)
    (λ e. c.in_default.ensures.cases.0 (IsUtf8-from_is_utf8 line e)) in
    sym (ap (λ b. if b then command_of_text (after_spaces line) else malformed) unreadable)

pub returns : goal.returns
returns c =
    let line = c.args.line.now in
    let readable = is_utf8-from_IsUtf8 line c.in-Ok.ensures.cases.1 in
    let text = c.without_spaces.ensures ∙ ap after_spaces c.in-Ok.ensures.cases.0 in
    let same =
    ap command_of_text text
    ∙ sym (ap (λ b. if b then command_of_text (after_spaces line) else malformed) readable) in
    subst (λ (x : Command). AnswersUnlessMemory c.text_line.result (λ l. command_in l ≡ x)) same
    c.text_line.ensures
