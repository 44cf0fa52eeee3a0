use Rattle.std.proofs.Common.{◌∙◌, inl, inr}
use Rattle.vortex_program.proofs.naming.words_or_text.Goals as goal

pub returns-in_ok-from_str-in-Ok : goal.returns-in_ok-from_str-in-Ok
returns-in_ok-from_str-in-Ok c =
    inl (c.in-Ok.ensures.cases.1, c.in_ok-from_str-in-Ok.ensures.ok ∙ c.in-Ok.ensures.cases.0)

pub returns-in_ok-text_of-in-Err : goal.returns-in_ok-text_of-in-Err
returns-in_ok-text_of-in-Err c = inr (c.in-Err.ensures.cases.0, c.in_ok-text_of-in-Err.ensures)
