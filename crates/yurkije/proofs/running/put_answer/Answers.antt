use Rattle.std.proofs.Common.{refl, ap, subst, ◌∙◌}
use Rattle.yurkije_columns.specs.Kinds.{number_at}
use Rattle.yurkije.specs.Answering.{Copies}
use Rattle.yurkije.proofs.Found.{asks_found, asks_none}
use Rattle.yurkije.proofs.running.put_answer.Goals as goal

pub returns-in-Ok : goal.returns-in-Ok
returns-in-Ok c =
    asks_found c.args.held.now.answers c.args.answer c.answer_copied.result _
    (λ d. Copies d (number_at c.args.held.now.kinds c.args.answer) c.args.room.now
    c.answer_copied.new.room c.answer_copied.result)
    c.in-Ok.column.now c.in-Ok.ensures
    (subst (λ m. Copies c.in-Ok.column.now m c.args.room.now c.answer_copied.new.room
    c.answer_copied.result)
    (c.number_at.ensures ∙ ap (λ ks. number_at ks c.args.answer) c.kinds.ensures)
    c.answer_copied.ensures)

pub returns-in-Err : goal.returns-in-Err
returns-in-Err c =
    asks_none c.args.held.now.answers c.args.answer c.in-Err.status _ _ c.in-Err.ensures refl
