use Rattle.std.specs.Borrow.{Bor}
use Rattle.std.proofs.Common.{Option, subst, ap, sym, ◌∙◌}
use Rattle.std.specs.Prelude.{option_map}
use Rattle.yurkije_core.specs.declared.expression.Expression.{Expression}
use Rattle.yurkije.specs.Views.{ProgramView, program_view}
use Rattle.yurkije.specs.Pruning.{PrunesHeld}
use Rattle.yurkije.proofs.pruning.prune_held.Goals as goal

pub returns-in-Some : goal.returns-in-Some
returns-in-Some c =
    subst
    (λ (o : Option ProgramView).
    PrunesHeld o c.args.answer c.args.statistics.now c.args.rows.now c.args.room.now c.prune.new.room
    c.prune.result c.args.error.now c.prune.new.error)
    (ap (option_map (λ (e : Bor Expression). program_view e.now)) (sym c.in-Some.is)
    ∙ c.expression.ensures) c.prune.ensures
