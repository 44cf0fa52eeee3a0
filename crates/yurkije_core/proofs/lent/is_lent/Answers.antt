use Rattle.std.proofs.Common.{◌≡◌, List, map, subst, true, false}
use Rattle.std.specs.Prelude.{All}
use Rattle.vortex_interface.specs.Execution.{LeavesFit}
use Rattle.vortex_program.specs.Programs.{trees_of}
use Rattle.vortex_program.specs.declared.answer.Answer.{Answer}
use Rattle.yurkije_columns.specs.Batches.{batch_column}
use Rattle.yurkije_core.proofs.lent.is_lent.Goals.{then-are_direct, else-are_direct}
use Rattle.yurkije_core.proofs.lent.is_lent.Goals as goal

pub returns-then-have_leaves : goal.returns-then-have_leaves
returns-then-have_leaves c = λ typed n.
    let cs = map (batch_column n) c.args.columns.now in
    let both = c.if-have_leaves.true in
    record {
      fit = elim c.if-are_direct.branch [
        | then-are_direct w ↦
            let same = w.value-is in
            let have : w.have_leaves.result ≡ true = cc in
            subst (λ (xs : List Answer). All (LeavesFit cs) (trees_of xs))
            w.deref-then-are_direct.ensures.value (w.have_leaves.ensures have n)
        | else-are_direct w ↦
            let same = w.value-is in
            let never : true ≡ false = cc in
            cc
      ];
      typed = c.are_typed.ensures typed n;
    }
