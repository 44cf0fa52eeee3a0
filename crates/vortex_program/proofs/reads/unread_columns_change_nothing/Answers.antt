use Rattle.vortex_program.proofs.Agreeing.{answers_alike, refusal_alike, optimized_agree}
use Rattle.vortex_program.proofs.reads.unread_columns_change_nothing.Goals as goal

pub returns : goal.returns
returns c = λ n written optimized cs ds kept agree. (
  λ answers said. answers_alike cs ds n written answers agree said,
  λ e said. refusal_alike cs ds n written optimized e agree
      (optimized_agree n written optimized cs ds kept agree) said,
)
