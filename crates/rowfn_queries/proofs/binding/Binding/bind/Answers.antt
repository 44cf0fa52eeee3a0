use Rattle.rowfn_queries.specs.Bindings.{by_answers}
use Rattle.rowfn_queries.proofs.binding.Binding.bind.Goals as goal

pub returns-in-Err-condition_question : goal.returns-in-Err-condition_question
returns-in-Err-condition_question c =
    λ r. by_answers c.in-Ok.condition (c.in-Ok.ensures r.condition)
    (c.in-Err-condition_question.ensures r.answers)
