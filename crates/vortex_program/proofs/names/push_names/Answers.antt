use Rattle.std.proofs.Common.{◌∙◌, ◌++◌, ℕ, List, ap, map, string_bytes}
use Rattle.std.specs.List.{flat_map}
use Rattle.vortex_syntax.specs.Postfix.{step_in}
use Rattle.vortex_program.specs.Names.{step_names}
use Rattle.vortex_program.proofs.Flattened.{flat_of_map}
use Rattle.vortex_program.proofs.names.push_names.Goals as goal

pub returns : goal.returns
returns c =
    c.in_ok-push_steps.ensures
    ∙ ap (λ (xs : List (List ℕ)). map string_bytes c.args.names.now.items ++ xs)
    (ap (flat_map (λ s. step_names (step_in s))) c.as_slice.ensures.value
    ∙ flat_of_map step_names step_in c.args.answer.now.tree.steps.items)
