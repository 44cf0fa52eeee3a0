use Rattle.std.proofs.Common.{◌∙◌, ◌++◌, List, ap, map, string_bytes, String, Global}
use Rattle.std.specs.List.{flat_map}
use Rattle.vortex_syntax.specs.AnswerLists.{answer_in}
use Rattle.vortex_program.specs.Names.{answer_names}
use Rattle.vortex_program.proofs.Flattened.{flat_of_map}
use Rattle.vortex_program.proofs.parsed.Parsed.names.Goals as goal

pub returns : goal.returns
returns c read = record {
  answers = map answer_in c.args.self.now.answers.items;
  parsed = read;
  listed = c.in_ok-push_all.ensures
      ∙ ap (λ (xs : List (String Global)). map string_bytes xs
      ++ flat_map (λ a. answer_names (answer_in a)) c.deref.result.now) c.new-names.ensures.items
      ∙ ap (flat_map (λ a. answer_names (answer_in a))) c.deref.ensures.value
      ∙ flat_of_map answer_names answer_in c.args.self.now.answers.items;
}
