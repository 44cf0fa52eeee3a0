use Rattle.std.proofs.Common.{◌≡◌, ◌++◌, map, string_bytes, take}
use Rattle.std.specs.List.{flat_map}
use Rattle.vortex_syntax.specs.AnswerLists.{answer_in}
use Rattle.vortex_program.specs.Names.{answer_names}
use Rattle.vortex_program.proofs.names.push_all.Given as goal

-- the names so far
abbrev pub invariant-loop-answer : goal.invariant-loop-answer
invariant-loop-answer l =
    map string_bytes l.names.items ≡ map string_bytes l.initial.names.items
    ++ flat_map (λ a. answer_names (answer_in a)) (take l.answer-index l.answers)
