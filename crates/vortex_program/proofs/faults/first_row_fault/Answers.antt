use Rattle.std.proofs.Common.{rules, ◌<◌, length, arith}
use Rattle.std.proofs.lemmas.List.{length-map}
use Rattle.vortex_standard.specs.Standard.{standard_meaning}
use Rattle.vortex_program.specs.Executing.{AllGive}
use Rattle.vortex_program.specs.Programs.{trees_of}
use Rattle.vortex_program.specs.Running.{FaultsThere}
use Rattle.vortex_program.proofs.SomeRows.{all_counted, one_more_within}
use Rattle.vortex_program.proofs.faults.first_row_fault.Goals as goal

pub suspect_row-requires-clause-even : goal.suspect_row-requires-clause-even
suspect_row-requires-clause-even c =
    let answers = c.args.answers.now in
    let some : 0 < length answers = search rules in
    all_counted c.args.columns.now c.args.row_count (trees_of answers)
    (omega (arith, length-map answers (λ a. a.tree), some)) c.requires.fit

pub faulty_answer-requires-clause-even : goal.faulty_answer-requires-clause-even
faulty_answer-requires-clause-even c =
    let answers = c.args.answers.now in
    let some : 0 < length answers = search rules in
    all_counted c.args.columns.now c.args.row_count (trees_of answers)
    (omega (arith, length-map answers (λ a. a.tree), some)) c.requires.fit

pub returns-in-Some : goal.returns-in-Some
returns-in-Some c =
    let suspect = c.in_ok-row.ensures in
    let there :
    FaultsThere c.args.columns.now c.in_ok-row.row (trees_of c.args.answers.now) c.in-Some.answer
    c.in-Some.error = search rules in
    record {
      below = suspect.below;
      before = λ i lt. suspect.before i (omega arith) lt;
      there = there;
    }

pub returns : goal.returns
returns c =
    let cs = c.args.columns.now in
    let ts = trees_of c.args.answers.now in
    let suspect = c.in_ok-row.ensures in
    let here : AllGive standard_meaning cs c.in_ok-row.row ts = search rules in
    suspect.after (one_more_within standard_meaning cs c.in_ok-row.row ts suspect.before here)
