use Rattle.std.proofs.Common.{rules, arith}
use Rattle.vortex_standard.specs.Standard.{standard_meaning}
use Rattle.vortex_program.specs.Executing.{AllGiveWithin}
use Rattle.vortex_program.specs.Programs.{trees_of}
use Rattle.vortex_program.specs.Running.{FaultsFirstThere}
use Rattle.vortex_program.proofs.Faulty.{first_there}
use Rattle.vortex_program.proofs.faults.first_fault.Goals as goal

pub returns-in-Some : goal.returns-in-Some
returns-in-Some c =
    let cs = c.args.columns.now in
    let ts = trees_of c.args.answers.now in
    let f = c.in-Some.fault in
    let first : FaultsFirstThere cs c.args.row_count ts f.row f.answer f.error = search rules in
    let there = first.there in
    record {
      below = first.below;
      here = first_there cs f.row f.error ts f.answer there.tree there.there there.here there.before;
      before = first.before;
    }

pub returns-in-None : goal.returns-in-None
returns-in-None c = λ k lt.
    let all :
    AllGiveWithin standard_meaning c.args.columns.now 0 c.args.row_count
    (trees_of c.args.answers.now) = search rules in
    all k (omega arith) lt
