use Rattle.std.proofs.Common.{map}
use Rattle.rowfn_batches.specs.Fields.{field_in}
use Rattle.rowfn_batches.specs.BatchAnswers.{EndsShown, number_of}
use Rattle.rowfn_batches.proofs.answering.BatchTask.answer_faultless.Given as goal

-- what ends the rows that are left ends all
abbrev pub invariant-turns : goal.invariant-turns
invariant-turns l =
    EndsShown l.self.asked (map field_in l.fields) (number_of l.self) l.fn.row_count l.fn.error
    l.count l.behind

abbrev pub decreases-turns : goal.decreases-turns
decreases-turns l = l.count
