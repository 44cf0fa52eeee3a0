use Rattle.std.proofs.Common.{map}
use Rattle.rowfn_batches.specs.Fields.{field_in}
use Rattle.rowfn_batches.specs.BatchAnswers.{width_of, first_fields, answers_asked}
use Rattle.rowfn_batches.proofs.ShownColumns.{AreReplaced}
use Rattle.rowfn_batches.proofs.answering.BatchTask.show_values.Given as goal

-- what is shown of the columns so far
abbrev pub invariant-loop-k : goal.invariant-loop-k
invariant-loop-k l =
    AreReplaced (width_of l.self.asked)
    (first_fields l.self.asked (map field_in l.fields) l.row_count) l.row_count
    (answers_asked l.self.asked) l.fn.values.items l.k l.shown.items
