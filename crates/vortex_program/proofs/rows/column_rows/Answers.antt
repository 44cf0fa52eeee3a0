use Rattle.std.proofs.Common.{ℕ, List, arith, length, subst, sym}
use Rattle.vortex_errors.proofs.Answering.{AnswersUnlessMemory-weaker}
use Rattle.vortex_columns.specs.Taken.{AreRowsOf, IsTaken}
use Rattle.vortex_program.proofs.TakenRows.{several_numbered, numbers_within, taken_has}
use Rattle.vortex_program.proofs.rows.column_rows.Goals as goal

pub take-requires : goal.take-requires
take-requires c =
    let first = c.args.first in
    let count = c.args.count in
    let column = c.args.column.now in
    let are =
    several_numbered first count c.args.numbers.now c.requires.numbered
    (λ one. grind (arith, c.if-count-eq1.false, one)) in
    subst (λ (ns : List ℕ). AreRowsOf column ns) (sym are)
    (numbers_within first count (length column.rows) c.requires.within)

pub returns : goal.returns
returns c =
    let first = c.args.first in
    let count = c.args.count in
    let column = c.args.column.now in
    let are =
    several_numbered first count c.args.numbers.now c.requires.numbered
    (λ one. grind (arith, c.if-count-eq1.false, one)) in
    AnswersUnlessMemory-weaker c.take.result _ _
    (λ d taken.
    taken_has first count column d (subst (λ (ns : List ℕ). IsTaken column ns d) are taken))
    c.take.ensures
