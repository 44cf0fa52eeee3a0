-- What a handle holds of a batch that was answered.
use Rattle.std.proofs.Common.{ℕ, List, Option, inl, inr}
use Rattle.vortex_columns.specs.ColumnView.{ColumnView}
use Rattle.vortex_interface.specs.Rewrites.{Rewrites}
use Rattle.vortex_functions.specs.Walks.{AllMean}
use Rattle.vortex_expressions.specs.Items.{meaning}
use Rattle.vortex_arrow.specs.declared.column.ArrowColumn.{ArrowColumn}
use Rattle.yurkije_columns.specs.declared.borrowed.BorrowedColumn.{BorrowedColumn}
use Rattle.yurkije_columns.specs.Borrowed.{AllSay}
use Rattle.yurkije_core.specs.declared.report.Report.{Report}
use Rattle.yurkije_core.specs.Running.{AnswersBatch}
use Rattle.yurkije.specs.Views.{ProgramView, HeldView}
use Rattle.yurkije.specs.Answering.{HoldsAnswers, answered, without_memory, KeepsOrWants}

pub run_holds : (p : ProgramView) (borrowed : List BorrowedColumn) (rows : ℕ) (held : Option HeldView)
    (result : ℕ) (old report : Report) (columns : List (Option ArrowColumn)) (answers : List ColumnView)
    → AllSay p.reads borrowed columns
    → (AllMean (Rewrites meaning) p.written p.optimized
    → AnswersBatch p.scope p.kinds rows columns p.written answers)
    → KeepsOrWants answers p.means held result old report → HoldsAnswers p borrowed rows held result old report
run_holds p borrowed rows held result old report columns answers say batch (inl h) =
    answered columns answers say batch h.0 h.1 h.2
run_holds p borrowed rows held result old report columns answers say batch (inr w) = without_memory w
