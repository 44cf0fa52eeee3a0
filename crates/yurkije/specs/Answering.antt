-- What a handle holds of a batch, and what is asked of answers.
use Rattle.std.specs.Prelude.{◌≡◌, ◌⊎◌, ℕ, ℤ, pos, List, map, take, length}
use Rattle.std.specs.Prelude.{Option, Some, None, slice_get, codes}
use Rattle.vortex_interface.specs.Rewrites.{Rewrites}
use Rattle.vortex_functions.specs.Walks.{AllMean}
use Rattle.vortex_expressions.specs.Items.{meaning}
use Rattle.vortex_columns.specs.ColumnView.{ColumnView}
use Rattle.vortex_logical.specs.declared.kind.Kind.{Kind}
use Rattle.vortex_columns.specs.TrueRows.{true_rows}
use Rattle.vortex_arrow.specs.declared.column.ArrowColumn.{ArrowColumn}
use Rattle.vortex_arrow.specs.declared.error.CopyError.{CopyError}
use Rattle.vortex_arrow.specs.Written.{SameBehind, RefusesSelection, mask_of, RefusesMask}
use Rattle.yurkije_columns.specs.declared.borrowed.BorrowedColumn.{BorrowedColumn}
use Rattle.yurkije_columns.specs.declared.borrowed.BorrowedError.{BorrowedError}
use Rattle.yurkije_columns.specs.declared.outputs.Size.{Size}
use Rattle.yurkije_columns.specs.declared.outputs.Room.{Room}
use Rattle.yurkije_columns.specs.declared.outputs.RoomError.{RoomError}
use Rattle.yurkije_columns.specs.declared.outputs.RoomError.TheVariants as room
use Rattle.yurkije_columns.specs.Borrowed.{AllSay, RefusesBorrowed}
use Rattle.yurkije_columns.specs.Outputs.{IsSize, RefusesSize, IsCopied, RefusesCopy}
use Rattle.yurkije_columns.specs.Statuses.{copy_status}
use Rattle.yurkije_core.specs.declared.running.BatchRunError.{BatchRunError}
use Rattle.yurkije_core.specs.declared.report.Report.{Report}
use Rattle.yurkije_core.specs.Running.{AnswersBatch, RefusesRun}
use Rattle.yurkije_core.specs.Reports.{Tells, nowhere, borrowed_told, run_told}
use Rattle.yurkije_core.specs.Messages.{HasMessage, IsRunWords}
use Rattle.yurkije_columns.specs.Messages.{borrowed_words}
use Rattle.yurkije.specs.Views.{ProgramView, HeldView, answers_in, kinds_in}
use Rattle.yurkije.specs.Asking.{Asks}
use Rattle.yurkije.specs.Reading.{Done, Wants, Refuses}

-- The handle holds what the program answers over the columns that are lent, and 0 is answered; or
-- it holds nothing, and why is told: a column that is read is wrong, or an answer faults, or memory
-- ran out. Of a program that was read, what is run are rewrites of what was written.
pub data HoldsAnswers (p : ProgramView) (borrowed : List BorrowedColumn) (rows : ℕ)
    (held : Option HeldView) (result : ℕ) (old report : Report) : Type 0 where
  answered : (columns : List (Option ArrowColumn)) (answers : List ColumnView)
      → AllSay p.reads borrowed columns
      → (AllMean (Rewrites meaning) p.written p.optimized
      → AnswersBatch p.scope p.kinds rows columns p.written answers)
      → answers_in held ≡ Some answers → kinds_in held ≡ p.means → Done result old report
      → HoldsAnswers p borrowed rows held result old report
  no_kind : (e : BorrowedError) → RefusesBorrowed p.reads borrowed e
      → Refuses (λ w. w ≡ borrowed_words e) (borrowed_told e) held result old report
      → HoldsAnswers p borrowed rows held result old report
  refused : (columns : List (Option ArrowColumn)) (e : BatchRunError)
      → AllSay p.reads borrowed columns
      → (AllMean (Rewrites meaning) p.written p.optimized
      → RefusesRun p.scope p.kinds rows columns p.written p.optimized e)
      → Refuses (IsRunWords p.scope p.names rows e) (run_told e) held result old report
      → HoldsAnswers p borrowed rows held result old report
  without_memory : Wants held result old report → HoldsAnswers p borrowed rows held result old report

-- there is no program to run
pub record HoldsNothing (held : Option HeldView) (result : ℕ) (old report : Report) : Type 0 where
  pub left : held ≡ None
  pub status : result ≡ 100
  pub told : Tells report (nowhere 100)
  pub message : HasMessage (codes "the handle holds no expression") old report

abbrev pub Runs : Option ProgramView → List BorrowedColumn → ℕ → Option HeldView → ℕ → Report → Report
    → Type 0
Runs None borrowed rows held result old report = HoldsNothing held result old report
Runs (Some p) borrowed rows held result old report = HoldsAnswers p borrowed rows held result old report

-- how long the buffers have to be, or why that is not told, and then nothing is
abbrev pub Sizes : ColumnView → Size → Size → ℕ → Type 0
Sizes c old new result =
    ((result ≡ 0) × IsSize c new)
    ⊎ ((e : CopyError) × RefusesSize c e × (new ≡ old) × (result ≡ copy_status e))

abbrev pub room_status : RoomError → ℕ
room_status room.UnknownKind = 102
room_status (room.Uncopied e) = copy_status e

-- the answer, whose values mean what the number says, is copied, or why it is not, and then the buffers stay as they were
abbrev pub Copies : ColumnView → ℕ → Room → Room → ℕ → Type 0
Copies c m old new result =
    ((result ≡ 0) × IsCopied c m old new)
    ⊎ ((e : RoomError) × RefusesCopy c m old e × (new ≡ old) × (result ≡ room_status e))

-- the numbers of the true rows, and how many they are; or why they are not written
pub record SelectsBy {I : Type 0} (number : I → ℤ) (c : ColumnView) (most : ℕ) (old new : List I)
    (count result : ℕ) : Type 0 where
  pub count_told : count ≡ length (true_rows c.rows)
  pub written : ((result ≡ 0) × (map number (take count new) ≡ map pos (true_rows c.rows))
      × SameBehind count old new)
      ⊎ ((e : CopyError) × RefusesSelection c (length old) most e × (new ≡ old)
      × (result ≡ copy_status e))

abbrev pub Selects : ColumnView → ℕ → List ℕ → List ℕ → ℕ → ℕ → Type 0
Selects = SelectsBy pos

-- a byte a row, 1 where it is true; or why they are not written, and then they are as they were
abbrev pub Masks : ColumnView → List ℕ → List ℕ → ℕ → Type 0
Masks c old new result =
    ((result ≡ 0) × (take (length c.rows) new ≡ mask_of c.rows)
    × SameBehind (length c.rows) old new)
    ⊎ ((e : CopyError) × RefusesMask c (length old) e × (new ≡ old) × (result ≡ copy_status e))

-- the answers are held, or memory ran out
abbrev pub KeepsOrWants : List ColumnView → List Kind → Option HeldView → ℕ → Report → Report
    → Type 0
KeepsOrWants columns kinds held result old report =
    ((answers_in held ≡ Some columns) × (kinds_in held ≡ kinds) × Done result old report)
    ⊎ Wants held result old report

-- P of that answer; or there are no answers, or none of that number, and what was handed over is the
-- same
abbrev pub AsksAnswer : Option (List ColumnView) → ℕ → ℕ → Type 0 → (ColumnView → Type 0) → Type 0
AsksAnswer answers k result same P =
    Asks answers 100 result same (λ cs. Asks (slice_get cs k) 101 result same P)

-- it is that answer
abbrev pub FindsColumn : Option (List ColumnView) → ℕ → ColumnView → Type 0
FindsColumn None k c = ⊥
FindsColumn (Some cs) k c = slice_get cs k ≡ Some c

-- there is none, which has that status
abbrev pub FindsNone : Option (List ColumnView) → ℕ → ℕ → Type 0
FindsNone None k status = status ≡ 100
FindsNone (Some cs) k status = (status ≡ 101) × (slice_get cs k ≡ None)
