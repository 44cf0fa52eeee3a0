-- What is told of an answer of an expression in groups of rows.
use Rattle.std.specs.Prelude.{◌≡◌, ◌⊎◌, ℕ, List, Option, Some, None, unwrap_or, codes}
use Rattle.std.specs.Prelude.{slice_get, length}
use Rattle.vortex_expressions.specs.Items.{Tree, meaning}
use Rattle.vortex_pruning.specs.declared.pruned.Pruned.{Pruned}
use Rattle.vortex_arrow.specs.declared.error.CopyError.{CopyError}
use Rattle.yurkije_columns.specs.Statuses.{copy_status}
use Rattle.yurkije_core.specs.declared.report.Report.{Report}
use Rattle.yurkije_core.specs.declared.report.ErrorNumbers.{ErrorNumbers}
use Rattle.yurkije_core.specs.Reports.{none, nowhere, Tells}
use Rattle.yurkije_core.specs.Messages.{HasMessage, IsToldIn}
use Rattle.yurkije_pruning.specs.declared.error.PruneError.{PruneError}
use Rattle.yurkije_pruning.specs.declared.lent.BorrowedStatistics.{BorrowedStatistics}
use Rattle.yurkije_pruning.specs.declared.verdicts.Verdicts.{Verdicts}
use Rattle.yurkije_pruning.specs.Pruning.{PrunesLent, RefusesLent}
use Rattle.yurkije_pruning.specs.Verdicts.{AreWritten, AreTooShort, KeepsLoans}
use Rattle.yurkije_pruning.specs.Statuses.{prune_status, place_told}
use Rattle.yurkije_pruning.specs.Messages.{prune_words}
use Rattle.yurkije.specs.Views.{ProgramView}
use Rattle.yurkije.specs.Reading.{Done}

-- the field as the column, and the group as the row
abbrev pub numbers_told : PruneError → ErrorNumbers
numbers_told e = record {
  status = prune_status e;
  answer = none;
  column = unwrap_or (place_told e).field none;
  row = unwrap_or (place_told e).group none;
  byte = none;
  line = 0;
  character = 0;
}

-- a refusal by those numbers and words, and the buffers are as they were
pub record Told (t : ErrorNumbers) (words : List ℕ) (room_old room : Verdicts) (result : ℕ)
    (old report : Report) : Type 0 where
  pub kept : room ≡ room_old
  pub status : result ≡ t.status
  pub told : Tells report t
  pub message : HasMessage words old report

-- the same, where memory for the words may have been refused
pub record ToldIn (P : List ℕ → Type 0) (t : ErrorNumbers) (room_old room : Verdicts) (result : ℕ)
    (old report : Report) : Type 0 where
  pub kept : room ≡ room_old
  pub status : result ≡ t.status
  pub told : Tells report t
  pub message : IsToldIn P old report

-- what is known of each group is written, or a buffer is too short
abbrev pub TellsGroups : List Pruned → Verdicts → Verdicts → ℕ → Report → Report → Type 0
TellsGroups ps room_old room result old report =
    (AreWritten ps room_old room × KeepsLoans room_old room × Done result old report)
    ⊎ ((e : CopyError) × AreTooShort ps room_old e
    × Told (nowhere (copy_status e)) (codes "fewer items than groups") room_old room result old
    report)

-- The groups are pruned by the answer as it is run, and 0 is answered; or why they are not is told,
-- and nothing is written.
pub data Prunes (p : ProgramView) (t : Tree) (ss : List BorrowedStatistics) (ns : List ℕ)
    (room_old room : Verdicts) (result : ℕ) (old report : Report) : Type 0 where
  pruned : (ps : List Pruned) → PrunesLent meaning p.scope p.kinds ss t ns ps
      → TellsGroups ps room_old room result old report
      → Prunes p t ss ns room_old room result old report
  refused : (e : PruneError) → RefusesLent meaning p.scope p.kinds ss t ns e
      → ToldIn (λ w. w ≡ prune_words p.scope (length ns) e) (numbers_told e) room_old room result
      old report
      → Prunes p t ss ns room_old room result old report

abbrev pub PrunesAt : ProgramView → Option Tree → List BorrowedStatistics → List ℕ
    → Verdicts → Verdicts → ℕ → Report → Report → Type 0
PrunesAt p None ss ns room_old room result old report =
    Told (nowhere 101) (codes "there is no answer of that number") room_old room result old report
PrunesAt p (Some t) ss ns room_old room result old report =
    Prunes p t ss ns room_old room result old report

abbrev pub PrunesAnswer : ProgramView → ℕ → List BorrowedStatistics → List ℕ
    → Verdicts → Verdicts → ℕ → Report → Report → Type 0
PrunesAnswer p k = PrunesAt p (slice_get p.optimized k)

abbrev pub PrunesHeld : Option ProgramView → ℕ → List BorrowedStatistics → List ℕ
    → Verdicts → Verdicts → ℕ → Report → Report → Type 0
PrunesHeld None k ss ns room_old room result old report =
    Told (nowhere 100) (codes "the handle holds no expression") room_old room result old report
PrunesHeld (Some p) k ss ns room_old room result old report =
    PrunesAnswer p k ss ns room_old room result old report
