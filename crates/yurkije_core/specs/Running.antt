-- What a program returns for a batch of columns that a caller lends.
use Rattle.std.specs.Prelude.{ℕ, List, Option, map}
use Rattle.vortex_types.specs.LogicalTypes.{Fields}
use Rattle.vortex_columns.specs.ColumnView.{ColumnView}
use Rattle.vortex_expressions.specs.Items.{Tree}
use Rattle.vortex_arrow.specs.declared.column.ArrowColumn.{ArrowColumn}
use Rattle.vortex_logical.specs.declared.kind.Kind.{Kind}
use Rattle.vortex_program.specs.Running.{AnswersTrees, RefusesTrees}
use Rattle.yurkije_columns.specs.Batches.{AllServe, RefusesBatch, batch_column}
use Rattle.yurkije_core.specs.declared.running.BatchRunError.{BatchRunError}
use Rattle.yurkije_core.specs.declared.running.BatchRunError.TheVariants as run

module _ (scope : Fields) (kinds : List Kind) (n : ℕ) (columns : List (Option ArrowColumn))
    (ts : List Tree) where
  -- each column that is read is valid for its field, and each tree has a column over those that the
  -- buffers hold, with nulls in the place of those that are not read
  pub record AnswersBatch (answers : List ColumnView) : Type 0 where
    pub served : AllServe scope kinds n columns
    pub answered : AnswersTrees (map (batch_column n) columns) n ts answers

-- why a batch has no answers: a column is wrong, or the trees return nothing over those that the
-- buffers say, as they were written and as they run
abbrev pub RefusesRun : Fields → List Kind → ℕ → List (Option ArrowColumn) → List Tree → List Tree
    → BatchRunError → Type 0
RefusesRun scope kinds n columns written optimized (run.Batch e) =
    RefusesBatch scope kinds n columns e
RefusesRun scope kinds n columns written optimized (run.Program e) =
    AllServe scope kinds n columns
    × RefusesTrees (map (batch_column n) columns) n written optimized e
