-- The rows that a filter keeps of a chunk, with an index and without.
use Rattle.std.specs.Prelude.{◌≡◌, ℕ, Bool, List, [], filter, Some, slice_get}
use Rattle.std.specs.List.{range_with_len}
use Rattle.vortex_columns.specs.ColumnView.{ColumnView}
use Rattle.vortex_interface.specs.Meaning.{Meaning}
use Rattle.vortex_interface.specs.Trees.{Tree}
use Rattle.vortex_interface.specs.Eval.{eval, Settled}
use Rattle.vortex_ranges.specs.Described.{DescribeAll}
use Rattle.vortex_pruning.specs.declared.groups.FieldStatistics.{FieldStatistics}
use Rattle.vortex_pruning.specs.declared.pruned.Pruned.{Pruned}
use Rattle.vortex_pruning.specs.Groups.{PruneAll, statistics_in}
use Rattle.vortex_pruning.specs.Pruning.{is_true}
use Rattle.rowfn_index.specs.declared.chunk.Chunk.{Chunk}
use Rattle.rowfn_index.specs.declared.steps.Action.{Action}
use Rattle.rowfn_index.specs.declared.steps.Action.TheVariants.{Run, Skip, Copy}
use Rattle.rowfn_index.specs.Steps.{action_at}

module _ {V O : Type 0} (m : Meaning V O) (t : Tree V O) where
  module _ (cs : List ColumnView) (n : ℕ) where
    -- of n rows of columns, those in which a condition is true
    abbrev pub true_rows : List ℕ
    true_rows = filter (λ i. is_true (eval m cs t i)) (range_with_len 0 n)

    -- those that are written, by what is done with the chunk
    abbrev pub rows_by : Action → List ℕ
    rows_by Run = true_rows
    rows_by Skip = []
    rows_by Copy = range_with_len 0 n

    -- the same rows are written as without an index, and no row that is not read faults
    pub record KeepsChunk (a : Action) : Type 0 where
      pub rows : rows_by a ≡ true_rows
      pub skipped : a ≡ Skip → Settled m cs n t
      pub copied : a ≡ Copy → Settled m cs n t

  -- so it is of each chunk, whatever its columns are, if the statistics describe them
  abbrev pub KeepsRows : List FieldStatistics → List ℕ → List Pruned → List Chunk → Bool → Type 0
  KeepsRows fs ns ps chunks copies =
      PruneAll m fs t ns ps → (g n : ℕ) → slice_get ns g ≡ Some n → (cs : List ColumnView)
      → DescribeAll n (statistics_in g n fs) cs → KeepsChunk cs n (action_at copies ps chunks g)
