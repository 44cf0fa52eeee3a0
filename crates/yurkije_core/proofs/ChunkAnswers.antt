-- What a run over some rows answers and refuses is so of the whole.
use Rattle.std.proofs.Common.{◌≡◌, ◌⊎◌, inl, inr, ℕ, ◌+◌, ◌≤◌, sym, subst, List, None}
use Rattle.std.specs.Prelude.{All}
use Rattle.vortex_errors.specs.declared.error.VortexError.{VortexError}
use Rattle.vortex_errors.specs.Answers.{UnlessMemory}
use Rattle.vortex_columns.specs.ColumnView.{ColumnView}
use Rattle.vortex_interface.specs.Bound.{IsBound}
use Rattle.vortex_interface.specs.Execution.{Executes, other_length}
use Rattle.vortex_functions.specs.Walks.{AllMean}
use Rattle.vortex_expressions.specs.Items.{Tree, meaning}
use Rattle.vortex_program.specs.Executing.{AllGiveWithin, RefusesColumnsFirst}
use Rattle.vortex_program.specs.Rows.{HasRows}
use Rattle.vortex_program.specs.Running.{AnswersTrees, FaultsFirstThere, RefusesTrees}
use Rattle.vortex_program.specs.declared.running.RunError.{RunError}
use Rattle.vortex_program.specs.declared.running.RunError.TheVariants as run
use Rattle.yurkije_core.specs.Chunks.{RunsFrom, AnswersFrom}
use Rattle.yurkije_core.proofs.ChunkRows.{even_chunk, means_there, fits_there, fits_whole}
use Rattle.yurkije_core.proofs.ChunkRuns.{run_from, answered_from, refused_from, fault_from}

module _ (first count : ℕ) (cs ds : List ColumnView) (has : AllMean (HasRows first count) cs ds)
  where
    pub chunk_run : (ts : List Tree) (os : List ColumnView) → All IsBound ts
        → AllMean (Executes meaning ds count) ts os → AllMean (RunsFrom cs first count) ts os
    chunk_run ts os bound h =
        run_from first count cs ds (means_there first count cs ds has)
        (fits_there first count cs ds has) (fits_whole first count cs ds has)
        (even_chunk first count cs ds has) ts os bound h

    pub chunk_answered : (ts : List Tree) (os : List ColumnView) → All IsBound ts
        → AnswersTrees ds count ts os → AllMean (AnswersFrom cs first count) ts os
    chunk_answered ts os bound h =
        answered_from first count cs ds (means_there first count cs ds has)
        (fits_there first count cs ds has) (fits_whole first count cs ds has)
        (even_chunk first count cs ds has) ts os bound h

    module _ (n : ℕ) (ts us : List Tree) where
      pub chunk_refused : other_length n cs ≡ None → (e : VortexError)
          → UnlessMemory (RefusesColumnsFirst ds count ts) e
          → UnlessMemory (RefusesColumnsFirst cs n ts) e
      chunk_refused even e h =
          refused_from first count cs ds (means_there first count cs ds has)
          (fits_there first count cs ds has) (fits_whole first count cs ds has)
          (even_chunk first count cs ds has) n even ts e h

      pub chunk_fault : first + count ≤ n → All IsBound us → AllGiveWithin meaning cs 0 first us
          → (j k : ℕ) (x : VortexError) (e : RunError)
          → (e ≡ run.OutOfMemory) ⊎ (e ≡ run.Fault (first + j) k x)
          → FaultsFirstThere ds count us j k x → RefusesTrees cs n ts us e
      chunk_fault within bound given j k x e (inl is) h =
          subst (RefusesTrees cs n ts us) (sym is) tt
      chunk_fault within bound given j k x e (inr is) h =
          subst (RefusesTrees cs n ts us) (sym is)
          (fault_from first count cs ds (means_there first count cs ds has)
          (fits_there first count cs ds has) (fits_whole first count cs ds has)
          (even_chunk first count cs ds has) n within us j k x bound given h)
