-- What runs over columns where they lie has the values of what was written.
use Rattle.std.proofs.Common.{◌≡◌, ◌∙◌, ℕ, ◌+◌, ◌≤◌, List, [], ◌∷◌, sym, ap}
use Rattle.std.proofs.Common.{arith}
use Rattle.std.specs.Prelude.{All, None}
use Rattle.vortex_types.specs.Values.{Value, null}
use Rattle.vortex_columns.specs.ColumnView.{ColumnView, AreTyped}
use Rattle.vortex_interface.specs.Bound.{IsBound}
use Rattle.vortex_interface.specs.Outcomes.{Outcome, gives, faults}
use Rattle.vortex_interface.specs.Rewrites.{Rewrites}
use Rattle.vortex_interface.specs.Execution.{LeavesFit, other_length, Executes}
use Rattle.vortex_functions.specs.Walks.{AllMean}
use Rattle.vortex_rewriting.proofs.KeptRows.{rewrites_keep_rows}
use Rattle.vortex_expressions.specs.Items.{Tree, meaning}
use Rattle.vortex_program.specs.Executing.{AllFit}
use Rattle.vortex_program.specs.Running.{AnswersTrees}
use Rattle.vortex_program.proofs.Answered.{all_head, all_tail, all_cons}
use Rattle.vortex_program.proofs.Keeping.{kept_answers}
use Rattle.vortex_rewriting.specs.Keeping.{RewritesKeepRows}
use Rattle.yurkije_core.specs.Chunks.{RunsFrom, AnswersFrom}

-- the value that an outcome gives, if it gives one
abbrev given : Outcome → Value
given (gives v) = v
given (faults f) = null

module _ (cs : List ColumnView) (n : ℕ) (even : other_length n cs ≡ None)
    (typed : All (λ c. AreTyped c.dtype c.rows) cs) where
  module _ (first count : ℕ) (within : first + count ≤ n) where
    answered : (t u : Tree) (d : ColumnView) → Rewrites meaning t u → LeavesFit cs t → IsBound t
        → RunsFrom cs first count u d → AnswersFrom cs first count t d
    answered t u d r fit bound run = record {
      fit = fit;
      kept = λ j w lt e.
          ap given
          (sym (run.each j lt)
          ∙ (rewrites_keep_rows meaning cs n t bound typed u r fit even).values (first + j) w
          (omega (arith, lt, within)) e);
    }

    -- rows of trees that run are rows of those that were written
    pub answered_lent : (ts us : List Tree) (ds : List ColumnView) → AllMean (Rewrites meaning) ts us
        → All (LeavesFit cs) ts → All IsBound ts → AllMean (RunsFrom cs first count) us ds
        → AllMean (AnswersFrom cs first count) ts ds
    answered_lent [] [] [] r fit bound run = tt
    answered_lent [] [] (d ∷ ds) r fit bound run = absurd run
    answered_lent [] (u ∷ us) ds r fit bound run = absurd r
    answered_lent (t ∷ ts) [] ds r fit bound run = absurd r
    answered_lent (t ∷ ts) (u ∷ us) [] r fit bound run = absurd run
    answered_lent (t ∷ ts) (u ∷ us) (d ∷ ds) r fit bound run = (
      answered t u d r.0 (all_head (LeavesFit cs) t ts fit) (all_head IsBound t ts bound) run.0,
      answered_lent ts us ds r.1 (all_tail (LeavesFit cs) t ts fit) (all_tail IsBound t ts bound)
          run.1,
    )

  all_fit : (ts : List Tree) → All (LeavesFit cs) ts → AllFit cs n ts
  all_fit [] fit = tt
  all_fit (t ∷ ts) fit =
      ((all_head (LeavesFit cs) t ts fit, even), all_fit ts (all_tail (LeavesFit cs) t ts fit))

  all_kept : (ts : List Tree) → All IsBound ts → All (RewritesKeepRows meaning cs n) ts
  all_kept [] bound = λ k d no. absurd (omega (arith, no))
  all_kept (t ∷ ts) bound =
      all_cons (RewritesKeepRows meaning cs n) t ts
      (rewrites_keep_rows meaning cs n t (all_head IsBound t ts bound) typed)
      (all_kept ts (all_tail IsBound t ts bound))

  -- a whole batch
  pub answers_lent : (ts us : List Tree) (ds : List ColumnView) → AllMean (Rewrites meaning) ts us
      → All (LeavesFit cs) ts → All IsBound ts → AllMean (Executes meaning cs n) us ds
      → AnswersTrees cs n ts ds
  answers_lent ts us ds r fit bound run =
      kept_answers cs n ts us ds r (all_fit ts fit) (all_kept ts bound) run
