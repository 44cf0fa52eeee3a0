-- What is run answers what was written.
use Rattle.std.proofs.Common.{◌∙◌, ℕ, List, [], ◌∷◌, sym, ap}
use Rattle.std.specs.Prelude.{All}
use Rattle.vortex_types.specs.Values.{Value, null}
use Rattle.vortex_columns.specs.ColumnView.{ColumnView}
use Rattle.vortex_interface.specs.Outcomes.{Outcome, gives, faults}
use Rattle.vortex_interface.specs.Rewrites.{Rewrites}
use Rattle.vortex_interface.specs.Execution.{Executes}
use Rattle.vortex_functions.specs.Executing.{Fits}
use Rattle.vortex_functions.specs.Walks.{AllMean}
use Rattle.vortex_rewriting.specs.Keeping.{RewritesKeepRows}
use Rattle.vortex_expressions.specs.Items.{Tree, meaning}
use Rattle.vortex_program.specs.Executing.{AllFit}
use Rattle.vortex_program.proofs.Answered.{all_head, all_tail}
use Rattle.vortex_program.specs.Running.{AnswersTree, AnswersTrees}

-- the value that an outcome gives, if it gives one
abbrev given : Outcome → Value
given (gives v) = v
given (faults f) = null

module _ (cs : List ColumnView) (n : ℕ) where
  pub kept_answer : (t u : Tree) (c : ColumnView) → Rewrites meaning t u → Fits cs n t
      → RewritesKeepRows meaning cs n t → Executes meaning cs n u c → AnswersTree cs n t c
  kept_answer t u c rewrites fits keep executes = record {
    fit = fits.0;
    lengths = fits.1;
    dtype = sym rewrites.dtype ∙ executes.rows.dtype;
    count = executes.rows.count;
    kept = λ i w below e.
        ap given
        (sym (executes.rows.each i below) ∙ (keep u rewrites fits.0 fits.1).values i w below e);
  }

  pub kept_answers : (ts us : List Tree) (ds : List ColumnView)
      → AllMean (Rewrites meaning) ts us → AllFit cs n ts
      → All (RewritesKeepRows meaning cs n) ts → AllMean (Executes meaning cs n) us ds
      → AnswersTrees cs n ts ds
  kept_answers [] [] [] r f k e = tt
  kept_answers [] [] (d ∷ ds) r f k e = absurd e
  kept_answers [] (u ∷ us) ds r f k e = absurd r
  kept_answers (t ∷ ts) [] ds r f k e = absurd r
  kept_answers (t ∷ ts) (u ∷ us) [] r f k e = absurd e
  kept_answers (t ∷ ts) (u ∷ us) (d ∷ ds) r f k e = (
    kept_answer t u d r.0 f.0 (all_head (RewritesKeepRows meaning cs n) t ts k) e.0,
    kept_answers ts us ds r.1 f.1 (all_tail (RewritesKeepRows meaning cs n) t ts k) e.1,
  )
