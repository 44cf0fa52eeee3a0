-- Texts that are made row by row, and their cells.
use Rattle.std.proofs.Common.{◌≡◌, ℕ, List, length, map, None, ap, sym, ◌∙◌, Option, String}
use Rattle.std.specs.Prelude.{slice_index_or}
use Rattle.std.specs.declared.alloc.Global.{Global}
use Rattle.std.proofs.lemmas.List.{length-map}
use Rattle.std.proofs.Math.ListN.{get_or-map}
use Rattle.vortex_errors.specs.declared.error.VortexError.{VortexError}
use Rattle.vortex_errors.specs.declared.error.VortexError.TheVariants.{OutOfMemory}
use Rattle.vortex_errors.specs.Answers.{UnlessMemory}
use Rattle.vortex_types.specs.Values.{Value, null}
use Rattle.vortex_columns.specs.declared.cell.Cell.{Cell}
use Rattle.vortex_columns.specs.declared.cell.Cell.TheVariants as cell
use Rattle.vortex_columns.specs.Cells.{cell_value}
use Rattle.vortex_columns.specs.ColumnView.{ColumnView}
use Rattle.vortex_interface.specs.Outcomes.{Outcome, gives}
use Rattle.vortex_sql_calls.specs.Calls.{AnsweredRows, MadeRows}
use Rattle.vortex_sql_rows.specs.AnsweredRows.{text_or_null}

-- the rows of texts are those of their cells
pub made_answers : (means : List Value → Outcome) (cs : List ColumnView) (n : ℕ)
    (made : List (Option (String Global))) (cells : List Cell) → MadeRows means cs n made
    → map cell_value cells ≡ map text_or_null made → AnsweredRows means cs n cells
made_answers means cs n made cells a e = record {
  count =
      sym (length-map cells cell_value) ∙ ap length e ∙ length-map made text_or_null ∙ a.count;
  each = λ i lt.
      a.each i lt
      ∙ ap gives
      (sym (get_or-map text_or_null made i None) ∙ ap (λ vs. slice_index_or vs i null) (sym e)
      ∙ get_or-map cell_value cells i cell.Null);
}

-- an error of a row is one of the call, where memory does not run out
pub made_fault : (P Q : VortexError → Type 0) → ((e : VortexError) → P e → UnlessMemory Q e)
    → (e : VortexError) → UnlessMemory P e → UnlessMemory Q e
made_fault P Q f OutOfMemory h = tt
made_fault P Q f e h = f e h
