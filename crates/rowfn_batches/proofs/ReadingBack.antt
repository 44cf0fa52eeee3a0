-- What is written of answers reads back.
use Rattle.std.proofs.Common.{◌≡◌, ◌≢◌, ◌∙◌, ℕ, List, [], ◌∷◌, Bool, true, false, length, get_or}
use Rattle.std.proofs.Common.{map}
use Rattle.std.proofs.Common.{refl, sym, ap, ap₂, subst, arith, inr, if◌then◌else◌, Some, None}
use Rattle.std.proofs.Common.{Result, Ok, Err}
use Rattle.std.specs.Prelude.{MatchResult}
use Rattle.vortex_types.specs.Values.{Value, is_null}
use Rattle.vortex_columns.specs.ColumnView.{ColumnView, row}
use Rattle.vortex_interface.specs.CallTexts.{joined}
use Rattle.vortex_program.specs.declared.answer.Answer.{Answer}
use Rattle.rowfn_csv.specs.declared.format.Format.{Format}
use Rattle.rowfn_csv.specs.Fields.{text_field}
use Rattle.rowfn_csv.specs.RoundTrip.{cell_field, cell_read, fields_line, SaysCells}
use Rattle.rowfn_csv.proofs.RoundTrip.{cells_read_back}
use Rattle.rowfn_batches.specs.Names.{names_of, AreApart}
use Rattle.rowfn_batches.specs.Outputs.{row_fields, value_field, separator}
use Rattle.rowfn_batches.specs.Printing.{field_text}
use Rattle.rowfn_batches.specs.ReadingBack.{may_be_lost, KeepsRows, RefusesRows, ReadsBack}
use Rattle.rowfn_batches.specs.ReadingBack.{RefusesReadingBack, cell_of, row_cells, RowsReadBack}
use Rattle.rowfn_batches.specs.declared.settings.Settings.{Settings}
use Rattle.rowfn_batches.specs.declared.errors.StreamError.{StreamError}

module _ (format : Format) (answers : List Answer) where
  -- there are more answers than one, or none
  pub keeps_others : length answers ≢ 1 → KeepsRows format answers
  keeps_others h a e = absurd (h (ap length e))

  pub only_one : (only : Answer) → length answers ≡ 1 → only ≡ get_or answers 0 only
      → answers ≡ only ∷ []
  only_one = of_one answers
    where
      of_one : (xs : List Answer) (only : Answer) → length xs ≡ 1 → only ≡ get_or xs 0 only
          → xs ≡ only ∷ []
      of_one [] only e is = absurd (omega (arith, e))
      of_one (x ∷ []) only e is = ap (λ (y : Answer). y ∷ []) (sym is)
      of_one (x ∷ y ∷ rest) only e is = absurd (omega (arith, e))

  pub keeps_only : (only : Answer) → answers ≡ only ∷ [] → may_be_lost format only ≡ false
      → KeepsRows format answers
  keeps_only only is kept a e =
      subst (λ (x : Answer). may_be_lost format x ≡ false)
      (ap (λ (xs : List Answer). get_or xs 0 only) (sym is ∙ e)) kept

module _ (settings : Settings) (answers : List Answer) (written : settings.picks_rows ≡ false)
    (apart : AreApart (names_of answers)) where
  -- no row is lost that has fields of its own before its answers
  pub kept_appended : settings.appends ≡ true → ReadsBack settings answers
  kept_appended chosen =
      record { names = apart; rows = λ other. absurd (cc (sym chosen ∙ other)) }

  pub read_back : (borrowed : List Answer) (r : Result (Unit {0}) StreamError) → borrowed ≡ answers
      → MatchResult r (λ _. KeepsRows settings.format borrowed) (RefusesRows settings.format borrowed)
      → MatchResult r (λ _. settings.picks_rows ≡ false → ReadsBack settings answers)
      (λ e. (settings.picks_rows ≡ false) × RefusesReadingBack settings.format answers e)
  read_back borrowed (Ok u) same h =
      λ _. record {
        names = apart;
        rows = λ _. subst (λ (xs : List Answer). KeepsRows settings.format xs) same h;
      }
  read_back borrowed (Err e) same h =
      (written, inr (subst (λ (xs : List Answer). RefusesRows settings.format xs e) same h))

module _ (format : Format) (i : ℕ) where
  value_is : (v : Value) → value_field format v ≡ cell_field format (cell_of v)
  value_is v = by_null (is_null v)
    where
      by_null : (b : Bool)
          → (if b then format.null.now else text_field format (field_text v))
          ≡ cell_field format (if b then None else Some (field_text v))
      by_null true = refl
      by_null false = refl

  fields_are : (answers : List ColumnView)
      → row_fields format answers i ≡ map (cell_field format) (row_cells answers i)
  fields_are [] = refl
  fields_are (c ∷ cs) =
      ap₂ (λ (f : List ℕ) (fs : List (List ℕ)). f ∷ fs) (value_is (row c.rows i)) (fields_are cs)

  some_cells : (answers : List ColumnView) → answers ≢ [] → row_cells answers i ≢ []
  some_cells [] some = absurd (some refl)
  some_cells (c ∷ cs) some = λ e. cc

pub rows_read_back : RowsReadBack
rows_read_back format answers i can some =
    record {
      line = joined (separator format) (row_fields format answers i);
      ended = refl;
      says = subst
          (λ (fs : List (List ℕ)). SaysCells format (fields_line format.output_delimiter fs)
          (map (cell_read format) (row_cells answers i)))
          (sym (fields_are format i answers))
          (cells_read_back format (row_cells answers i) can (some_cells format i answers some));
    }
