-- Truth values as fields of a format, and the rows of a column of them.
use Rattle.std.specs.Prelude.{◌≡◌, codes, true}
use Rattle.rowfn_csv.specs.Fields.{text_field}
use Rattle.rowfn_csv.specs.declared.format.Format.{Format}
use Rattle.rowfn_batches.specs.declared.truths.Truths.{Truths}
use Rattle.std.specs.Prelude.{List, Bool}
use Rattle.vortex_columns.specs.ColumnView.{ColumnView, AreBits}
use Rattle.vortex_columns.specs.ValidRows.{AreValid, valid_view}
use Rattle.vortex_columns.specs.declared.valid_rows.ValidRows.{ValidRows}

-- how each stands as a field, and that they stand as they are spelled where they are told to
pub record AreTruths (format : Format) (truths : Truths) : Type 0 where
  pub yes : truths.yes.now ≡ text_field format (codes "true")
  pub no : truths.no.now ≡ text_field format (codes "false")
  pub bare_yes : truths.are_bare ≡ true → truths.yes.now ≡ codes "true"
  pub bare_no : truths.are_bare ≡ true → truths.no.now ≡ codes "false"

-- the bits of a column of truth values, and which of its rows are not null
pub record AreTruthRows (c : ColumnView) (bits : List Bool) (valid : ValidRows) : Type 0 where
  pub bits_of_rows : AreBits c bits
  pub valid_rows : AreValid (valid_view valid) c.rows
