-- How the fields of an index are written.
use Rattle.std.specs.Prelude.{◌≡◌, [], None, false}
use Rattle.rowfn_csv.specs.declared.format.Format.{Format}

-- with commas between them, null as the empty field without quotes, and no comments
pub record IsIndexFormat (format : Format) : Type 0 where
  pub parted : format.delimiter ≡ 44
  pub output_parted : format.output_delimiter ≡ 44
  pub null : format.null.now ≡ []
  pub no_more_nulls : format.more_nulls.now ≡ []
  pub quotes_make_texts : format.quoted_nulls ≡ false
  pub no_comment : format.comment ≡ None
  pub strict : (format.fits ≡ false) × (format.blank_rows ≡ false) × (format.any_truths ≡ false)
