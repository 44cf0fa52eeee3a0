-- The texts of a column of texts, row by row.
use Rattle.std.specs.Prelude.{◌≡◌, ℕ, ◌<◌, List, [], length, slice_index_or, true, false}
use Rattle.std.specs.Prelude.{IsUtf8}
use Rattle.std.specs.Str.{IsAscii}
use Rattle.vortex_types.specs.Values.{Value, text, is_null}
use Rattle.vortex_columns.specs.ColumnView.{ColumnView, row}
use Rattle.vortex_views.specs.BorrowedValues.{borrowed_values}
use Rattle.vortex_like.specs.Rows.{IsConstantOf}
use Rattle.vortex_like.specs.declared.texts.Texts.{Texts}
use Rattle.vortex_like.specs.declared.texts.TextColumn.{TextColumn}
use Rattle.vortex_like.specs.declared.texts.TextColumn.TheVariants.{One, Rows, Null}

-- the borrowed bytes
abbrev pub texts_of : Texts → List (List ℕ)
texts_of texts = borrowed_values texts.rows

abbrev pub text_at : List (List ℕ) → ℕ → List ℕ
text_at texts i = slice_index_or texts i []

-- the bytes of a value, if it is not null
pub record IsTextOf (v : Value) (bytes : List ℕ) : Type 0 where
  pub value : is_null v ≡ false → v ≡ text bytes
  pub utf8 : is_null v ≡ false → IsUtf8 bytes

-- bytes for each row, equal to the row's text where it is not null
pub record AreTexts (c : ColumnView) (texts : List (List ℕ)) : Type 0 where
  pub count : length texts ≡ length c.rows
  pub each : (i : ℕ) → i < length c.rows → IsTextOf (row c.rows i) (text_at texts i)

-- each text that is not null is ASCII
abbrev pub AreAscii : ColumnView → List (List ℕ) → Type 0
AreAscii c texts =
    (i : ℕ) → i < length c.rows → is_null (row c.rows i) ≡ false → IsAscii (text_at texts i)

-- this text in each row that is not null
abbrev pub IsRepeated : List ℕ → ColumnView → Type 0
IsRepeated chars c =
    (i : ℕ) → i < length c.rows → is_null (row c.rows i) ≡ false → row c.rows i ≡ text chars

-- one text in each row, a text in each, or null in each
abbrev pub IsTextColumn : ColumnView → TextColumn → Type 0
IsTextColumn c (One chars) = IsConstantOf (text chars.now) c
IsTextColumn c (Rows texts) = AreTexts c (texts_of texts)
IsTextColumn c Null = (i : ℕ) → i < length c.rows → is_null (row c.rows i) ≡ true
