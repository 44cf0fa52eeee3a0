-- Which rows of a column are true, as the forms tell that are read 64 rows at a time.
use Rattle.std.specs.Prelude.{◌≡◌, ◌&&◌, ℕ, ◌<◌, Bool, List, length, ⊤}
use Rattle.vortex_bits.specs.Forms.{shifted_there, shifted_bit}
use Rattle.vortex_types.specs.Values.{Value}
use Rattle.vortex_columns.specs.ColumnView.{row}
use Rattle.vortex_columns.specs.TrueRows.{is_true}
use Rattle.vortex_arrow.specs.declared.true_words.TrueWords.{TrueWords}
use Rattle.vortex_arrow.specs.declared.true_words.TrueWords.TheVariants.{Listed, Joint, Same}

-- whether row i is true, if it is there
abbrev pub true_bit : TrueWords → ℕ → Bool
true_bit (Listed b) i = shifted_bit b i
true_bit (Joint r) i = shifted_bit r.bits i && shifted_bit r.valid i
true_bit (Same b) i = b.bit

abbrev pub true_bit_there : TrueWords → ℕ → Type 0
true_bit_there (Listed b) i = shifted_there b i
true_bit_there (Joint r) i = shifted_there r.bits i × shifted_there r.valid i
true_bit_there (Same b) i = ⊤

-- has for each of these rows whether it is true
pub record TellsTrueRows (w : TrueWords) (rows : List Value) : Type 0 where
  pub there : (i : ℕ) → i < length rows → true_bit_there w i
  pub each : (i : ℕ) → i < length rows → true_bit w i ≡ is_true (row rows i)
