-- From what is read of one layout to the column of a caller's values.
use Rattle.std.proofs.Common.{◌≡◌, ℕ, ◌+◌, ◌<◌, Result, Ok, Err}
use Rattle.std.specs.Prelude.{MatchResult}
use Rattle.vortex_columns.specs.ValidityView.{ValidityView, is_valid_row}
use Rattle.vortex_columns.specs.ColumnView.{ColumnView}
use Rattle.vortex_arrow.specs.declared.error.ArrowError.{ArrowError}
use Rattle.vortex_arrow.specs.declared.error.ArrowError.TheVariants as arrow
use Rattle.vortex_arrow.specs.Layouts.{Layout, Lies, IsTextIfValid}
use Rattle.vortex_arrow.specs.Columns.{AreValues, HasRoom, column_from}
use Rattle.vortex_arrow.specs.Refusals.{OnlyMemory, TellsOfValues}

-- what a caller's values of that layout answer
abbrev pub AnswersValues : Result ColumnView ArrowError → Layout → ValidityView → ℕ → ℕ → Type 0
AnswersValues r l v from n =
    MatchResult r (λ c. AreValues l v from n × (c ≡ column_from l v from n))
    (TellsOfValues l v from n)

module _ (l : Layout) (v : ValidityView) (from n : ℕ) where
  only_memory : (e : ArrowError) → OnlyMemory e → TellsOfValues l v from n e
  only_memory arrow.OutOfMemory h = tt
  only_memory arrow.TooLong h = absurd h
  only_memory arrow.ValidityTooShort h = absurd h
  only_memory arrow.ValuesTooShort h = absurd h
  only_memory arrow.OffsetsTooShort h = absurd h
  only_memory (arrow.UnexpectedNull r) h = absurd h
  only_memory (arrow.InvalidValue r f) h = absurd h
  only_memory (arrow.NotUtf8 r) h = absurd h

  pub plain_answer : (r : Result ColumnView ArrowError) → AreValues l v from n
      → MatchResult r (λ c. c ≡ column_from l v from n) OnlyMemory → AnswersValues r l v from n
  plain_answer (Ok c) are h = (are, h)
  plain_answer (Err e) are h = only_memory e h

  pub texts_answer : (r : Result ColumnView ArrowError)
      → MatchResult r
      (λ c. ((i : ℕ) → i < n → Lies l (from + i) (is_valid_row v i)
      × IsTextIfValid l (from + i) (is_valid_row v i))
      × HasRoom l v from n × (c ≡ column_from l v from n)) (TellsOfValues l v from n)
      → AnswersValues r l v from n
  texts_answer (Ok c) h =
      (record { lie = λ i lt. (h.0 i lt).0; room = h.1; texts = λ i lt. (h.0 i lt).1 }, h.2)
  texts_answer (Err e) h = h

  pub bytes_answer : (r : Result ColumnView ArrowError)
      → ((i : ℕ) → i < n → IsTextIfValid l (from + i) (is_valid_row v i))
      → MatchResult r
      (λ c. ((i : ℕ) → i < n → Lies l (from + i) (is_valid_row v i))
      × HasRoom l v from n × (c ≡ column_from l v from n)) (TellsOfValues l v from n)
      → AnswersValues r l v from n
  bytes_answer (Ok c) texts h = (record { lie = h.0; room = h.1; texts = texts }, h.2)
  bytes_answer (Err e) texts h = h
