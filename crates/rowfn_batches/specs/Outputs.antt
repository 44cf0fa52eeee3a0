-- What is pushed to be written, and what of a row.
use Rattle.std.specs.Prelude.{◌≡◌, ℕ, ◌≤◌, List, [], ◌∷◌, ◌++◌, map, if◌then◌else◌}
use Rattle.std.specs.Prelude.{Bool, false, All, length, slice_index_or, count_by, Option}
use Rattle.std.specs.List.{flat_map, range_with_len}
use Rattle.vortex_types.specs.Values.{Value, is_null, truth}
use Rattle.vortex_columns.specs.ColumnView.{ColumnView, row}
use Rattle.vortex_interface.specs.CallTexts.{joined, separator_before}
use Rattle.rowfn_csv.specs.declared.format.Format.{Format}
use Rattle.rowfn_csv.specs.Fields.{text_field}
use Rattle.rowfn_csv.specs.Records.{without_line_end}
use Rattle.rowfn_batches.specs.BatchAnswers.{row_among}
use Rattle.rowfn_batches.specs.Printing.{field_text}
use Rattle.rowfn_batches.specs.declared.output.Output.{Output}

-- bytes that are pushed after the others
abbrev pub Adds : Output → Output → List ℕ → Type 0
Adds old new bytes =
    (new.bytes.items ≡ old.bytes.items ++ bytes) × (new.format ≡ old.format)

module _ (format : Format) where
  -- what separates two fields
  abbrev pub separator : List ℕ
  separator = format.output_delimiter ∷ []

  -- the name of an answer in the header, behind those before it
  abbrev pub name_field : ℕ → List ℕ → List ℕ
  name_field index name = separator_before separator index ++ text_field format name

  -- names of answers as a line
  abbrev pub names_line : List (List ℕ) → List ℕ
  names_line names = joined separator (map (text_field format) names) ++ (10 ∷ [])

  -- a value as a field: null as what stands for it, any other in quotes where it needs them
  abbrev pub value_field : Value → List ℕ
  value_field v = if is_null v then format.null.now else text_field format (field_text v)

  -- the fields of a row
  abbrev pub row_fields : List ColumnView → ℕ → List (List ℕ)
  row_fields answers i = map (λ c. value_field (row c.rows i)) answers

  -- a row of the answers as a line
  abbrev pub row_line : List ColumnView → ℕ → List ℕ
  row_line answers i = joined separator (row_fields answers i) ++ (10 ∷ [])

  -- the first rows of the answers, a line each
  abbrev pub row_lines : List ColumnView → ℕ → List ℕ
  row_lines answers n = flat_map (row_line answers) (range_with_len 0 n)

  -- the first rows of the answers, each behind its row of the input without the end of its line
  abbrev pub appended_line : List (List ℕ) → Option (List ℕ) → List ColumnView → ℕ → List ℕ
  appended_line lines rows answers k =
      without_line_end (slice_index_or lines (row_among rows k) [])
      ++ (format.output_delimiter ∷ row_line answers k)

  abbrev pub appended_lines : List (List ℕ) → Option (List ℕ) → List ColumnView → ℕ → List ℕ
  appended_lines lines rows answers n =
      flat_map (appended_line lines rows answers) (range_with_len 0 n)

-- each column has so many rows, or more
abbrev pub HaveRows : ℕ → List ColumnView → Type 0
HaveRows n = All (λ c. n ≤ length c.rows)

abbrev pub is_true : Value → Bool
is_true (truth b) = b
is_true v = false

-- of texts, one for each row, those of the rows in which a column is true
abbrev pub picked_texts : ColumnView → List (List ℕ) → List ℕ
picked_texts top texts =
    flat_map (λ i. if is_true (row top.rows i) then slice_index_or texts i [] else [])
    (range_with_len 0 (length texts))

-- how many of the first rows those are
abbrev pub picked_count : ColumnView → ℕ → ℕ
picked_count top n = count_by (λ i. is_true (row top.rows i)) (range_with_len 0 n)
