-- Which columns texts read: some are declared, others have the types of their fields.
use Rattle.std.specs.Prelude.{◌≡◌, ◌*◌, ◌||◌, ℕ, List, Bool, Option, Some, None, is_some}
use Rattle.std.specs.Prelude.{String, codes, length, map, if◌then◌else◌}
use Rattle.std.specs.Option.{option_map}
use Rattle.std.specs.Borrow.{Bor}
use Rattle.std.specs.Str.{bytes_eq}
use Rattle.std.specs.declared.alloc.Global.{Global}
use Rattle.rowfn_csv.specs.Truths.{truth_spelled}
use Rattle.vortex_program.specs.declared.form.Form.{Form}
use Rattle.vortex_program.specs.declared.form.Form.TheVariants as form
use Rattle.rowfn_queries.specs.declared.query.Words.{Words}
use Rattle.rowfn_queries.specs.Columns.{Columns, none, is_among, with_wanted, with_all, with_texts, of_kinds}
use Rattle.rowfn_queries.specs.Columns.{typed_columns}
use Rattle.rowfn_queries.specs.DeclaredColumns.{DeclaredColumns, no_columns}
use Rattle.rowfn_queries.specs.Inference.{Field, inferred_types}
use Rattle.rowfn_queries.specs.Scopes.{Declares}

-- a truth value in letters, in any spelling, as true or false; 1 and 0 are numbers
abbrev pub lettered : List ℕ → List ℕ
lettered bs =
    if bytes_eq bs (codes "1") || bytes_eq bs (codes "0") then bs else truth_spelled bs

abbrev pub fields_seen : Bool → List Field → List Field
fields_seen any fs = if any then map (option_map lettered) fs else fs

-- columns of a header have the types and kinds that the rule gives the fields of rows
pub record AreInferred (columns : Columns) : Type 0 where
  pub names : List (List ℕ)
  pub fields : List Field
  pub rows : ℕ
  pub even : length fields ≡ length names * rows
  pub typed : columns ≡ typed_columns names (inferred_types fields (length names) rows)

-- the columns that a text declares, none where there is none
abbrev pub DeclaredBy : Option (Bor (List ℕ)) → DeclaredColumns → Type 0
DeclaredBy None columns = columns ≡ no_columns
DeclaredBy (Some text) columns = Declares text.now columns

-- some columns are declared, others have the types of their fields
module _ (declared inferred : Columns) where
  -- all that are declared, and those that are named
  abbrev pub all_read : List (List ℕ) → Columns
  all_read names = with_wanted (is_among names) inferred (with_all declared none)

  -- those that are named
  abbrev pub named_read : List (List ℕ) → Columns
  named_read names =
      with_wanted (is_among names) inferred (with_wanted (is_among names) declared none)

  -- a condition reads all that are declared; so do answers, but for those next to a condition
  abbrev pub columns_named : Words → Form → List (List ℕ) → Columns
  columns_named words form.Condition names = all_read names
  columns_named words form.Answers names =
      if is_some words.condition then named_read names else all_read names

  abbrev pub columns_read : Words → Form → List (List ℕ) → Columns
  columns_read words f names = of_kinds (columns_named words f names)

-- columns as they are declared, or, where words are refused over those, with all others of a header
pub data IsWidened (declared inferred wide : Columns) : Type 0 where
  as_declared : wide ≡ declared → IsWidened declared inferred wide
  by_header : (names : List (String Global))
      → wide ≡ with_texts names (with_all inferred (with_all declared none))
      → IsWidened declared inferred wide
