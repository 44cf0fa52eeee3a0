-- The text of an index: lines of CSV.
use Rattle.std.specs.Prelude.{◌≡◌, ◌==◌, ◌||◌, ◌++◌, Bool, true, false, ℕ, List, [], ◌∷◌, length, map}
use Rattle.std.specs.Prelude.{codes, decimal, String, string_bytes, if◌then◌else◌}
use Rattle.std.specs.Global.{Global}
use Rattle.std.specs.List.{list_any, flat_map}
use Rattle.rowfn_csv.specs.Fields.{is_special, is_mistaken, quoted}
use Rattle.rowfn_index.specs.declared.entries.Entries.{Entries}
use Rattle.rowfn_index.specs.declared.head.IndexedColumn.{IndexedColumn}
use Rattle.rowfn_index.specs.declared.head.IndexHead.{IndexHead}

-- a text as a field: in quotes where it is empty, holds a quote, a comma or the end of a line, or
-- other programs take it for something else
abbrev pub text_entry : List ℕ → List ℕ
text_entry t =
    if (length t == 0) || (list_any (is_special 44) t || is_mistaken t) then quoted t else t

-- a comma after another field of the line
abbrev pub gap : Bool → List ℕ
gap true = 44 ∷ []
gap false = []

-- fields with commas between them, after another field or not
abbrev pub fields_from : Bool → List (List ℕ) → List ℕ
fields_from begun [] = []
fields_from begun (f ∷ fs) = gap begun ++ (f ++ fields_from true fs)

-- a line has a field once one is added
abbrev pub begun_after : Bool → List (List ℕ) → Bool
begun_after begun [] = begun
begun_after begun (f ∷ fs) = true

-- a line of these fields
abbrev pub line_of : List (List ℕ) → List ℕ
line_of fs = fields_from false fs ++ (10 ∷ [])

-- these fields are added to the line
pub record HasFields (before after : Entries) (fs : List (List ℕ)) : Type 0 where
  pub bytes : after.bytes.items ≡ before.bytes.items ++ fields_from before.is_begun fs
  pub begun : after.is_begun ≡ begun_after before.is_begun fs

-- the line ends
pub record IsEnded (before after : Entries) : Type 0 where
  pub bytes : after.bytes.items ≡ before.bytes.items ++ (10 ∷ [])
  pub begun : after.is_begun ≡ false

-- these fields are added to the line, and it ends
pub record HasLine (before after : Entries) (fs : List (List ℕ)) : Type 0 where
  pub bytes : after.bytes.items
      ≡ before.bytes.items ++ (fields_from before.is_begun fs ++ (10 ∷ []))
  pub begun : after.is_begun ≡ false

abbrev pub word_entry : String Global → List ℕ
word_entry w = text_entry (string_bytes w)

-- the name, the place and the type of a column
abbrev pub column_entries : IndexedColumn → List (List ℕ)
column_entries c =
    text_entry (string_bytes c.name) ∷ decimal c.place ∷ text_entry (string_bytes c.dtype) ∷ []

-- the names of what a chunk has of a column
abbrev pub name_entries : IndexedColumn → List (List ℕ)
name_entries c =
    text_entry (codes "nulls of " ++ string_bytes c.name)
    ∷ text_entry (codes "low of " ++ string_bytes c.name)
    ∷ text_entry (codes "high of " ++ string_bytes c.name) ∷ []

-- the names of what a chunk has of its own
abbrev pub fact_entries : List (List ℕ)
fact_entries =
    text_entry (codes "offset") ∷ text_entry (codes "bytes") ∷ text_entry (codes "rows")
    ∷ text_entry (codes "whole") ∷ text_entry (codes "digest") ∷ []

-- the lines of an index before its chunks
abbrev pub head_lines : IndexHead → List (List (List ℕ))
head_lines h =
    (text_entry (codes "rowfn_stream index") ∷ text_entry (codes "1") ∷ [])
    ∷ (text_entry (codes "options") ∷ map word_entry h.words.items)
    ∷ (text_entry (codes "file") ∷ decimal h.file.bytes ∷ decimal h.file.header_bytes
    ∷ decimal h.file.header_digest ∷ [])
    ∷ (text_entry (codes "columns") ∷ flat_map column_entries h.columns.items)
    ∷ (fact_entries ++ flat_map name_entries h.columns.items)
    ∷ []

abbrev pub head_text : IndexHead → List ℕ
head_text h = flat_map line_of (head_lines h)
