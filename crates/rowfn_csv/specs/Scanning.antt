-- How the bytes of a record are gone over, one at a time.
use Rattle.std.specs.Prelude.{◌≡◌, ◌≢◌, Bool, true, false, ◌==◌, ℕ, List, if◌then◌else◌, get_or}
use Rattle.rowfn_csv.specs.Records.{Field, SaysFields, quoted_at, without_line_end}
use Rattle.rowfn_csv.specs.declared.raw.Quotes.{Quotes}
use Rattle.rowfn_csv.specs.declared.raw.RecordPlace.{RecordPlace}
use Rattle.rowfn_csv.specs.declared.raw.RecordPlace.TheVariants as at

-- where the byte behind one stands
abbrev pub place_behind : ℕ → RecordPlace → ℕ → RecordPlace
place_behind delimiter at.Quoted b = if b == 34 then at.Closed else at.Quoted
place_behind delimiter at.Plain b = if b == delimiter then at.Start else at.Plain
place_behind delimiter at.Start b =
    if b == delimiter then at.Start else (if b == 34 then at.Quoted else at.Plain)
place_behind delimiter at.Closed b =
    if b == delimiter then at.Start else (if b == 34 then at.Quoted else at.Plain)

-- marks of the fields that bytes say: whether each stands in quotes; no mark is none
abbrev pub AreMarks : ℕ → List ℕ → List Bool → Type 0
AreMarks delimiter bytes marks =
    (closed : Bool) → (said : List Field) → delimiter ≢ 34 → SaysFields delimiter closed bytes said
    → (i : ℕ) → get_or marks i false ≡ quoted_at said i

-- what is marked are the marks of a line
abbrev pub Knows : ℕ → List ℕ → Quotes → Type 0
Knows delimiter line quotes =
    quotes.is_marked ≡ true → AreMarks delimiter (without_line_end line) quotes.marks.items
