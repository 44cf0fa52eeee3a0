-- How a stream starts, by what its reader gives: where its columns are, and the header of its output.
-- Or the error that ends it there, before anything is written.
use Rattle.std.specs.Prelude.{◌≡◌, ◌≢◌, ◌++◌, ◌∷◌, ◌&&◌, [], ℕ, List, Bool, true, false, not}
use Rattle.std.specs.Prelude.{Option, Some, None, Result, Ok, Err, MatchBool, map, length}
use Rattle.std.specs.Prelude.{option_map, unwrap_or, if◌then◌else◌}
use Rattle.std.specs.List.{range_with_len}
use Rattle.csv.specs.Records.{fields_of}
use Rattle.csv.specs.Reading.{reader_source}
use Rattle.vortex_types.specs.LogicalTypes.{field_count}
use Rattle.vortex_types.specs.TypeOf.{struct_fields}
use Rattle.vortex_program.specs.declared.answer.Answer.{Answer}
use Rattle.rowfn_csv.specs.declared.format.Format.{Format}
use Rattle.rowfn_csv.specs.declared.records.FoundRecord.TheVariants as found
use Rattle.rowfn_csv.specs.declared.records.RecordError.TheVariants as read
use Rattle.rowfn_csv.specs.declared.records.Records.{Records}
use Rattle.rowfn_csv.specs.KeptLines.{line_of, last_bytes, is_ended}
use Rattle.rowfn_csv.specs.Reads.{ReadsOne}
use Rattle.rowfn_csv.specs.Records.{Field, SaysFields, without_line_end}
use Rattle.rowfn_batches.specs.declared.request.Request.{Request}
use Rattle.rowfn_batches.specs.declared.errors.StreamError.{StreamError}
use Rattle.rowfn_batches.specs.declared.errors.StreamError.TheVariants as end
use Rattle.rowfn_batches.specs.declared.header.Layout.{Layout}
use Rattle.rowfn_batches.specs.declared.output.Output.{Output}
use Rattle.rowfn_batches.specs.declared.settings.Settings.{Settings}
use Rattle.rowfn_batches.specs.declared.stream.Stream.{Stream}
use Rattle.rowfn_batches.specs.declared.filter.Condition.{Condition}
use Rattle.rowfn_batches.specs.Endings.{read_ending}
use Rattle.rowfn_batches.specs.Layouts.{StandAt, RefusesHeader, declared_place}
use Rattle.rowfn_batches.specs.Layouts.{AreApartFrom, IsNameTaken}
use Rattle.rowfn_batches.specs.Names.{names_of}
use Rattle.rowfn_batches.specs.Outputs.{Adds, names_line}
use Rattle.rowfn_batches.specs.ReadingBack.{RefusesReadingBack}
use Rattle.rowfn_batches.specs.Spellings.{spelled_where}

-- the records of a reader, of which none is read
pub record AreUnread {R : Type 0} (reader : R) (settings : Settings) (rows : Records R) : Type 0
  where
    pub form : rows.format ≡ settings.format
    pub bound : rows.limit ≡ settings.max_field
    pub source : (reader_source rows.reader).inner ≡ reader
    pub no_fields : fields_of rows.last ≡ []
    pub not_outgrown : rows.is_outgrown ≡ false
    pub at_start : rows.span ≡ record { start = 0; end = 0 }
    pub no_error : rows.error ≡ None

-- whether the last record ends within quotes, by the fields that its bytes say
abbrev pub EndsWithin : {R : Type 0} → Records R → Bool → Type 0
EndsWithin rows within =
    (closed : Bool) → (said : List Field) → rows.format.delimiter ≢ 34
    → SaysFields rows.format.delimiter closed (last_bytes rows) said
    → within ≡ (is_ended rows && not closed)

-- The header is read, where the input has one: whether there is a record. Or why it is not: the read
-- failed, a field is too long, or the last quote is not closed.
pub data ReadsHeader {R : Type 0} (settings : Settings) (old now : Records R)
    (result : Result Bool StreamError) : Type 0 where
  not_asked : settings.header ≡ false → now ≡ old → result ≡ Ok false
      → ReadsHeader settings old now result
  a_header : settings.header ≡ true → ReadsOne old now found.Record → now.is_outgrown ≡ false
      → EndsWithin now false → result ≡ Ok true → ReadsHeader settings old now result
  no_header : settings.header ≡ true → ReadsOne old now found.End → result ≡ Ok false
      → ReadsHeader settings old now result
  unread : (failed : Records R) → settings.header ≡ true → ReadsOne old failed found.Failed
      → result ≡ Err (read_ending (unwrap_or failed.error read.OutOfMemory))
      → ReadsHeader settings old now result
  too_long : settings.header ≡ true → ReadsOne old now found.Record → now.is_outgrown ≡ true
      → result ≡ Err (end.HeaderTooLong settings.max_field) → ReadsHeader settings old now result
  open_quote : settings.header ≡ true → ReadsOne old now found.Record → now.is_outgrown ≡ false
      → EndsWithin now true → result ≡ Err end.OpenHeader → ReadsHeader settings old now result

-- columns are where a header with those fields says
pub record AreNamed (fields : List (List ℕ)) (x : Request) (layout : Layout) : Type 0 where
  pub places :
      StandAt fields (struct_fields x.program.now.scope) x.places.now layout.places.items
  pub width : layout.width ≡ Some (length fields)

-- columns are in the order in which they are declared, but for those whose places are given; the
-- first row shows how many fields each has
pub record AreDeclared (x : Request) (layout : Layout) : Type 0 where
  pub places : layout.places.items
      ≡ map (declared_place x.places.now)
      (range_with_len 0 (field_count (struct_fields x.program.now.scope)))
  pub width : layout.width ≡ None

module _ (settings : Settings) (fields : List (List ℕ)) where
  -- columns are where the header says, if there is one
  abbrev pub HasColumns : Request → Layout → Type 0
  HasColumns x layout = MatchBool settings.header (AreNamed fields x layout) (AreDeclared x layout)

  -- the same, with the columns whose truth values are read in any spelling
  pub record IsLaidOut (x : Request) (layout : Layout) : Type 0 where
    pub columns : HasColumns x layout
    pub spelled : option_map (λ columns. columns.items) layout.spelled
        ≡ spelled_where settings.format.any_truths (struct_fields x.program.now.scope)
        layout.places.items

  -- why they are not: the header refuses one, or memory ran out
  abbrev pub RefusesLayout : Request → StreamError → Type 0
  RefusesLayout x e =
      MatchBool settings.header
      (RefusesHeader fields (struct_fields x.program.now.scope) x.places.now e)
      (e ≡ end.OutOfMemory)

  -- the condition, if there is one, has its columns so
  abbrev pub HasCondition : Option Request → Option Condition → Type 0
  HasCondition None c = c ≡ None
  HasCondition (Some x) None = ⊥
  HasCondition (Some x) (Some c) = (c.asked ≡ x) × IsLaidOut x c.layout

  abbrev pub RefusesCondition : Option Request → StreamError → Type 0
  RefusesCondition None e = ⊥
  RefusesCondition (Some x) e = RefusesLayout x e

  -- where the input's fields are written too, none has the name of an answer
  abbrev pub AreNamedApart : List Answer → Type 0
  AreNamedApart answers =
      settings.header ≡ true → settings.picks_rows ≡ false → settings.appends ≡ true
      → AreApartFrom fields answers

  -- why no header is written: an answer has the name of a field that is written too; or memory ran
  -- out
  pub data RefusesNamesBeside (answers : List Answer) (e : StreamError) : Type 0 where
    taken : settings.header ≡ true → settings.picks_rows ≡ false → settings.appends ≡ true
        → IsNameTaken fields answers e → RefusesNamesBeside answers e
    no_memory : e ≡ end.OutOfMemory → RefusesNamesBeside answers e

-- the names of the input's fields, where these are written too, without the end of the line
abbrev pub own_names : {R : Type 0} → Settings → Records R → ℕ → List ℕ
own_names settings rows delimiter =
    if settings.appends then without_line_end (line_of rows rows.span) ++ (delimiter ∷ []) else []

-- the header of the output: that of the input as it is, where rows are picked; else the names of the
-- answers, after those of the input's fields where these are written too
abbrev pub header_text : {R : Type 0} → Settings → Bool → Records R → Format → List Answer
    → List ℕ
header_text settings is_there rows format answers =
    if settings.header
    then (if settings.picks_rows then (if is_there then line_of rows rows.span else [])
    else own_names settings rows format.output_delimiter
    ++ names_line format (names_of answers))
    else []

-- it is pushed
pub record PushesHeader {R : Type 0} (settings : Settings) (is_there : Bool) (rows : Records R)
    (answers : List Answer) (old new : Output) : Type 0 where
  pub text : Adds old new (header_text settings is_there rows old.format answers)
  pub apart : AreNamedApart settings (fields_of rows.last) answers

-- the records of a reader, of which the header is read where there is one
pub record HasReadHeader {R : Type 0} (reader : R) (settings : Settings) (is_there : Bool)
    (rows : Records R) : Type 0 where
  pub none_read : Records R
  pub fresh : AreUnread reader settings none_read
  pub header : ReadsHeader settings none_read rows (Ok is_there)

-- A stream of that reader that has read the header, where there is one: its columns are where the
-- header says, and the header of the output is to be written.
pub record IsHeaded {R : Type 0} (reader : R) (settings : Settings) (x : Request)
    (condition : Option Request) (s : Stream R) : Type 0 where
  pub is_there : Bool
  pub records : HasReadHeader reader settings is_there s.records
  pub set_so : s.settings ≡ settings
  pub asked : s.asked ≡ x
  pub layout : IsLaidOut settings (fields_of s.records.last) x s.layout
  pub width : s.width ≡ s.layout.width
  pub filter : HasCondition settings (fields_of s.records.last) condition s.condition
  pub form : s.output.format ≡ settings.format
  pub text : s.output.bytes.items
      ≡ header_text settings is_there s.records settings.format x.program.now.written.items
  pub apart :
      AreNamedApart settings (fields_of s.records.last) x.program.now.written.items
  pub none_read : s.summary ≡ record { rows_read = 0; rows_written = 0 }

-- Why a stream of that reader does not start, in this order: its output would not read back, its
-- header cannot be read, a column is not in it, an answer has the name of one of its fields, or a
-- column of the condition is not in it. Memory may run out at each.
pub data DoesNotStart {R : Type 0} (reader : R) (settings : Settings) (x : Request)
    (condition : Option Request) (e : StreamError) : Type 0 where
  not_read_back : settings.picks_rows ≡ false
      → RefusesReadingBack settings.format x.program.now.written.items e
      → DoesNotStart reader settings x condition e
  at_header : (none_read now : Records R) → AreUnread reader settings none_read
      → ReadsHeader settings none_read now (Err e) → DoesNotStart reader settings x condition e
  at_column : (is_there : Bool) (rows : Records R) → HasReadHeader reader settings is_there rows
      → RefusesLayout settings (fields_of rows.last) x e
      → DoesNotStart reader settings x condition e
  at_name : (is_there : Bool) (rows : Records R) (layout : Layout)
      → HasReadHeader reader settings is_there rows
      → IsLaidOut settings (fields_of rows.last) x layout
      → RefusesNamesBeside settings (fields_of rows.last) x.program.now.written.items e
      → DoesNotStart reader settings x condition e
  at_condition : (is_there : Bool) (rows : Records R) (layout : Layout)
      → HasReadHeader reader settings is_there rows
      → IsLaidOut settings (fields_of rows.last) x layout
      → AreNamedApart settings (fields_of rows.last) x.program.now.written.items
      → RefusesCondition settings (fields_of rows.last) condition e
      → DoesNotStart reader settings x condition e
