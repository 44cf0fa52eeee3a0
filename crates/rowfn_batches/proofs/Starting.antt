-- What a stream starts with.
use Rattle.std.proofs.Common.{◌≡◌, ◌∙◌, ◌++◌, [], ℕ, List, Bool, true, false, Some, None}
use Rattle.std.proofs.Common.{Result, Ok, Err, refl, sym, ap, ap₂, append_assoc, append-nil, length}
use Rattle.std.proofs.Common.{option_map, if◌then◌else◌}
use Rattle.std.specs.Prelude.{MatchBool, MatchResult, IfOk, IfErr}
use Rattle.csv.specs.Records.{fields_of, Row}
use Rattle.csv.specs.Reading.{reader_source}
use Rattle.vortex_types.specs.LogicalTypes.{field_count}
use Rattle.vortex_types.specs.TypeOf.{struct_fields}
use Rattle.vortex_program.specs.declared.answer.Answer.{Answer}
use Rattle.rowfn_csv.specs.declared.format.Format.{Format}
use Rattle.rowfn_csv.specs.declared.records.Records.{Records}
use Rattle.rowfn_csv.specs.KeptLines.{line_of}
use Rattle.rowfn_batches.specs.declared.request.Request.{Request}
use Rattle.rowfn_batches.specs.declared.errors.StreamError.{StreamError}
use Rattle.rowfn_batches.specs.declared.errors.StreamError.TheVariants as end
use Rattle.rowfn_batches.specs.declared.header.Layout.{Layout}
use Rattle.rowfn_batches.specs.declared.output.Output.{Output}
use Rattle.rowfn_batches.specs.declared.settings.Settings.{Settings}
use Rattle.rowfn_batches.specs.Layouts.{StandAt, RefusesHeader, without_memory, AreApartFrom}
use Rattle.rowfn_batches.specs.Layouts.{IsNameTaken}
use Rattle.rowfn_batches.specs.Names.{names_of}
use Rattle.rowfn_batches.specs.Outputs.{Adds, names_line}
use Rattle.rowfn_batches.specs.Spellings.{spelled_where}
use Rattle.rowfn_batches.specs.Starts.{AreNamed, AreDeclared, HasColumns, IsLaidOut, RefusesLayout}
use Rattle.rowfn_batches.specs.Starts.{own_names, PushesHeader, AreUnread, ReadsHeader}
use Rattle.rowfn_batches.specs.Starts.{HasReadHeader}
use Rattle.rowfn_batches.proofs.Layouts.{same_places, refused_header}

module _ (settings : Settings) (fields : List (List ℕ)) (x : Request) where
  -- memory ran out
  pub refuses_by_memory : RefusesLayout settings fields x end.OutOfMemory
  refuses_by_memory = go settings.header
    where
      go : (b : Bool) → MatchBool b
          (RefusesHeader fields (struct_fields x.program.now.scope) x.places.now end.OutOfMemory)
          (end.OutOfMemory ≡ end.OutOfMemory)
      go true = without_memory refl
      go false = refl

  -- places and a width that are those of a layout
  pub has_columns : (was now : Layout) → HasColumns settings fields x was
      → now.places ≡ was.places → now.width ≡ was.width → HasColumns settings fields x now
  has_columns was now h placed wide = go settings.header h
    where
      go : (b : Bool) → MatchBool b (AreNamed fields x was) (AreDeclared x was)
          → MatchBool b (AreNamed fields x now) (AreDeclared x now)
      go true k =
          record {
            places = rw placed k.places;
            width = wide ∙ k.width;
          }
      go false k =
          record {
            places = ap (λ ps. ps.items) placed ∙ k.places;
            width = wide ∙ k.width;
          }

  -- the layout is the one that the places of the columns make
  pub further : (r : Result Layout StreamError)
      → MatchResult r (IsLaidOut settings fields x) (RefusesLayout settings fields x)
      → (places : List ℕ) → settings.header ≡ true
      → StandAt fields (struct_fields x.program.now.scope) x.places.now places
      → MatchResult r (λ layout. layout.places.items ≡ places) (λ e. e ≡ end.OutOfMemory)
  further (Ok layout) h places header at = go settings.header header h.columns
    where
      go : (b : Bool) → b ≡ true → MatchBool b (AreNamed fields x layout) (AreDeclared x layout)
          → layout.places.items ≡ places
      go true is k = same_places fields (struct_fields x.program.now.scope) x.places.now
          (field_count (struct_fields x.program.now.scope)) layout.places.items places k.places at
      go false is k = cc is
  further (Err e) h places header at = go settings.header header h
    where
      go : (b : Bool) → b ≡ true → MatchBool b
          (RefusesHeader fields (struct_fields x.program.now.scope) x.places.now e)
          (e ≡ end.OutOfMemory) → e ≡ end.OutOfMemory
      go true is k =
          refused_header fields (struct_fields x.program.now.scope) x.places.now places e at k
      go false is k = k

  -- the columns of a header
  pub named : settings.header ≡ true → (r : Result Layout StreamError)
      → IfOk r (λ layout. StandAt fields (struct_fields x.program.now.scope) x.places.now
      layout.places.items)
      → IfOk r (λ layout. layout.width ≡ Some (length fields))
      → IfErr r (RefusesHeader fields (struct_fields x.program.now.scope) x.places.now)
      → MatchResult r (HasColumns settings fields x) (RefusesLayout settings fields x)
  named on (Ok layout) at wide refused = go settings.header on
    where
      go : (b : Bool) → b ≡ true → MatchBool b (AreNamed fields x layout) (AreDeclared x layout)
      go true is = record { places = at; width = wide }
      go false is = absurd (cc is)
  named on (Err e) at wide refused = go settings.header on
    where
      go : (b : Bool) → b ≡ true → MatchBool b
          (RefusesHeader fields (struct_fields x.program.now.scope) x.places.now e)
          (e ≡ end.OutOfMemory)
      go true is = refused
      go false is = absurd (cc is)

  -- those of an input without a header
  pub declared : settings.header ≡ false → (layout : Layout) → AreDeclared x layout
      → HasColumns settings fields x layout
  declared off layout h = go settings.header off
    where
      go : (b : Bool) → b ≡ false → MatchBool b (AreNamed fields x layout) (AreDeclared x layout)
      go true is = absurd (cc is)
      go false is = h

  -- a layout with the columns whose truth values are read in any spelling
  pub laid_out : (was now : Layout) → HasColumns settings fields x was
      → (now.places ≡ was.places) × (now.width ≡ was.width)
      × (option_map (λ columns. columns.items) now.spelled
      ≡ spelled_where settings.format.any_truths (struct_fields x.program.now.scope)
      was.places.items)
      → IsLaidOut settings fields x now
  laid_out was now h (placed, wide, spelled) =
      record {
        columns = has_columns was now h placed wide;
        spelled =
            spelled
            ∙ ap (λ ps. spelled_where settings.format.any_truths
            (struct_fields x.program.now.scope) ps.items) (sym placed);
      }

-- the header of the output, where there is none, where rows are picked, and else
module _ {R : Type 0} (settings : Settings) (is_there : Bool) (rows : Records R)
    (answers : List Answer) (old : Output) where
  abbrev picked : List ℕ
  picked = if is_there then line_of rows rows.span else []

  abbrev names : List ℕ
  names =
      own_names settings rows old.format.output_delimiter
      ++ names_line old.format (names_of answers)

  abbrev text_by : Bool → Bool → List ℕ
  text_by header picks = if header then (if picks then picked else names) else []

  pub pushes_none : settings.header ≡ false
      → PushesHeader settings is_there rows answers old old
  pushes_none off =
      record {
        text = (
          sym (append-nil old.bytes.items)
              ∙ ap (λ (b : Bool). old.bytes.items ++ text_by b settings.picks_rows) (sym off),
          refl,
        );
        apart = λ on picks appends. absurd (cc (sym off ∙ on));
      }

  pub pushes_picked : (new : Output) → settings.header ≡ true → settings.picks_rows ≡ true
      → Adds old new picked → PushesHeader settings is_there rows answers old new
  pushes_picked new on picks added =
      record {
        text = (
          added.0
              ∙ ap₂ (λ (h p : Bool). old.bytes.items ++ text_by h p) (sym on) (sym picks),
          added.1,
        );
        apart = λ header unpicked appends. absurd (cc (sym picks ∙ unpicked));
      }

  pub pushes_names : (put new : Output) → settings.header ≡ true → settings.picks_rows ≡ false
      → (settings.appends ≡ true → AreApartFrom (fields_of rows.last) answers)
      → Adds old put (own_names settings rows old.format.output_delimiter)
      → Adds put new (names_line put.format (names_of answers))
      → PushesHeader settings is_there rows answers old new
  pushes_names put new on unpicked apart own named =
      record {
        text = (
          named.0
              ∙ ap₂ (λ (bs : List ℕ) (f : Format). bs ++ names_line f (names_of answers)) own.0
              own.1
              ∙ append_assoc old.bytes.items
              (own_names settings rows old.format.output_delimiter)
              (names_line old.format (names_of answers))
              ∙ ap₂ (λ (h p : Bool). old.bytes.items ++ text_by h p) (sym on) (sym unpicked),
          named.1 ∙ own.1,
        );
        apart = λ header picks appends. apart appends;
      }

-- the records of a reader before a read, and with its header
module _ {R : Type 0} (reader : R) (settings : Settings) (rows : Records R) where
  pub fresh : (rows.format ≡ settings.format) × (rows.limit ≡ settings.max_field)
      → (reader_source rows.reader).inner ≡ reader
      → (fields_of rows.last ≡ []) × (rows.is_outgrown ≡ false)
      × (rows.span ≡ record { start = 0; end = 0 }) × (rows.error ≡ None)
      → AreUnread reader settings rows
  fresh (form, bound) source (no_fields, not_outgrown, at_start, no_error) =
      record {
        form = form;
        bound = bound;
        source = source;
        no_fields = no_fields;
        not_outgrown = not_outgrown;
        at_start = at_start;
        no_error = no_error;
      }

  pub has_read : (is_there : Bool) (now : Records R) → AreUnread reader settings rows
      → ReadsHeader settings rows now (Ok is_there) → HasReadHeader reader settings is_there now
  has_read is_there now new header =
      record { none_read = rows; fresh = new; header = header }

-- answers that were compared with the fields that are written too
pub beside : (settings : Settings) (answers : List Answer) (header : Row)
    (r : Result (Unit {0}) StreamError) → settings.appends ≡ true
    → MatchResult r (λ _. AreApartFrom (fields_of header) answers)
    (IsNameTaken (fields_of header) answers)
    → MatchResult r (λ _. settings.appends ≡ true → AreApartFrom (fields_of header) answers)
    (λ e. (settings.appends ≡ true) × IsNameTaken (fields_of header) answers e)
beside settings answers header (Ok u) on h = λ _. h
beside settings answers header (Err e) on h = (on, h)
