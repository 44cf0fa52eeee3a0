-- One more name or value of a row that is put down.
use Rattle.std.proofs.Common.{◌≡◌, ℕ, ◌+◌, ◌<◌, ◌≤◌, List, [], ◌∷◌, ◌++◌, length, take, get_or}
use Rattle.std.proofs.Common.{ap, sym, ◌∙◌, arith, append_assoc, map, refl, string_bytes, drop, ap₂}
use Rattle.std.specs.Prelude.{OnOk, Result, Ok, Err}
use Rattle.std.specs.declared.alloc.AllocError.{AllocError}
use Rattle.std.proofs.lemmas.List.{get_or-map, length-map, take_all, take-append-le, drop_at}
use Rattle.vortex_columns.specs.ColumnView.{ColumnView, row}
use Rattle.vortex_interface.specs.CallTexts.{joined, separator_before}
use Rattle.vortex_types.proofs.JoinedTexts.{joined_more}
use Rattle.rowfn_csv.specs.Fields.{text_field}
use Rattle.rowfn_csv.specs.declared.format.Format.{Format}
use Rattle.rowfn_batches.specs.declared.output.Output.{Output}
use Rattle.rowfn_csv.specs.Records.{without_line_end}
use Rattle.vortex_program.specs.declared.answer.Answer.{Answer}
use Rattle.rowfn_batches.specs.Names.{names_of}
use Rattle.rowfn_batches.specs.Outputs.{Adds, name_field, value_field, row_fields, row_line}
use Rattle.rowfn_batches.specs.Outputs.{names_line}

-- the first values of a row stand behind what stood there before, in the same format
abbrev pub HasFirst : Output → Output → List ColumnView → ℕ → ℕ → Type 0
HasFirst old now answers place k =
    (now.format ≡ old.format)
    × (now.bytes.items ≡ old.bytes.items ++ joined (old.format.output_delimiter ∷ [])
    (take k (row_fields old.format answers place)))

-- a turn of a loop over answers
pub next_value : (old now more last : Output) (answers : List ColumnView) (place k : ℕ)
    (c : ColumnView) → k < length answers → c ≡ get_or answers k c
    → HasFirst old now answers place k
    → Adds now more (separator_before (now.format.output_delimiter ∷ []) k)
    → Adds more last
    (value_field more.format (row c.rows place))
    → HasFirst old last answers place (k + 1)
next_value old now more last answers place k c h is before parted added = (
  added.1 ∙ same,
  joined_more (old.format.output_delimiter ∷ [])
      (row_fields old.format answers place) k (field c)
      old.bytes.items now.bytes.items more.bytes.items last.bytes.items
      (omega (arith, h, length-map answers field))
      (sym (get_or-map field answers k c (field c) h ∙ ap field (sym is))) before.1
      (parted.0
      ∙ ap (λ (f : Format). now.bytes.items ++ separator_before (f.output_delimiter ∷ []) k) before.0)
      (added.0
      ∙ ap (λ (f : Format). more.bytes.items
      ++ value_field f (row c.rows place)) same),
)
  where
    same : more.format ≡ old.format
    same = parted.1 ∙ before.0

    field : ColumnView → List ℕ
    field v = value_field old.format (row v.rows place)

-- a name behind what parts it from those before it
pub name_added : (old parted new : Output) (index : ℕ) (name : List ℕ)
    (r : Result (Unit {0}) AllocError)
    → Adds old parted (separator_before (old.format.output_delimiter ∷ []) index)
    → OnOk r (Adds parted new (text_field parted.format name))
    → OnOk r (Adds old new (name_field old.format index name))
name_added old parted new index name (Err e) before added = added
name_added old parted new index name (Ok u) before added =
    let field = text_field old.format name in (
      added.0
          ∙ ap (λ (f : Format). parted.bytes.items ++ text_field f name)
          before.1
          ∙ ap (λ bs. bs ++ field) before.0
          ∙ append_assoc old.bytes.items (separator_before (old.format.output_delimiter ∷ []) index) field,
      added.1 ∙ before.1,
    )

-- a row of the answers behind a line without its end
pub behind_line : (old put parted new : Output) (line bare : List ℕ) (answers : List ColumnView)
    (place : ℕ) (r : Result (Unit {0}) AllocError) → bare ≡ without_line_end line
    → Adds old put bare → Adds put parted (put.format.output_delimiter ∷ [])
    → OnOk r (Adds parted new
    (row_line parted.format answers place))
    → OnOk r (Adds old new (without_line_end line ++ (old.format.output_delimiter
    ∷ row_line old.format answers place)))
behind_line old put parted new line bare answers place (Err e) is first second third = third
behind_line old put parted new line bare answers place (Ok u) is first second third =
    let row = row_line old.format answers place in
    let same : parted.format ≡ old.format = second.1 ∙ first.1 in (
      third.0
          ∙ ap (λ (f : Format). parted.bytes.items
          ++ row_line f answers place) same
          ∙ ap (λ bs. bs ++ row)
          (second.0
          ∙ ap (λ (f : Format). put.bytes.items ++ (f.output_delimiter ∷ [])) first.1
          ∙ ap (λ bs. bs ++ (old.format.output_delimiter ∷ []))
          (first.0 ∙ ap (λ bs. old.bytes.items ++ bs) is))
          ∙ append_assoc (old.bytes.items ++ without_line_end line) (old.format.output_delimiter ∷ []) row
          ∙ append_assoc old.bytes.items (without_line_end line) (old.format.output_delimiter ∷ row),
      third.1 ∙ same,
    )

-- the first names stand behind what stood there before, in the same format
abbrev pub HasNames : Output → Output → List (List ℕ) → ℕ → Type 0
HasNames old now names k =
    (now.format ≡ old.format)
    × (now.bytes.items ≡ old.bytes.items ++ joined (old.format.output_delimiter ∷ [])
    (take k (map (text_field old.format) names)))

-- a turn of a loop over answers whose names are added
pub next_name : (old now last : Output) (answers : List Answer) (k : ℕ) (a : Answer)
    (name : List ℕ) → k < length answers → a ≡ get_or answers k a → name ≡ string_bytes a.name
    → HasNames old now (names_of answers) k
    → Adds now last (name_field now.format k name)
    → HasNames old last (names_of answers) (k + 1)
next_name old now last answers k a name h is named before added = (
  added.1 ∙ before.0,
  joined_more sep (map field (names_of answers)) k (field (name_in a)) old.bytes.items
      now.bytes.items (now.bytes.items ++ separator_before sep k) last.bytes.items
      (omega (arith, h, length-map (names_of answers) field, length-map answers name_in))
      (sym (get_or-map field (names_of answers) k (name_in a) (field (name_in a))
      (omega (arith, h, length-map answers name_in))
      ∙ ap field (get_or-map name_in answers k a (name_in a) h ∙ ap name_in (sym is))))
      before.1 refl
      (added.0
      ∙ ap (λ (f : Format). now.bytes.items ++ name_field f k name) before.0
      ∙ ap (λ (n : List ℕ). now.bytes.items ++ (separator_before sep k ++ field n)) named
      ∙ sym (append_assoc now.bytes.items (separator_before sep k) (field (name_in a)))),
)
  where
    sep : List ℕ
    sep = old.format.output_delimiter ∷ []

    field : List ℕ → List ℕ
    field text = text_field old.format text

    name_in : Answer → List ℕ
    name_in b = string_bytes b.name

-- the end of their line
pub names_ended : (old now last : Output) (names : List (List ℕ)) (k : ℕ)
    (r : Result (Unit {0}) AllocError) → length names ≤ k → HasNames old now names k
    → OnOk r (Adds now last (10 ∷ []))
    → OnOk r (Adds old last (names_line old.format names))
names_ended old now last names k (Err e) all before added = added
names_ended old now last names k (Ok u) all before added =
    let fields = map (text_field old.format) names in
    let whole = take_all k fields (omega (
      arith,
      all,
      length-map names (text_field old.format),
    )) in (
      added.0
          ∙ ap (λ bs. bs ++ 10 ∷ [])
          (before.1
          ∙ ap (λ (ts : List (List ℕ)). old.bytes.items ++ joined (old.format.output_delimiter ∷ []) ts)
          whole)
          ∙ append_assoc old.bytes.items (joined (old.format.output_delimiter ∷ []) fields) (10 ∷ []),
      added.1 ∙ before.0,
    )

-- a text that is put after the others and made a field there
pub text_added : (old new : Output) (start : ℕ) (mid text : List ℕ)
    (r : Result (Unit {0}) AllocError) → start ≡ length old.bytes.items
    → mid ≡ old.bytes.items ++ text
    → OnOk r (new.bytes.items ≡ take start mid ++ text_field old.format (drop start mid))
    → new.format ≡ old.format → OnOk r (Adds old new (text_field old.format text))
text_added old new start mid text (Err e) is put h same = h
text_added old new start mid text (Ok u) is put h same =
    let kept : take start mid ≡ old.bytes.items =
    ap (λ (m : List ℕ). take start m) put
    ∙ take-append-le start old.bytes.items text (omega (arith, is))
    ∙ take_all start old.bytes.items (omega (arith, is)) in
    let added : drop start mid ≡ text =
    ap (λ (m : List ℕ). drop start m) put ∙ drop_at old.bytes.items text start (sym is) in (
      h ∙ ap₂ (λ (a b : List ℕ). a ++ text_field old.format b) kept added,
      same,
    )
