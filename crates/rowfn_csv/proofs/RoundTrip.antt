-- What is written of cells says those cells.
use Rattle.std.proofs.Common.{◌≡◌, ◌≢◌, Bool, true, false, ℕ, List, [], ◌∷◌, ◌++◌, ◌==◌, ◌||◌}
use Rattle.std.proofs.Common.{◌&&◌, not}
use Rattle.std.proofs.Common.{refl, sym, ap, ap₂, ◌∙◌, subst, if◌then◌else◌, map, append-nil}
use Rattle.std.proofs.Common.{length, inl, inr, Option, Some, None, arith}
use Rattle.std.specs.List.{list_any}
use Rattle.std.specs.Str.{bytes_eq}
use Rattle.std.proofs.lemmas.Bool.Decides.{eqb_tells}
use Rattle.std.proofs.lemmas.Slice.Eq.{bytes_eq-Decides}
use Rattle.rowfn_csv.specs.declared.format.Format.{Format}
use Rattle.rowfn_csv.specs.Batches.{field_said}
use Rattle.rowfn_csv.specs.Formats.{is_null_text, is_null_field, is_comment_line}
use Rattle.rowfn_csv.specs.Fields.{is_special, is_mistaken, needs_quotes, quoted}
use Rattle.rowfn_csv.specs.Records.{Field, bare, in_quotes, Lacks, BeginsBare, Spells, SaysFields}
use Rattle.rowfn_csv.specs.RoundTrip.{cell_field, cell_said, cell_read, cells_line, fields_line, StandsInLine}
use Rattle.rowfn_csv.specs.RoundTrip.{AllStandInLine, MayBeNull, CanReadBack, CellsReadBack}

-- neither of two is true where one of them is not
neither : (a b : Bool) → (a || b) ≡ false → (a ≡ false) × (b ≡ false)
neither false b e = (refl, e)
neither true b e = absurd (cc e)

is_other : (a b : ℕ) → (a == b) ≡ false → a ≢ b
is_other a b e =
    elim (eqb_tells a b) [
      | inl h ↦ absurd (cc (sym e ∙ h.0))
      | inr h ↦ h.1
    ]

same_bytes : (text : List ℕ) → bytes_eq text text ≡ true
same_bytes text = by_cases (bytes_eq text text) refl
  where
    by_cases : (b : Bool) → bytes_eq text text ≡ b → bytes_eq text text ≡ true
    by_cases true e = e
    by_cases false e = grind (arith, bytes_eq-Decides text text)

module _ (format : Format) where
  abbrev d : ℕ
  d = format.output_delimiter

  abbrev null : List ℕ
  null = format.null.now

  -- what a byte is not that asks for no quotes
  record IsPlain (b : ℕ) : Type 0 where
    no_quote : b ≢ 34
    no_delimiter : b ≢ d
    no_feed : b ≢ 10
    no_return : b ≢ 13

  is_plain : (b : ℕ) → is_special d b ≡ false → IsPlain b
  is_plain b e =
      let first = neither (b == 34) ((b == d) || ((b == 10) || (b == 13))) e in
      let second = neither (b == d) ((b == 10) || (b == 13)) first.1 in
      let third = neither (b == 10) (b == 13) second.1 in
      record {
        no_quote = is_other b 34 first.0;
        no_delimiter = is_other b d second.0;
        no_feed = is_other b 10 third.0;
        no_return = is_other b 13 third.1;
      }

  -- a text of such bytes
  plain_lacks : (c : ℕ) → ((b : ℕ) → IsPlain b → b ≢ c) → (text : List ℕ)
      → list_any (is_special d) text ≡ false → Lacks c text
  plain_lacks c h [] e = tt
  plain_lacks c h (b ∷ bs) e =
      let both = neither (is_special d b) (list_any (is_special d) bs) e in
      (h b (is_plain b both.0), plain_lacks c h bs both.1)

  begins_bare : (text : List ℕ) → list_any (is_special d) text ≡ false → BeginsBare text
  begins_bare [] e = tt
  begins_bare (b ∷ bs) e =
      (is_plain b (neither (is_special d b) (list_any (is_special d) bs) e).0).no_quote

  abbrev text_by : Bool → List ℕ → Field
  text_by quotes text = if quotes then in_quotes text else bare text

  abbrev field_of : Option (List ℕ) → Field
  field_of None = bare null
  field_of (Some text) = text_by (needs_quotes format text) text

  -- what a text is not that needs no quotes
  record NeedsNone (text : List ℕ) : Type 0 where
    plain : list_any (is_special d) text ≡ false
    no_null : is_null_text format text ≡ false
    no_comment : is_comment_line format.comment text ≡ false

  no_quotes : (text : List ℕ) → needs_quotes format text ≡ false → NeedsNone text
  no_quotes text e =
      let mistaken : Bool = is_mistaken text in
      let comment : Bool = is_comment_line format.comment text in
      let null_text : Bool = is_null_text format text in
      let special : Bool = list_any (is_special d) text in
      let first = neither (length text == 0) (special || (null_text || (comment || mistaken))) e in
      let second = neither special (null_text || (comment || mistaken)) first.1 in
      let third = neither null_text (comment || mistaken) second.1 in
      record {
        plain = second.0;
        no_null = third.0;
        no_comment = (neither comment mistaken third.1).0;
      }

  text_spelled : (quotes : Bool) (text : List ℕ) → needs_quotes format text ≡ quotes
      → Spells d true (text_by quotes text) (if quotes then quoted text else text)
  text_spelled true text e =
      (text, [], sym (append-nil text), sym (append-nil (quoted text)), tt, tt)
  text_spelled false text e =
      let plain = (no_quotes text e).plain in
      (refl, refl, plain_lacks d (λ b h. h.no_delimiter) text plain, begins_bare text plain)

  -- a text that is none for null is no null, whatever quotes are around it
  no_null_field : (text : List ℕ) (is_quoted : Bool) → is_null_text format text ≡ false
      → field_said text (is_null_field format text is_quoted) ≡ Some text
  no_null_field text is_quoted e =
      ap (λ (b : Bool). field_said text (b && (format.quoted_nulls || not is_quoted))) e

  token_text : (quotes : Bool) (text : List ℕ) → needs_quotes format text ≡ quotes
      → cell_said format (text_by quotes text) ≡ cell_read format (Some text)
  token_text true text e = refl
  token_text false text e =
      let no_null = (no_quotes text e).no_null in
      no_null_field text false no_null ∙ sym (no_null_field text true no_null)

  text_in_line : (quotes : Bool) (text : List ℕ) → needs_quotes format text ≡ quotes
      → StandsInLine (text_by quotes text)
  text_in_line true text e = tt
  text_in_line false text e =
      let plain = (no_quotes text e).plain in (
        plain_lacks 10 (λ b h. h.no_feed) text plain,
        plain_lacks 13 (λ b h. h.no_return) text plain,
      )

  module _ (may : MayBeNull format) where
    spelled : (c : Option (List ℕ)) → Spells d true (field_of c) (cell_field format c)
    spelled None = (refl, refl, may.whole, may.begins)
    spelled (Some text) = text_spelled (needs_quotes format text) text refl

    null_said : is_null_text format null ≡ true
    null_said =
        let more : Bool = list_any (λ other. bytes_eq null other.now) format.more_nulls.now in
        ap (λ (b : Bool). b || more) (same_bytes null)

    bare_null : (in_quotes_too : Bool) → field_said null (true && (in_quotes_too || true)) ≡ None
    bare_null true = refl
    bare_null false = refl

    said : (c : Option (List ℕ)) → cell_said format (field_of c) ≡ cell_read format c
    said None =
        ap (λ (b : Bool). field_said null (b && (format.quoted_nulls || true))) null_said
        ∙ bare_null format.quoted_nulls
    said (Some text) = token_text (needs_quotes format text) text refl

    in_line : (c : Option (List ℕ)) → StandsInLine (field_of c)
    in_line None = may.lines
    in_line (Some text) = text_in_line (needs_quotes format text) text refl

    line_says : (c : Option (List ℕ)) (cs : List (Option (List ℕ)))
        → SaysFields d true (fields_line d (map (cell_field format) (c ∷ cs)))
        (map field_of (c ∷ cs))
    line_says c [] =
        subst (λ (bytes : List ℕ). Spells d true (field_of c) bytes)
        (sym (append-nil (cell_field format c))) (spelled c)
    line_says c (e ∷ cs) = (
      cell_field format c,
      fields_line d (map (cell_field format) (e ∷ cs)),
      refl,
      spelled c,
      line_says e cs,
    )

    all_said : (cs : List (Option (List ℕ)))
        → map (cell_said format) (map field_of cs) ≡ map (cell_read format) cs
    all_said [] = refl
    all_said (c ∷ cs) =
        ap₂ (λ (x : Option (List ℕ)) (xs : List (Option (List ℕ))). x ∷ xs) (said c) (all_said cs)

    all_in_line : (cs : List (Option (List ℕ))) → AllStandInLine (map field_of cs)
    all_in_line [] = tt
    all_in_line (c ∷ cs) = (in_line c, all_in_line cs)

  module _ (can : CanReadBack format) where
    -- a field with a delimiter, or nothing, after it
    no_comment_on : (field rest : List ℕ) → is_comment_line format.comment field ≡ false
        → is_comment_line format.comment (field ++ (d ∷ rest)) ≡ false
    no_comment_on [] rest e = can.delimiter_begins_none
    no_comment_on (b ∷ bs) rest e = e

    text_no_comment : (quotes : Bool) (text : List ℕ) → needs_quotes format text ≡ quotes
        → is_comment_line format.comment (if quotes then quoted text else text) ≡ false
    text_no_comment true text e = can.quote_begins_none
    text_no_comment false text e = (no_quotes text e).no_comment

    cell_no_comment : (c : Option (List ℕ))
        → is_comment_line format.comment (cell_field format c) ≡ false
    cell_no_comment None = can.null.no_comment
    cell_no_comment (Some text) = text_no_comment (needs_quotes format text) text refl

    line_no_comment : (c : Option (List ℕ)) (cs : List (Option (List ℕ)))
        → is_comment_line format.comment (cells_line format (c ∷ cs)) ≡ false
    line_no_comment c [] =
        ap (is_comment_line format.comment) (append-nil (cell_field format c)) ∙ cell_no_comment c
    line_no_comment c (e ∷ cs) =
        no_comment_on (cell_field format c) (cells_line format (e ∷ cs)) (cell_no_comment c)

pub cells_read_back : CellsReadBack
cells_read_back format [] can some = absurd (some refl)
cells_read_back format (c ∷ cs) can some =
    record {
      fields = map (field_of format) (c ∷ cs);
      said = line_says format can.null c cs;
      in_line = all_in_line format can.null (c ∷ cs);
      cells_said = all_said format can.null (c ∷ cs);
      no_comment = line_no_comment format can c cs;
    }
