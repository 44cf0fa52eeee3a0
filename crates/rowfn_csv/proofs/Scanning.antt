-- What going over the bytes of a record tells of the fields that they say.
use Rattle.std.proofs.Common.{◌≡◌, ◌≢◌, Bool, true, false, ℕ, List, [], ◌∷◌, ◌++◌, ◌==◌}
use Rattle.std.proofs.Common.{refl, sym, ap, ◌∙◌, append_assoc, if◌then◌else◌, inl, inr}
use Rattle.std.proofs.Common.{map, append-nil, zero, suc, length, ◌<◌, slice_index, get_or, arith}
use Rattle.memchr.specs.Find.{is_byte}
use Rattle.std.specs.Bool.{⊤}
use Rattle.std.specs.List.{flat_map}
use Rattle.std.proofs.lemmas.Bool.{ne_eqb}
use Rattle.std.proofs.lemmas.Bool.Decides.{eqb_tells}
use Rattle.rowfn_csv.specs.declared.raw.RecordPlace.{RecordPlace}
use Rattle.rowfn_csv.specs.declared.raw.RecordPlace.TheVariants as at
use Rattle.rowfn_csv.specs.Fields.{doubled}
use Rattle.rowfn_csv.specs.Records.{Field, bare, in_quotes, Lacks, BeginsBare, Spells, SaysFields}
use Rattle.rowfn_csv.specs.Records.{is_quoted}
use Rattle.rowfn_csv.specs.Scanning.{place_behind}

same_byte : (d : ℕ) → (d == d) ≡ true
same_byte d = elim (eqb_tells d d) [ inl h ↦ h.0 | inr h ↦ absurd (h.1 refl) ]

-- the place behind a delimiter, behind other bytes, and behind quotes
at_delimiter : (d : ℕ) (p : RecordPlace) → p ≢ at.Quoted → place_behind d p d ≡ at.Start
at_delimiter d at.Start q = rw (same_byte d) refl
at_delimiter d at.Plain q = rw (same_byte d) refl
at_delimiter d at.Closed q = rw (same_byte d) refl
at_delimiter d at.Quoted q = absurd (q refl)

at_plain : (d b : ℕ) → b ≢ d → place_behind d at.Plain b ≡ at.Plain
at_plain d b h = rw (ne_eqb b d h) refl

at_bare : (d b : ℕ) (p : RecordPlace) → p ≢ at.Quoted → b ≢ d → b ≢ 34 → place_behind d p b ≡ at.Plain
at_bare d b at.Start q h g = rw (ne_eqb b d h, ne_eqb b 34 g) refl
at_bare d b at.Plain q h g = rw (ne_eqb b d h) refl
at_bare d b at.Closed q h g = rw (ne_eqb b d h, ne_eqb b 34 g) refl
at_bare d b at.Quoted q h g = absurd (q refl)

in_text : (d b : ℕ) → b ≢ 34 → place_behind d at.Quoted b ≡ at.Quoted
in_text d b h = rw (ne_eqb b 34 h) refl

at_quote : (d : ℕ) (p : RecordPlace) → d ≢ 34 → p ≢ at.Quoted → p ≢ at.Plain
    → place_behind d p 34 ≡ at.Quoted
at_quote d at.Start h q s = rw (ne_eqb 34 d (λ e. h (sym e))) refl
at_quote d at.Closed h q s = rw (ne_eqb 34 d (λ e. h (sym e))) refl
at_quote d at.Plain h q s = absurd (s refl)
at_quote d at.Quoted h q s = absurd (q refl)

pub doubled_quote : (b : ℕ) → b ≡ 34 → doubled b ≡ 34 ∷ 34 ∷ []
doubled_quote b e = rw e refl

pub doubled_other : (b : ℕ) → b ≢ 34 → doubled b ≡ b ∷ []
doubled_other b h = rw (ne_eqb b 34 h) refl

module _ (d : ℕ) where
  -- nothing, or what begins with a delimiter
  abbrev pub FollowsField : List ℕ → Type 0
  FollowsField [] = ⊤
  FollowsField (b ∷ bs) = b ≡ d

  module _ (A : Type 0) (stop : RecordPlace → A) (start : Bool → A → A) where
    -- from a place on: what is told at each field's start, whether a quote stands there, and at the
    -- end
    abbrev pub scanned : RecordPlace → List ℕ → A
    scanned p [] = stop p
    scanned at.Start (b ∷ bs) = start (b == 34) (scanned (place_behind d at.Start b) bs)
    scanned at.Plain (b ∷ bs) = scanned (place_behind d at.Plain b) bs
    scanned at.Quoted (b ∷ bs) = scanned (place_behind d at.Quoted b) bs
    scanned at.Closed (b ∷ bs) = scanned (place_behind d at.Closed b) bs

    -- the same of fields
    abbrev pub told : Bool → List Field → A
    told closed [] = stop (if closed then at.Plain else at.Quoted)
    told closed (f ∷ fs) = start (is_quoted f) (told closed fs)

    module _ (no_quote : d ≢ 34) (empty : stop at.Start ≡ start false (stop at.Plain))
        (shut : stop at.Closed ≡ stop at.Plain) where
      -- a byte goes on to a place
      goes_on : (p q : RecordPlace) (b : ℕ) (bs : List ℕ) → p ≢ at.Start → place_behind d p b ≡ q
          → scanned p (b ∷ bs) ≡ scanned q bs
      goes_on at.Start q b bs h e = absurd (h refl)
      goes_on at.Plain q b bs h e = ap (λ (p : RecordPlace). scanned p bs) e
      goes_on at.Quoted q b bs h e = ap (λ (p : RecordPlace). scanned p bs) e
      goes_on at.Closed q b bs h e = ap (λ (p : RecordPlace). scanned p bs) e

      -- a byte begins a field
      begins : (q : RecordPlace) (b : ℕ) (m : Bool) (bs : List ℕ) → place_behind d at.Start b ≡ q
          → (b == 34) ≡ m → scanned at.Start (b ∷ bs) ≡ start m (scanned q bs)
      begins q b m bs e f =
          ap (λ (p : RecordPlace). start (b == 34) (scanned p bs)) e
          ∙ ap (λ (n : Bool). start n (scanned q bs)) f

      plain : (text rest : List ℕ) → Lacks d text
          → scanned at.Plain (text ++ rest) ≡ scanned at.Plain rest
      plain [] rest h = refl
      plain (b ∷ bs) rest h =
          goes_on at.Plain at.Plain b (bs ++ rest) (λ e. cc) (at_plain d b h.0)
          ∙ plain bs rest h.1

      one_within : (b : ℕ) (rest : List ℕ)
          → scanned at.Quoted (doubled b ++ rest) ≡ scanned at.Quoted rest
      one_within b rest =
          elim (eqb_tells b 34) [
            | inl h ↦
                ap (λ (t : List ℕ). scanned at.Quoted (t ++ rest)) (doubled_quote b h.1)
                ∙ goes_on at.Closed at.Quoted 34 rest (λ e. cc)
                (at_quote d at.Closed no_quote (λ e. cc) (λ e. cc))
            | inr h ↦
                ap (λ (t : List ℕ). scanned at.Quoted (t ++ rest)) (doubled_other b h.1)
                ∙ goes_on at.Quoted at.Quoted b rest (λ e. cc) (in_text d b h.1)
          ]

      within : (text rest : List ℕ)
          → scanned at.Quoted (flat_map doubled text ++ rest) ≡ scanned at.Quoted rest
      within [] rest = refl
      within (b ∷ bs) rest =
          ap (scanned at.Quoted) (append_assoc (doubled b) (flat_map doubled bs) rest)
          ∙ one_within b (flat_map doubled bs ++ rest) ∙ within bs rest

      behind_quotes : (text rest : List ℕ) → Lacks d text → BeginsBare text → FollowsField rest
          → scanned at.Closed (text ++ rest) ≡ scanned at.Plain rest
      behind_quotes [] [] h g e = shut
      behind_quotes [] (b ∷ bs) h g e =
          ap (λ (x : ℕ). scanned at.Closed (x ∷ bs)) e
          ∙ goes_on at.Closed at.Start d bs (λ e. cc) (at_delimiter d at.Closed (λ e. cc))
          ∙ sym (goes_on at.Plain at.Start d bs (λ e. cc) (at_delimiter d at.Plain (λ e. cc)))
          ∙ ap (λ (x : ℕ). scanned at.Plain (x ∷ bs)) (sym e)
      behind_quotes (b ∷ bs) rest h g e =
          goes_on at.Closed at.Plain b (bs ++ rest) (λ e. cc)
          (at_bare d b at.Closed (λ e. cc) h.0 g)
          ∙ plain bs rest h.1

      in_quotes_on : (text rest : List ℕ)
          → scanned at.Start (34 ∷ (flat_map doubled text ++ rest))
          ≡ start true (scanned at.Quoted rest)
      in_quotes_on text rest =
          begins at.Quoted 34 true (flat_map doubled text ++ rest)
          (at_quote d at.Start no_quote (λ e. cc) (λ e. cc)) refl
          ∙ ap (start true) (within text rest)

      -- a closed field, and what follows it
      one_field : (f : Field) (spelling rest : List ℕ) → Spells d true f spelling
          → FollowsField rest
          → scanned at.Start (spelling ++ rest) ≡ start (is_quoted f) (scanned at.Plain rest)
      one_field (bare []) spelling [] h e =
          ap (λ (t : List ℕ). scanned at.Start (t ++ [])) h.1 ∙ empty
      one_field (bare []) spelling (b ∷ bs) h e =
          ap (λ (t : List ℕ). scanned at.Start (t ++ (b ∷ bs))) h.1
          ∙ ap (λ (x : ℕ). scanned at.Start (x ∷ bs)) e
          ∙ begins at.Start d false bs (at_delimiter d at.Start (λ e. cc)) (ne_eqb d 34 no_quote)
          ∙ ap (start false)
          (sym (goes_on at.Plain at.Start d bs (λ e. cc) (at_delimiter d at.Plain (λ e. cc))))
          ∙ ap (λ (x : ℕ). start false (scanned at.Plain (x ∷ bs))) (sym e)
      one_field (bare (b ∷ bs)) spelling rest h e =
          ap (λ (t : List ℕ). scanned at.Start (t ++ rest)) h.1
          ∙ begins at.Plain b false (bs ++ rest) (at_bare d b at.Start (λ e. cc) h.2.0 h.3)
          (ne_eqb b 34 h.3)
          ∙ ap (start false) (plain bs rest h.2.1)
      one_field (in_quotes text) spelling rest (inner, behind, _, is, lacks, bare_on) e =
          ap (λ (t : List ℕ). scanned at.Start (t ++ rest)) is
          ∙ ap (λ (t : List ℕ). scanned at.Start (34 ∷ t)) shape
          ∙ in_quotes_on inner (34 ∷ (behind ++ rest))
          ∙ ap (start true) (behind_quotes behind rest lacks bare_on e)
        where
          shape : ((flat_map doubled inner ++ (34 ∷ [])) ++ behind) ++ rest
              ≡ flat_map doubled inner ++ (34 ∷ (behind ++ rest))
          shape = simp append_assoc

      pub scanned_says : (closed : Bool) (bytes : List ℕ) (fs : List Field)
          → SaysFields d closed bytes fs → scanned at.Start bytes ≡ told closed fs
      scanned_says closed bytes [] h = absurd h
      scanned_says true bytes (f ∷ []) h =
          ap (scanned at.Start) (sym (append-nil bytes)) ∙ one_field f bytes [] h tt
      scanned_says false bytes (bare text ∷ []) h = absurd (cc h.0)
      scanned_says false bytes (in_quotes text ∷ []) h =
          let no_more = sym (append-nil (flat_map doubled text)) in
          ap (scanned at.Start) (h ∙ ap (λ (t : List ℕ). 34 ∷ t) no_more)
          ∙ in_quotes_on text []
      scanned_says closed bytes (f ∷ g ∷ fs) (spelling, rest, is, this, more) =
          ap (scanned at.Start) is
          ∙ one_field f spelling (d ∷ rest) this refl
          ∙ ap (start (is_quoted f))
          (goes_on at.Plain at.Start d rest (λ e. cc) (at_delimiter d at.Plain (λ e. cc))
          ∙ scanned_says closed rest (g ∷ fs) more)

-- whether what ends at a place is closed, and the mark of a field that begins there
abbrev pub closed_at : RecordPlace → Bool
closed_at at.Start = true
closed_at at.Plain = true
closed_at at.Quoted = false
closed_at at.Closed = true

abbrev pub last_mark : RecordPlace → List Bool
last_mark at.Start = false ∷ []
last_mark at.Plain = []
last_mark at.Quoted = []
last_mark at.Closed = []

-- whether the bytes from a place on are closed, and a mark of each field that begins there
abbrev pub ends_closed : ℕ → RecordPlace → List ℕ → Bool
ends_closed d = scanned d Bool closed_at (λ m rest. rest)

abbrev pub marks : ℕ → RecordPlace → List ℕ → List Bool
marks d = scanned d (List Bool) last_mark ◌∷◌

pub closed_says : (d : ℕ) → d ≢ 34 → (closed : Bool) (bytes : List ℕ) (fs : List Field)
    → SaysFields d closed bytes fs → ends_closed d at.Start bytes ≡ closed
closed_says d no_quote closed bytes fs h =
    scanned_says d Bool closed_at (λ m rest. rest) no_quote refl refl closed bytes fs h
    ∙ of_fields closed fs
  where
    of_fields : (closed : Bool) (fs : List Field)
        → told d Bool closed_at (λ m rest. rest) closed fs ≡ closed
    of_fields true [] = refl
    of_fields false [] = refl
    of_fields closed (f ∷ fs) = of_fields closed fs

pub marks_say : (d : ℕ) → d ≢ 34 → (closed : Bool) (bytes : List ℕ) (fs : List Field)
    → SaysFields d closed bytes fs → marks d at.Start bytes ≡ map is_quoted fs
marks_say d no_quote closed bytes fs h =
    scanned_says d (List Bool) last_mark ◌∷◌ no_quote refl refl closed bytes fs h
    ∙ of_fields closed fs
  where
    of_fields : (closed : Bool) (fs : List Field)
        → told d (List Bool) last_mark ◌∷◌ closed fs ≡ map is_quoted fs
    of_fields true [] = refl
    of_fields false [] = refl
    of_fields closed (f ∷ fs) = ap (λ (t : List Bool). is_quoted f ∷ t) (of_fields closed fs)

-- of bytes without a quote no field is marked
pub none_marked : (d : ℕ) (p : RecordPlace) (bytes : List ℕ)
    → ((k : ℕ) → k < length bytes → is_byte 34 (slice_index bytes k) ≢ true)
    → (i : ℕ) → get_or (marks d p bytes) i false ≡ false
none_marked d at.Start [] h zero = refl
none_marked d at.Start [] h (suc i) = refl
none_marked d at.Plain [] h i = refl
none_marked d at.Quoted [] h i = refl
none_marked d at.Closed [] h i = refl
none_marked d at.Start (b ∷ bs) h zero =
    elim (eqb_tells b 34) [ inl e ↦ absurd (h 0 (omega arith) e.0) | inr e ↦ e.0 ]
none_marked d at.Start (b ∷ bs) h (suc i) =
    none_marked d (place_behind d at.Start b) bs (λ k lt. h (suc k) (omega arith)) i
none_marked d at.Plain (b ∷ bs) h i =
    none_marked d (place_behind d at.Plain b) bs (λ k lt. h (suc k) (omega arith)) i
none_marked d at.Quoted (b ∷ bs) h i =
    none_marked d (place_behind d at.Quoted b) bs (λ k lt. h (suc k) (omega arith)) i
none_marked d at.Closed (b ∷ bs) h i =
    none_marked d (place_behind d at.Closed b) bs (λ k lt. h (suc k) (omega arith)) i
