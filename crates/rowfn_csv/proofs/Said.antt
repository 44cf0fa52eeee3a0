-- Whatever bytes a record has, they say fields.
use Rattle.std.proofs.Common.{◌≡◌, ◌≢◌, Bool, true, false, ℕ, List, [], ◌∷◌, ◌++◌, refl, sym}
use Rattle.std.proofs.Common.{ap, ◌∙◌, append_assoc, subst, inl, inr}
use Rattle.std.specs.List.{flat_map}
use Rattle.std.proofs.lemmas.Bool.Decides.{eqb_tells}
use Rattle.rowfn_csv.specs.declared.raw.RecordPlace.{RecordPlace}
use Rattle.rowfn_csv.specs.declared.raw.RecordPlace.TheVariants as at
use Rattle.rowfn_csv.specs.Fields.{doubled, quoted}
use Rattle.rowfn_csv.specs.Records.{Field, bare, in_quotes, Lacks, BeginsBare, SaysFields}
use Rattle.rowfn_csv.specs.Records.{EachRecordHasFields}
use Rattle.rowfn_csv.proofs.Scanning.{doubled_other}

module _ (d : ℕ) where
  -- from a field's start
  data Says (bytes : List ℕ) : Type 0 where
    says : (closed : Bool) (f : Field) (fs : List Field) → SaysFields d closed bytes (f ∷ fs)
        → Says bytes

  -- in a field that stands bare: the last one, or one with others behind it
  data GoesOn (bytes : List ℕ) : Type 0 where
    last : Lacks d bytes → GoesOn bytes
    more : (text rest : List ℕ) → bytes ≡ text ++ (d ∷ rest) → Lacks d text → Says rest
        → GoesOn bytes

  -- in quotes: open, or closed by a quote behind which the field goes on
  data Within (bytes : List ℕ) : Type 0 where
    open_to_end : (text : List ℕ) → bytes ≡ flat_map doubled text → Within bytes
    shut : (text rest : List ℕ) → bytes ≡ flat_map doubled text ++ (34 ∷ rest) → BeginsBare rest
        → GoesOn rest → Within bytes

  -- behind a quote in quotes: a second one, or none
  data Behind (bytes : List ℕ) : Type 0 where
    again : (rest : List ℕ) → bytes ≡ 34 ∷ rest → Within rest → Behind bytes
    closes : BeginsBare bytes → GoesOn bytes → Behind bytes

  From : RecordPlace → List ℕ → Type 0
  From at.Start bytes = Says bytes
  From at.Plain bytes = GoesOn bytes
  From at.Quoted bytes = Within bytes
  From at.Closed bytes = Behind bytes

  begins_bare : (b : ℕ) (bs text rest : List ℕ) → b ≢ 34 → b ∷ bs ≡ text ++ (d ∷ rest)
      → BeginsBare text
  begins_bare b bs [] rest h e = tt
  begins_bare b bs (t ∷ ts) rest h e = λ q. h (let first : b ≡ t = cc in first ∙ q)

  one_more : (b : ℕ) (bs : List ℕ) → b ≢ d → GoesOn bs → GoesOn (b ∷ bs)
  one_more b bs h (last lacks) = last (h, lacks)
  one_more b bs h (more text rest e lacks behind) =
      more (b ∷ text) rest (ap (λ (t : List ℕ). b ∷ t) e) (h, lacks) behind

  at_delimiter : (b : ℕ) (bs : List ℕ) → b ≡ d → Says bs → GoesOn (b ∷ bs)
  at_delimiter b bs e behind = more [] bs (ap (λ (x : ℕ). x ∷ bs) e) tt behind

  begin_bare : (b : ℕ) (bs : List ℕ) → b ≢ 34 → GoesOn (b ∷ bs) → Says (b ∷ bs)
  begin_bare b bs h (last lacks) = says true (bare (b ∷ bs)) [] (refl, refl, lacks, h)
  begin_bare b bs h (more text rest e lacks (says closed f fs told)) =
      says closed (bare text) (f ∷ fs)
      (text, rest, e, (refl, refl, lacks, begins_bare b bs text rest h e), told)

  shape : (text behind : List ℕ)
      → 34 ∷ (flat_map doubled text ++ (34 ∷ behind)) ≡ quoted text ++ behind
  shape text behind =
      ap (λ (t : List ℕ). 34 ∷ t) (sym (append_assoc (flat_map doubled text) (34 ∷ []) behind))

  begin_quoted : (bytes : List ℕ) → Within bytes → Says (34 ∷ bytes)
  begin_quoted bytes (open_to_end text e) =
      says false (in_quotes text) [] (ap (λ (t : List ℕ). 34 ∷ t) e)
  begin_quoted bytes (shut text rest e begins (last lacks)) =
      says true (in_quotes (text ++ rest)) []
      (text, rest, refl, ap (λ (t : List ℕ). 34 ∷ t) e ∙ shape text rest, lacks, begins)
  begin_quoted bytes (shut text rest e begins (more behind others f lacks (says shuts g fs told))) =
      says shuts (in_quotes (text ++ behind)) (g ∷ fs) (
        quoted text ++ behind,
        others,
        ap (λ (t : List ℕ). 34 ∷ t) e ∙ shape text rest ∙ ap (λ (t : List ℕ). quoted text ++ t) f
            ∙ sym (append_assoc (quoted text) behind (d ∷ others)),
        (text, behind, refl, refl, lacks, bare_behind behind others rest f begins),
        told,
      )
    where
      bare_behind : (behind others rest : List ℕ) → rest ≡ behind ++ (d ∷ others)
          → BeginsBare rest → BeginsBare behind
      bare_behind [] others rest e h = tt
      bare_behind (b ∷ bs) others [] e h = absurd (cc e)
      bare_behind (b ∷ bs) others (r ∷ rs) e h = λ q. h (let first : r ≡ b = cc in first ∙ q)

  in_text : (b : ℕ) (bs : List ℕ) → b ≢ 34 → Within bs → Within (b ∷ bs)
  in_text b bs h (open_to_end text e) =
      open_to_end (b ∷ text)
      (ap (λ (t : List ℕ). b ∷ t) e
      ∙ ap (λ (t : List ℕ). t ++ flat_map doubled text) (sym (doubled_other b h)))
  in_text b bs h (shut text rest e begins on) =
      shut (b ∷ text) rest
      (ap (λ (t : List ℕ). b ∷ t) e
      ∙ ap (λ (t : List ℕ). (t ++ flat_map doubled text) ++ (34 ∷ rest)) (sym (doubled_other b h)))
      begins on

  at_quote : (bs : List ℕ) → Behind bs → Within (34 ∷ bs)
  at_quote bs (closes begins on) = shut [] bs refl begins on
  at_quote bs (again rest e (open_to_end text f)) =
      open_to_end (34 ∷ text)
      (ap (λ (t : List ℕ). 34 ∷ t) (e ∙ ap (λ (t : List ℕ). 34 ∷ t) f))
  at_quote bs (again rest e (shut text behind f begins on)) =
      shut (34 ∷ text) behind
      (ap (λ (t : List ℕ). 34 ∷ t) (e ∙ ap (λ (t : List ℕ). 34 ∷ t) f)) begins on

  module _ (no_quote : d ≢ 34) where
    on_bare : (b : ℕ) (bs : List ℕ) → Says bs → GoesOn bs → GoesOn (b ∷ bs)
    on_bare b bs behind on =
        elim (eqb_tells b d) [
          | inl h ↦ at_delimiter b bs h.1 behind
          | inr h ↦ one_more b bs h.1 on
        ]

    from : (bytes : List ℕ) (p : RecordPlace) → From p bytes
    unfolding From
    from [] at.Start = says true (bare []) [] (refl, refl, tt, tt)
    from [] at.Plain = last tt
    from [] at.Quoted = open_to_end [] refl
    from [] at.Closed = closes tt (last tt)
    from (b ∷ bs) at.Start =
        elim (eqb_tells b 34) [
          | inl h ↦ subst (λ (x : ℕ). Says (x ∷ bs)) (sym h.1) (begin_quoted bs (from bs at.Quoted))
          | inr h ↦ begin_bare b bs h.1 (on_bare b bs (from bs at.Start) (from bs at.Plain))
        ]
    from (b ∷ bs) at.Plain = on_bare b bs (from bs at.Start) (from bs at.Plain)
    from (b ∷ bs) at.Quoted =
        elim (eqb_tells b 34) [
          | inl h ↦ subst (λ (x : ℕ). Within (x ∷ bs)) (sym h.1) (at_quote bs (from bs at.Closed))
          | inr h ↦ in_text b bs h.1 (from bs at.Quoted)
        ]
    from (b ∷ bs) at.Closed =
        elim (eqb_tells b 34) [
          | inl h ↦ again bs (ap (λ (x : ℕ). x ∷ bs) h.1) (from bs at.Quoted)
          | inr h ↦ closes h.1 (on_bare b bs (from bs at.Start) (from bs at.Plain))
        ]

said : (d : ℕ) (bytes : List ℕ) → Says d bytes
    → (closed : Bool) × (fields : List Field) × SaysFields d closed bytes fields
said d bytes (says closed f fs told) = (closed, f ∷ fs, told)

pub each_record_has_fields : EachRecordHasFields
unfolding From
each_record_has_fields d bytes no_quote = said d bytes (from d no_quote bytes at.Start)
