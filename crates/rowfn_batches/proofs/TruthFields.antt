-- The field of a row of truth values.
use Rattle.std.proofs.Common.{◌≡◌, ◌∙◌, ℕ, List, [], ◌∷◌, ◌++◌, Bool, true, false, not, sym, ap}
use Rattle.std.proofs.Common.{refl}
use Rattle.std.proofs.Common.{if◌then◌else◌, append_assoc, append-nil, Result, Ok, Err}
use Rattle.std.specs.Prelude.{codes, OnOk}
use Rattle.vortex_types.specs.Values.{Value, is_null, truth}
use Rattle.rowfn_csv.specs.Fields.{text_field}
use Rattle.rowfn_csv.specs.declared.format.Format.{Format}
use Rattle.rowfn_batches.specs.declared.truths.Truths.{Truths}
use Rattle.rowfn_batches.specs.Printing.{field_text}
use Rattle.vortex_columns.specs.ColumnView.{ColumnView, row}
use Rattle.rowfn_batches.specs.Outputs.{value_field, row_line}
use Rattle.rowfn_batches.specs.Truths.{AreTruths}

is_there : (null valid : Bool) → valid ≡ not null → valid ≡ false → null ≡ true
is_there true valid is gone = refl
is_there false valid is gone = let both : true ≡ false = sym is ∙ gone in cc

is_some : (null valid : Bool) → valid ≡ not null → valid ≡ true → null ≡ false
is_some true valid is there = let both : false ≡ true = sym is ∙ there in cc
is_some false valid is there = refl

pub null_written : (format : Format) (v : Value) (valid : Bool) → valid ≡ not (is_null v)
    → valid ≡ false → format.null.now ≡ value_field format v
null_written format v valid is gone =
    sym
    (ap (λ (b : Bool). if b then format.null.now else text_field format (field_text v))
    (is_there (is_null v) valid is gone))

module _ (format : Format) (truths : Truths) (v : Value) (valid : Bool)
    (known : AreTruths format truths)
    (is : valid ≡ not (is_null v)) (there : valid ≡ true)
  where
    true_written : (is_null v ≡ false → v ≡ truth true)
        → truths.yes.now ≡ value_field format v
    true_written same =
        known.yes
        ∙ sym
        (ap (value_field format)
        (same (is_some (is_null v) valid is there)))

    false_written : (is_null v ≡ false → v ≡ truth false)
        → truths.no.now ≡ value_field format v
    false_written same =
        known.no
        ∙ sym
        (ap (value_field format)
        (same (is_some (is_null v) valid is there)))

    pub truth_written : (b : Bool) → (is_null v ≡ false → v ≡ truth b)
        → (if b then truths.yes.now else truths.no.now)
        ≡ value_field format v
    truth_written true same = true_written same
    truth_written false same = false_written same

-- the same where each stands as it is spelled
pub bare_written : (format : Format) (truths : Truths) (v : Value) (valid : Bool)
    → AreTruths format truths → truths.are_bare ≡ true → valid ≡ not (is_null v) → valid ≡ true
    → (b : Bool) → (is_null v ≡ false → v ≡ truth b)
    → (if b then codes "true" else codes "false")
    ≡ value_field format v
bare_written format truths v valid known bare is there true same =
    sym (known.bare_yes bare) ∙ truth_written format truths v valid known is there true same
bare_written format truths v valid known bare is there false same =
    sym (known.bare_no bare) ∙ truth_written format truths v valid known is there false same

-- the end of a line behind a field
pub ended : {X E : Type 0} (r : Result X E) (old mid new field : List ℕ) → mid ≡ old ++ field
    → OnOk r (new ≡ mid ++ (10 ∷ [])) → OnOk r (new ≡ old ++ (field ++ (10 ∷ [])))
ended (Ok x) old mid new field e h =
    h ∙ ap (λ (t : List ℕ). t ++ (10 ∷ [])) e ∙ append_assoc old field (10 ∷ [])
ended (Err x) old mid new field e h = h

-- the line of a row of one answer
pub one_line : (format : Format) (c : ColumnView) (i : ℕ)
    → value_field format (row c.rows i) ++ (10 ∷ []) ≡ row_line format (c ∷ []) i
one_line format c i =
    sym (ap (λ (t : List ℕ). t ++ (10 ∷ [])) (append-nil (value_field format (row c.rows i))))
