-- The rows of `regexp_replace`.
use Rattle.std.proofs.Common.{◌≡◌, ◌<◌, ℕ, Bool, false, List, [], ◌∷◌, Option, Some, None}
use Rattle.std.proofs.Common.{refl, ap, sym, ◌∙◌, cond, subst}
use Rattle.std.specs.List.{list_any}
use Rattle.std.proofs.lemmas.Option.{same_Some}
use Rattle.vortex_errors.specs.Answers.{UnlessMemory}
use Rattle.vortex_errors.specs.declared.error.VortexError.{VortexError}
use Rattle.vortex_errors.specs.declared.error.VortexError.TheVariants.{Custom}
use Rattle.vortex_types.specs.Values.{Value, null, text, is_null}
use Rattle.vortex_columns.specs.ColumnView.{ColumnView}
use Rattle.vortex_interface.specs.Outcomes.{Outcome, gives, custom, values_at, IsCallFault}
use Rattle.vortex_sql_calls.proofs.MadeRows.{made_fault}
use Rattle.vortex_sql_calls.proofs.Rows.{fault_at}
use Rattle.vortex_sql_rows.specs.declared.faults.RowFault.TheVariants.{NoPattern}
use Rattle.vortex_sql_rows.specs.Faults.{fault_number, faults_by}
use Rattle.vortex_sql_rows.specs.Row.{RefusesRow}
use Rattle.vortex_sql_rows.specs.Shapes.{text_in}
use Rattle.vortex_sql_patterns.specs.Patterns.{pattern_in}
use Rattle.vortex_sql_patterns.specs.RegexpReplace.{Asked, asked_in, asks, asks_by, in_case}
use Rattle.vortex_sql_patterns.specs.RegexpReplace.{replace_by, replace_of, replaced_by}
use Rattle.vortex_sql_patterns.specs.RegexpReplace.{replaced_for, replaced_if, with_flags}

not_null : (v : Value) (bs : List ℕ) → text_in v ≡ Some bs → is_null v ≡ false
not_null (text xs) bs e = refl
not_null v bs e = cc

all_asked : (fs : List ℕ) (o p r : Option (List ℕ)) (a : Asked) → asks fs o p r ≡ Some a
    → (o ≡ Some a.text) × (p ≡ Some a.pattern) × (r ≡ Some a.other)
all_asked fs (Some bs) (Some ps) (Some rs) a e =
    let same = same_Some _ _ e in (
      ap (λ (x : Asked). Some x.text) same,
      ap (λ (x : Asked). Some x.pattern) same,
      ap (λ (x : Asked). Some x.other) same,
    )
all_asked fs None p r a e = cc
all_asked fs (Some bs) None r a e = cc
all_asked fs (Some bs) (Some ps) None a e = cc

-- a row that asks for something has no null
no_null : (vs : List Value) (a : Asked) → asked_in vs ≡ Some a → list_any is_null vs ≡ false
no_null (v ∷ w ∷ x ∷ []) a e =
    let all = all_asked [] (text_in v) (text_in w) (text_in x) a e in
    rw (not_null v a.text all.0, not_null w a.pattern all.1, not_null x a.other all.2) refl
no_null (v ∷ w ∷ x ∷ f ∷ []) a e = by (text_in f) refl e
  where
    by : (o : Option (List ℕ)) → text_in f ≡ o
        → asks_by o (text_in v) (text_in w) (text_in x) ≡ Some a
        → list_any is_null (v ∷ w ∷ x ∷ f ∷ []) ≡ false
    by None k h = cc
    by (Some fs) k h =
        let all = all_asked fs (text_in v) (text_in w) (text_in x) a h in
        rw (
          not_null v a.text all.0,
          not_null w a.pattern all.1,
          not_null x a.other all.2,
          not_null f fs k,
        ) refl
no_null [] a e = cc
no_null (v ∷ []) a e = cc
no_null (v ∷ w ∷ []) a e = cc
no_null (v ∷ w ∷ x ∷ f ∷ g ∷ vs) a e = cc

-- what a row gives that asks for something
pub of_asked : (vs : List Value) (a : Asked) → asked_in vs ≡ Some a
    → replace_of vs ≡ replaced_for a
of_asked vs a e =
    ap (λ o. cond (list_any is_null vs) (gives null) (replaced_if o)) e
    ∙ ap (λ b. cond b (gives null) (replaced_for a)) (no_null vs a e)

pub of_flags : (vs : List Value) (a : Asked) (x : Bool × Bool) → asked_in vs ≡ Some a
    → with_flags (false, false) a.flags ≡ Some x
    → replace_of vs ≡ replaced_by x.0 a.text a.other (pattern_in (in_case x.1 a.pattern))
of_flags vs a x e f = of_asked vs a e ∙ ap (replace_by a.text a.pattern a.other) f

pub of_no_flags : (vs : List Value) (a : Asked) → asked_in vs ≡ Some a
    → with_flags (false, false) a.flags ≡ None → replace_of vs ≡ faults_by NoPattern
of_no_flags vs a e f = of_asked vs a e ∙ ap (replace_by a.text a.pattern a.other) f

module _ (cs : List ColumnView) (n i : ℕ) (e : VortexError) (lt : i < n) where
  -- a fault of a row is one of the call
  pub refused_row : (o : Outcome) → replace_of (values_at cs i) ≡ o
      → UnlessMemory (RefusesRow o) e → UnlessMemory (IsCallFault (λ ts. replace_of) cs n) e
  refused_row o same h =
      made_fault (RefusesRow o) (IsCallFault (λ ts. replace_of) cs n)
      (λ x r. fault_at replace_of cs n i x lt (subst (λ y. RefusesRow y x) (sym same) r)) e h

  -- a text that is no pattern is a fault of its row
  pub refused_pattern : (a : Asked) (x : Bool × Bool) → asked_in (values_at cs i) ≡ Some a
      → with_flags (false, false) a.flags ≡ Some x
      → UnlessMemory (λ y. (pattern_in (in_case x.1 a.pattern) ≡ None)
      × (y ≡ Custom (fault_number NoPattern))) e
      → UnlessMemory (IsCallFault (λ ts. replace_of) cs n) e
  refused_pattern a x row flags h =
      made_fault (λ y. (pattern_in (in_case x.1 a.pattern) ≡ None)
      × (y ≡ Custom (fault_number NoPattern)))
      (IsCallFault (λ ts. replace_of) cs n)
      (λ y k.
      fault_at replace_of cs n i y lt (
        custom (fault_number NoPattern),
        of_flags (values_at cs i) a x row flags ∙ ap (replaced_by x.0 a.text a.other) k.0,
        k.1,
      ))
      e h
