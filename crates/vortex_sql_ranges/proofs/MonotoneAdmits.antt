-- The range of a function whose results never fall admits them.
use Rattle.std.specs.Prelude.{◌≡◌, ◌&&◌, ◌||◌, ℕ, ℤ, ◌≤ℤ◌, ◌<ℤ◌, List, [], ◌∷◌, Option, Some, None}
use Rattle.std.specs.Prelude.{Bool, true, false, not, is_some, int_lt, ⊤, refl}
use Rattle.std.proofs.Common.{arith, cond, ap, subst, sym}
use Rattle.std.proofs.lemmas.Cmp.{int_ranked}
use Rattle.std.proofs.lemmas.Int.{ints}
use Rattle.std.specs.declared.cmp.Ordering.{Ordering}
use Rattle.std.specs.declared.cmp.Ordering.TheVariants.{Less, Equal, Greater}
use Rattle.std.specs.Ordering.{is_gt, int_cmp}
use Rattle.vortex_types.specs.declared.dtype.PType.{PType}
use Rattle.vortex_types.specs.LogicalTypes.{LogicalType, integer_type}
use Rattle.vortex_types.specs.Typing.{FitsPType, least_of, greatest_of}
use Rattle.vortex_types.specs.Values.{Value, null, number}
use Rattle.vortex_interface.specs.Outcomes.{Outcome, gives, faults, GivesType, GivesValue}
use Rattle.vortex_sql_dates.specs.StoredRows.{on_stored, stored_row}
use Rattle.vortex_sql_rows.specs.declared.types.Kind.TheVariants.{Within}
use Rattle.vortex_sql_rows.specs.declared.types.Takes.TheVariants.{Alike}
use Rattle.vortex_sql_rows.specs.Integers.{checked, wide_fits}
use Rattle.vortex_sql_rows.specs.Laws.{accepted, given_values, typed}
use Rattle.vortex_sql_rows.specs.Row.{Row, LawfulRow, row_type, row_means, AreGiven, IsOf}
use Rattle.vortex_sql_rows.specs.Types.{is_in, is_kind, main_type}
use Rattle.vortex_ranges.specs.Ranges.{RangeView, Admits, is_above, is_under, is_over, is_inside}
use Rattle.vortex_ranges.specs.Ranges.{may_be}
use Rattle.vortex_ranges.specs.Calls.{AllAdmit, AdmitsCalls, AdmitsOutcome}
use Rattle.vortex_ranges.specs.TypeRanges.{narrowed}
use Rattle.vortex_ranges.proofs.Tests.{both}
use Rattle.vortex_ranges.proofs.Above.{inside, not_under, not_over, has_value, lies_inside}
use Rattle.vortex_ranges.proofs.Anything.{anything-admits}
use Rattle.vortex_ranges.proofs.OfType.{not_below, typed_admitted}
use Rattle.vortex_sql_ranges.specs.Monotone.{number_given, end_after, monotone, monotone_range}
use Rattle.vortex_sql_ranges.proofs.Steps.{NeverFalls}

-- a number that is not above another is at most that
no_higher : (x a : ℤ) → is_above (number x) (number a) ≡ false → x ≤ℤ a
no_higher x a h = by (int_cmp x a) refl h
  where
    by : (o : Ordering) → int_cmp x a ≡ o → is_gt o ≡ false → x ≤ℤ a
    by Less e f = let is : x <ℤ a = int_ranked x a Less (sym e) in omega (arith, ints, is)
    by Equal e f = let is : x ≡ a = int_ranked x a Equal (sym e) in omega (arith, ints, is)
    by Greater e f = cc

-- a number that its type has is one that is checked
in_type : (p : PType) (z : ℤ) → FitsPType p z → is_in p z ≡ true
in_type p z h = by (int_lt z (least_of p)) (int_lt (greatest_of p) z) refl refl
  where
    by : (a b : Bool) → int_lt z (least_of p) ≡ a → int_lt (greatest_of p) z ≡ b
        → is_in p z ≡ true
    by true b e f = absurd (omega (arith, ints, e, h.0))
    by false true e f = absurd (omega (arith, ints, f, h.1))
    by false false e f = (λ i. not (e i || f i))

pub is_checked : (p : PType) (z : ℤ) → FitsPType p z → checked p z ≡ Some z
is_checked p z h = ap (λ b. cond b (Some z) None) (in_type p z h)

-- the number, or a fault
abbrev pub Told : Outcome → ℤ → Type 0
Told (gives (number n)) m = n ≡ m
Told (gives v) m = ⊥
Told (faults x) m = ⊤

-- f returns of each number the one that g has, which never falls, or a fault: none where it is
-- infallible, nor between two numbers of which it returns values
pub record IsMonotone (infallible : Bool) (f : ℤ → Outcome) : Type 0 where
  pub g : ℤ → ℤ
  pub falls : NeverFalls g
  pub told : (z : ℤ) → Told (f z) (g z)
  pub settled : infallible ≡ true → (z : ℤ) → GivesValue (f z)
  pub between : (a z b : ℤ) → a ≤ℤ z → z ≤ℤ b → GivesValue (f a) → GivesValue (f b)
      → GivesValue (f z)

module _ (id : List ℕ) (q r : PType) (i : Bool) (f : ℤ → Outcome) (m : IsMonotone i f)
    (law : LawfulRow (stored_row id q r i f)) where
  abbrev row : Row
  row = stored_row id q r i f

  -- the result for an end that is not above a number is not above that number's
  low_holds : (e : Option Value) (z : ℤ) → is_under e (number z) ≡ false
      → is_under (end_after row e) (number (m.g z)) ≡ false
  low_holds None z h = refl
  low_holds (Some (number a)) z h = by (is_in q a)
    where
      of : (o : Outcome) → Told o (m.g a)
          → is_under (number_given o) (number (m.g z)) ≡ false
      of (gives (number n)) e =
          let order = m.falls a z (no_higher a z h) in
          not_below n (m.g z) (subst (λ k. k ≤ℤ m.g z) (sym e) order)
      of (gives v) e = absurd e
      of (faults x) e = refl

      by : (b : Bool)
          → is_under (number_given (on_stored f (cond b (Some a) None))) (number (m.g z)) ≡ false
      by true = of (f a) (m.told a)
      by false = refl
  low_holds (Some v) z h = refl

  high_holds : (e : Option Value) (z : ℤ) → is_over e (number z) ≡ false
      → is_over (end_after row e) (number (m.g z)) ≡ false
  high_holds None z h = refl
  high_holds (Some (number a)) z h = by (is_in q a)
    where
      of : (o : Outcome) → Told o (m.g a)
          → is_over (number_given o) (number (m.g z)) ≡ false
      of (gives (number n)) e =
          let order = m.falls z a (no_higher z a h) in
          not_below (m.g z) n (subst (λ k. m.g z ≤ℤ k) (sym e) order)
      of (gives v) e = absurd e
      of (faults x) e = refl

      by : (b : Bool)
          → is_over (number_given (on_stored f (cond b (Some a) None))) (number (m.g z)) ≡ false
      by true = of (f a) (m.told a)
      by false = refl
  high_holds (Some v) z h = refl

  -- an end that has a result is a number of which the function returns a value
  has_result : (e : Option Value) → is_some (end_after row e) ≡ true
      → (a : ℤ) × (e ≡ Some (number a)) × GivesValue (f a)
  has_result None h = cc
  has_result (Some (number a)) h = (a, refl, by (is_in q a) h)
    where
      of : (o : Outcome) → is_some (number_given o) ≡ true → GivesValue o
      of (gives v) h = tt
      of (faults x) h = cc

      by : (b : Bool) → is_some (number_given (on_stored f (cond b (Some a) None))) ≡ true
          → GivesValue (f a)
      by true h = of (f a) h
      by false h = cc
  has_result (Some v) h = cc

  module _ (s : RangeView) (z : ℤ) (e : may_be s (number z) ≡ true) where
    above_low : is_under s.low (number z) ≡ false
    above_low = not_under s.low s.high (number z) (lies_inside s (number z) e)

    below_high : is_over s.high (number z) ≡ false
    below_high = not_over s.low s.high (number z) (lies_inside s (number z) e)

    -- no number between two ends that have results faults
    no_fault : is_some (end_after row s.low) ≡ true → is_some (end_after row s.high) ≡ true
        → GivesValue (f z)
    no_fault h k =
        let low = has_result s.low h in
        let high = has_result s.high k in
        m.between low.0 z high.0
        (no_higher low.0 z (subst (λ x. is_under x (number z) ≡ false) low.1 above_low))
        (no_higher z high.0 (subst (λ x. is_over x (number z) ≡ false) high.1 below_high)) low.2
        high.2

    result-inside : is_inside (end_after row s.low) (end_after row s.high) (number (m.g z)) ≡ true
    result-inside =
        inside (end_after row s.low) (end_after row s.high) (number (m.g z))
        (low_holds s.low z above_low) (high_holds s.high z below_high)

    result-admits : Admits (monotone row s) (number (m.g z))
    result-admits =
        both s.may_be_value
        (is_inside (end_after row s.low) (end_after row s.high) (number (m.g z)))
        (has_value s (number z) e) result-inside

    -- a fault
    fault-admits : ¬ GivesValue (f z) → (monotone row s).may_fault ≡ true
    fault-admits never =
        by i (is_some (end_after row s.low)) (is_some (end_after row s.high)) refl refl refl
      where
        by : (b c d : Bool) → i ≡ b → is_some (end_after row s.low) ≡ c
            → is_some (end_after row s.high) ≡ d
            → (s.may_be_value && not (b || (c && d))) ≡ true
        by true c d h k l = absurd (never (m.settled h z))
        by false true true h k l = absurd (never (no_fault k l))
        by false true false h k l = both s.may_be_value true (has_value s (number z) e) refl
        by false false d h k l = both s.may_be_value true (has_value s (number z) e) refl

    outcome-admits : (t : LogicalType) (o : Outcome) → f z ≡ o → GivesType t o
        → AdmitsOutcome (narrowed t (monotone row s)) o
    outcome-admits t (gives (number n)) h k =
        let is : n ≡ m.g z = subst (λ o. Told o (m.g z)) h (m.told z) in
        typed_admitted.kept t (monotone row s) (number n) k
        (subst (λ x. Admits (monotone row s) (number x)) (sym is) result-admits)
    outcome-admits t (gives v) h k = absurd (subst (λ o. Told o (m.g z)) h (m.told z))
    outcome-admits t (faults x) h k = fault-admits (λ v. subst GivesValue h v)

  module _ (ts : List LogicalType) (t : LogicalType) where
    one-admits : (s : RangeView) (u : LogicalType) (v : Value) → is_kind (Within q) u ≡ true
        → IsOf u v → Admits s v → GivesType t (row_means row ts (v ∷ []))
        → AdmitsOutcome (narrowed t (monotone row s)) (row_means row ts (v ∷ []))
    one-admits s u null k h e y = typed_admitted.kept t (monotone row s) null y e
    one-admits s (integer_type p n) (number z) k h e y =
        let known = is_checked q z (wide_fits q p z k h) in
        subst (λ o. AdmitsOutcome (narrowed t (monotone row s)) (on_stored f o)) (sym known)
        (outcome-admits s z e t (f z) refl (subst (λ o. GivesType t (on_stored f o)) known y))
    one-admits s (integer_type p n) v k h e y = absurd h
    one-admits s u v k h e y = cc

    all-admit : (u : LogicalType) (rs : List RangeView) (vs : List Value)
        → AreGiven (Alike (Within q)) u vs → AllAdmit rs vs → GivesType t (row_means row ts vs)
        → AdmitsOutcome (monotone_range row t rs) (row_means row ts vs)
    all-admit u (s ∷ []) (v ∷ []) g h y = one-admits s u v g.0 g.1.0 h.0 y
    all-admit u (s ∷ []) [] g h y = absurd h
    all-admit u (s ∷ []) (v ∷ w ∷ vs) g h y = absurd h.1
    all-admit u rs vs g h y = anything-admits (row_means row ts vs)

  pub monotone-calls : (t : LogicalType) (rs : List RangeView)
      → AdmitsCalls (row_type row) (row_means row) t rs (monotone_range row t rs)
  monotone-calls t rs ts vs e h a =
      all-admit ts t (main_type (Alike (Within q)) ts) rs vs
      (given_values (Alike (Within q)) ts vs (accepted row ts t e).taken h) a
      (typed row law ts t vs e h)
