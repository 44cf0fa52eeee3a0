-- Functions of one or two values that are not null, and what makes them lawful.
use Rattle.std.specs.Prelude.{◌≡◌, ℕ, ℤ, List, [], ◌∷◌, Option, Some, None, Bool, true, false}
use Rattle.std.specs.Prelude.{get_or, length, refl, IsUtf8}
use Rattle.std.specs.List.{list_any}
use Rattle.std.proofs.Common.{arith}
use Rattle.std.proofs.lemmas.Bool.{eqb-true}
use Rattle.vortex_errors.specs.declared.arity.Arity.{Arity}
use Rattle.vortex_errors.specs.declared.arity.Arity.TheVariants.{Exact}
use Rattle.vortex_types.specs.declared.dtype.PType.{PType}
use Rattle.vortex_types.specs.LogicalTypes.{LogicalType, bool_type, integer_type, text_type}
use Rattle.vortex_types.specs.LogicalTypes.{with_nullability, is_integer_type}
use Rattle.vortex_types.specs.Values.{Value, null, truth, number, text, is_null}
use Rattle.vortex_types.specs.Typing.{FitsPType}
use Rattle.vortex_interface.specs.Outcomes.{Outcome, gives, faults, GivesType, GivesValue}
use Rattle.vortex_sql_rows.specs.declared.faults.RowFault.TheVariants.{OtherValues}
use Rattle.vortex_sql_rows.specs.declared.types.Gives.{Gives}
use Rattle.vortex_sql_rows.specs.declared.types.Kind.{Kind}
use Rattle.vortex_sql_rows.specs.declared.types.Kind.TheVariants as kind
use Rattle.vortex_sql_rows.specs.declared.types.Nulls.TheVariants.{WhereAny}
use Rattle.vortex_sql_rows.specs.declared.types.Takes.{Takes}
use Rattle.vortex_sql_rows.specs.declared.types.Takes.TheVariants.{Alike, Each, Cases}
use Rattle.vortex_sql_rows.specs.declared.types.Types.{Types}
use Rattle.vortex_sql_rows.specs.Types.{is_kind, is_single, given_type, ptype_in}
use Rattle.vortex_sql_rows.specs.Faults.{faults_by}
use Rattle.vortex_sql_rows.specs.Laws.{kind_single, given_single}
use Rattle.vortex_errors.specs.Arities.{fits}
use Rattle.vortex_sql_rows.specs.Row.{Row, LawfulRow, IsAsked, AreGiven, AreOf, NullOnlyBy}

-- the number, text or truth value that a value is
abbrev pub number_in : Value → Option ℤ
number_in (number z) = Some z
number_in v = None

abbrev pub text_in : Value → Option (List ℕ)
text_in (text bs) = Some bs
text_in v = None

abbrev pub truth_in : Value → Option Bool
truth_in (truth b) = Some b
truth_in v = None

abbrev pub on_one : {A : Type 0} → (A → Outcome) → Option A → Outcome
on_one f None = gives null
on_one f (Some a) = f a

abbrev pub both : {A B : Type 0} → Option A → Option B → Option (A × B)
both (Some a) (Some b) = Some (a, b)
both a b = None

-- the number, text or truth value of a row of one value, and the two of a row of two
abbrev pub only_int : List Value → Option ℤ
only_int (v ∷ []) = number_in v
only_int vs = None

abbrev pub only_text : List Value → Option (List ℕ)
only_text (v ∷ []) = text_in v
only_text vs = None

abbrev pub only_truth : List Value → Option Bool
only_truth (v ∷ []) = truth_in v
only_truth vs = None

abbrev pub both_ints : List Value → Option (ℤ × ℤ)
both_ints (v ∷ w ∷ []) = both (number_in v) (number_in w)
both_ints vs = None

abbrev pub both_texts : List Value → Option (List ℕ × List ℕ)
both_texts (v ∷ w ∷ []) = both (text_in v) (text_in w)
both_texts vs = None

abbrev pub one_int : (PType → ℤ → Outcome) → PType → List Value → Outcome
one_int f p vs = on_one (f p) (only_int vs)

abbrev pub two_ints : (PType → ℤ → ℤ → Outcome) → PType → List Value → Outcome
two_ints f p vs = on_one (λ x. f p x.0 x.1) (both_ints vs)

abbrev pub one_text : (List ℕ → Outcome) → PType → List Value → Outcome
one_text f p vs = on_one f (only_text vs)

abbrev pub two_texts : (List ℕ → List ℕ → Outcome) → PType → List Value → Outcome
two_texts f p vs = on_one (λ x. f x.0 x.1) (both_texts vs)

abbrev pub one_truth : (Bool → Outcome) → PType → List Value → Outcome
one_truth f p vs = on_one f (only_truth vs)

abbrev pub is_true : Value → Bool
is_true (truth b) = b
is_true v = false

abbrev pub strict_types : Takes → Gives → Types
strict_types s g = record { takes = s; nulls = WhereAny; gives = g }

-- a strict function
abbrev pub strict_of : List ℕ → Arity → Takes → Gives → Bool → (PType → List Value → Outcome) → Row
strict_of id n s g i f = record {
  id = id;
  arity = n;
  types = strict_types s g;
  strict = true;
  infallible = i;
  of = f;
}

-- of that many arguments
abbrev pub strict_row : List ℕ → ℕ → Takes → Gives → Bool → (PType → List Value → Outcome) → Row
strict_row id n s g i f = strict_of id (Exact n) s g i f

-- of values of the types that the function takes; no call has others
abbrev pub with_both : {A B : Type 0} → (A → B → Outcome) → Option A → Option B → Outcome
with_both f (Some a) (Some b) = f a b
with_both f a b = faults_by OtherValues

abbrev pub with_three : {A B C : Type 0} → (A → B → C → Outcome) → Option A → Option B → Option C
    → Outcome
with_three f (Some a) b c = with_both (f a) b c
with_three f None b c = faults_by OtherValues

asked_single : (s : Takes) (t : LogicalType) (vs : List Value) → AreGiven s t vs
    → is_single t ≡ true
asked_single (Alike k) t vs h = kind_single k t h.0
asked_single (Each a b c) t (v ∷ vs) h = kind_single a t h.0
asked_single Cases t (c ∷ v ∷ vs) h = kind_single kind.Any t h.0
asked_single (Each a b c) t [] h = absurd h
asked_single Cases t [] h = absurd h
asked_single Cases t (c ∷ []) h = absurd h

pub both_fit : {A B : Type 0} (t : LogicalType) (f : A → B → Outcome)
    → ((a : A) (b : B) → GivesType t (f a b)) → (a : Option A) (b : Option B)
    → GivesType t (with_both f a b)
both_fit t f h (Some a) (Some b) = h a b
both_fit t f h (Some a) None = tt
both_fit t f h None b = tt

pub three_fit : {A B C : Type 0} (t : LogicalType) (f : A → B → C → Outcome)
    → ((a : A) (b : B) (c : C) → GivesType t (f a b c)) → (a : Option A) (b : Option B)
    → (c : Option C) → GivesType t (with_three f a b c)
three_fit t f h (Some a) b c = both_fit t (f a) (h a) b c
three_fit t f h None b c = tt

-- what is not null has the type made nullable, and is no null
widened : (u : LogicalType) (o : Outcome) → is_single u ≡ true
    → GivesType (with_nullability u false) o → GivesType (with_nullability u true) o
widened u (faults f) k h = tt
widened (bool_type n) (gives null) k h = refl
widened (bool_type n) (gives v) k h = h
widened (integer_type p n) (gives null) k h = refl
widened (integer_type p n) (gives v) k h = h
widened (text_type n) (gives null) k h = refl
widened (text_type n) (gives v) k h = h
widened u (gives v) k h = cc

never_null : (u : LogicalType) (o : Outcome) (vs : List Value) → is_single u ≡ true
    → GivesType (with_nullability u false) o → NullOnlyBy WhereAny vs o
never_null (bool_type n) (gives null) vs k h = cc
never_null (integer_type p n) (gives null) vs k h = cc
never_null (text_type n) (gives null) vs k h = cc
never_null u (gives null) vs k h = cc
never_null u (gives v) vs k h = tt
never_null u (faults f) vs k h = tt

-- a strict function that returns a value of its type, not null, or a fault
module _ (id : List ℕ) (n : Arity) (s : Takes) (g : Gives) (i : Bool) (f : PType → List Value → Outcome)
    (named : get_or id 0 0 ≡ 115) where
  pub strict_lawful : ((t : LogicalType) (vs : List Value) → IsAsked (strict_of id n s g i f) t vs
      → GivesType (with_nullability (given_type g t) false) (f (ptype_in t) vs))
      → ((t : LogicalType) (vs : List Value) → IsAsked (strict_of id n s g i f) t vs → i ≡ true
      → GivesValue (f (ptype_in t) vs))
      → LawfulRow (strict_of id n s g i f)
  strict_lawful typed settled = record {
    named = named;
    typed = λ t vs a.
        widened (given_type g t) (f (ptype_in t) vs)
        (given_single g t (asked_single s t vs a.given)) (typed t vs a);
    nulls = λ t vs a.
        never_null (given_type g t) (f (ptype_in t) vs) vs
        (given_single g t (asked_single s t vs a.given)) (typed t vs a);
    settled = settled;
    strict = λ e. refl;
  }

-- P of its outcome, since it sees integers and nothing else
module _ (P : Outcome → Type 0) (p : PType) (n : Bool) where
  one_number : (f : PType → ℤ → Outcome) (vs : List Value) → fits (Exact 1) (length vs) ≡ true
      → AreOf (integer_type p n) vs → list_any is_null vs ≡ false
      → ((z : ℤ) → FitsPType p z → P (f p z)) → P (one_int f p vs)
  one_number f (number z ∷ []) e h w k = k z h.0
  one_number f (null ∷ []) e h w k = cc
  one_number f (v ∷ []) e h w k = absurd h.0
  one_number f [] e h w k = cc
  one_number f (v ∷ x ∷ vs) e h w k = absurd (omega (arith, eqb-true _ _ e))

  two_numbers : (f : PType → ℤ → ℤ → Outcome) (vs : List Value)
      → fits (Exact 2) (length vs) ≡ true → AreOf (integer_type p n) vs
      → list_any is_null vs ≡ false
      → ((z y : ℤ) → FitsPType p z → FitsPType p y → P (f p z y)) → P (two_ints f p vs)
  two_numbers f (number z ∷ number y ∷ []) e h w k = k z y h.0 h.1.0
  two_numbers f (number z ∷ null ∷ []) e h w k = cc
  two_numbers f (number z ∷ v ∷ []) e h w k = absurd h.1.0
  two_numbers f (null ∷ v ∷ []) e h w k = cc
  two_numbers f (v ∷ x ∷ []) e h w k = absurd h.0
  two_numbers f (v ∷ []) e h w k = cc
  two_numbers f [] e h w k = cc
  two_numbers f (v ∷ x ∷ y ∷ vs) e h w k = absurd (omega (arith, eqb-true _ _ e))

module _ (P : Outcome → Type 0) (p : PType) (n : Bool) where
  one_string : (f : List ℕ → Outcome) (vs : List Value) → fits (Exact 1) (length vs) ≡ true
      → AreOf (text_type n) vs → list_any is_null vs ≡ false
      → ((bs : List ℕ) → IsUtf8 bs → P (f bs)) → P (one_text f p vs)
  one_string f (text bs ∷ []) e h w k = k bs h.0
  one_string f (null ∷ []) e h w k = cc
  one_string f (v ∷ []) e h w k = absurd h.0
  one_string f [] e h w k = cc
  one_string f (v ∷ x ∷ vs) e h w k = absurd (omega (arith, eqb-true _ _ e))

  two_strings : (f : List ℕ → List ℕ → Outcome) (vs : List Value)
      → fits (Exact 2) (length vs) ≡ true → AreOf (text_type n) vs
      → list_any is_null vs ≡ false
      → ((bs cs : List ℕ) → IsUtf8 bs → IsUtf8 cs → P (f bs cs)) → P (two_texts f p vs)
  two_strings f (text bs ∷ text cs ∷ []) e h w k = k bs cs h.0 h.1.0
  two_strings f (text bs ∷ null ∷ []) e h w k = cc
  two_strings f (text bs ∷ v ∷ []) e h w k = absurd h.1.0
  two_strings f (null ∷ v ∷ []) e h w k = cc
  two_strings f (v ∷ x ∷ []) e h w k = absurd h.0
  two_strings f (v ∷ []) e h w k = cc
  two_strings f [] e h w k = cc
  two_strings f (v ∷ x ∷ y ∷ vs) e h w k = absurd (omega (arith, eqb-true _ _ e))

  one_bool : (f : Bool → Outcome) (vs : List Value) → fits (Exact 1) (length vs) ≡ true
      → AreOf (bool_type n) vs → list_any is_null vs ≡ false
      → ((b : Bool) → P (f b)) → P (one_truth f p vs)
  one_bool f (truth b ∷ []) e h w k = k b
  one_bool f (null ∷ []) e h w k = cc
  one_bool f (v ∷ []) e h w k = absurd h.0
  one_bool f [] e h w k = cc
  one_bool f (v ∷ x ∷ vs) e h w k = absurd (omega (arith, eqb-true _ _ e))

-- of integers alone
abbrev pub OfIntegers : Kind → Type 0
OfIntegers kind.Integer = Unit {0}
OfIntegers (kind.Within p) = Unit {0}
OfIntegers k = ⊥

int_kind : (k : Kind) (t : LogicalType) → OfIntegers k → is_kind k t ≡ true
    → is_integer_type t ≡ true
int_kind kind.Integer (integer_type p n) w e = refl
int_kind (kind.Within q) (integer_type p n) w e = refl
int_kind kind.Integer t w e = cc
int_kind (kind.Within q) t w e = cc
int_kind c t w e = absurd w

-- a function of integers returns a value of its type that is not null, or a fault
module _ (id : List ℕ) (k : Kind) (g : Gives) (i : Bool) (named : get_or id 0 0 ≡ 115)
    (whole : OfIntegers k) where
  pub one_int_lawful : (f : PType → ℤ → Outcome)
      → ((p : PType) (n : Bool) (z : ℤ) → is_kind k (integer_type p n) ≡ true → FitsPType p z
      → GivesType (with_nullability (given_type g (integer_type p n)) false) (f p z))
      → ((p : PType) (z : ℤ) → i ≡ true → FitsPType p z → GivesValue (f p z))
      → LawfulRow (strict_row id 1 (Alike k) g i (one_int f))
  one_int_lawful f typed settled =
      strict_lawful id (Exact 1) (Alike k) g i (one_int f) named
      (λ t vs a. by t vs a.fit a.given.0 a.given.1 (a.whole refl) (int_kind k t whole a.given.0))
      (λ t vs a e.
      of t vs a.fit a.given.1 (a.whole refl) (int_kind k t whole a.given.0) e)
    where
      by : (t : LogicalType) (vs : List Value) → fits (Exact 1) (length vs) ≡ true
          → is_kind k t ≡ true → AreOf t vs → list_any is_null vs ≡ false
          → is_integer_type t ≡ true
          → GivesType (with_nullability (given_type g t) false) (one_int f (ptype_in t) vs)
      by (integer_type p n) vs e b h w c =
          one_number (GivesType (with_nullability (given_type g (integer_type p n)) false)) p n f vs
          e h w (λ z x. typed p n z b x)
      by t vs e b h w c = cc

      of : (t : LogicalType) (vs : List Value) → fits (Exact 1) (length vs) ≡ true
          → AreOf t vs → list_any is_null vs ≡ false → is_integer_type t ≡ true → i ≡ true
          → GivesValue (one_int f (ptype_in t) vs)
      of (integer_type p n) vs e h w c s =
          one_number GivesValue p n f vs e h w (λ z x. settled p z s x)
      of t vs e h w c s = cc

  pub two_ints_lawful : (f : PType → ℤ → ℤ → Outcome)
      → ((p : PType) (n : Bool) (z y : ℤ) → FitsPType p z → FitsPType p y
      → GivesType (with_nullability (given_type g (integer_type p n)) false) (f p z y))
      → ((p : PType) (z y : ℤ) → i ≡ true → FitsPType p z → FitsPType p y
      → GivesValue (f p z y))
      → LawfulRow (strict_row id 2 (Alike k) g i (two_ints f))
  two_ints_lawful f typed settled =
      strict_lawful id (Exact 2) (Alike k) g i (two_ints f) named
      (λ t vs a. by t vs a.fit a.given.1 (a.whole refl) (int_kind k t whole a.given.0))
      (λ t vs a e.
      of t vs a.fit a.given.1 (a.whole refl) (int_kind k t whole a.given.0) e)
    where
      by : (t : LogicalType) (vs : List Value) → fits (Exact 2) (length vs) ≡ true
          → AreOf t vs → list_any is_null vs ≡ false → is_integer_type t ≡ true
          → GivesType (with_nullability (given_type g t) false) (two_ints f (ptype_in t) vs)
      by (integer_type p n) vs e h w c =
          two_numbers (GivesType (with_nullability (given_type g (integer_type p n)) false)) p n f vs
          e h w (λ z y x v. typed p n z y x v)
      by t vs e h w c = cc

      of : (t : LogicalType) (vs : List Value) → fits (Exact 2) (length vs) ≡ true
          → AreOf t vs → list_any is_null vs ≡ false → is_integer_type t ≡ true → i ≡ true
          → GivesValue (two_ints f (ptype_in t) vs)
      of (integer_type p n) vs e h w c s =
          two_numbers GivesValue p n f vs e h w (λ z y x v. settled p z y s x v)
      of t vs e h w c s = cc

-- a function of texts, or of a truth value, returns a value of its type that is not null, or a fault
module _ (id : List ℕ) (g : Gives) (i : Bool) (named : get_or id 0 0 ≡ 115) where
  pub one_text_lawful : (f : List ℕ → Outcome)
      → ((n : Bool) (bs : List ℕ) → IsUtf8 bs
      → GivesType (with_nullability (given_type g (text_type n)) false) (f bs))
      → ((bs : List ℕ) → i ≡ true → IsUtf8 bs → GivesValue (f bs))
      → LawfulRow (strict_row id 1 (Alike kind.Text) g i (one_text f))
  one_text_lawful f typed settled =
      strict_lawful id (Exact 1) (Alike kind.Text) g i (one_text f) named
      (λ t vs a. by t vs a.fit a.given.0 a.given.1 (a.whole refl))
      (λ t vs a e. of t vs a.fit a.given.0 a.given.1 (a.whole refl) e)
    where
      by : (t : LogicalType) (vs : List Value) → fits (Exact 1) (length vs) ≡ true
          → is_kind kind.Text t ≡ true → AreOf t vs → list_any is_null vs ≡ false
          → GivesType (with_nullability (given_type g t) false) (one_text f (ptype_in t) vs)
      by (text_type n) vs e b h w =
          one_string (GivesType (with_nullability (given_type g (text_type n)) false))
          (ptype_in (text_type n)) n f vs e h w (λ bs u. typed n bs u)
      by t vs e b h w = cc

      of : (t : LogicalType) (vs : List Value) → fits (Exact 1) (length vs) ≡ true
          → is_kind kind.Text t ≡ true → AreOf t vs → list_any is_null vs ≡ false → i ≡ true
          → GivesValue (one_text f (ptype_in t) vs)
      of (text_type n) vs e b h w s =
          one_string GivesValue (ptype_in (text_type n)) n f vs e h w (λ bs u. settled bs s u)
      of t vs e b h w s = cc

  pub two_texts_lawful : (f : List ℕ → List ℕ → Outcome)
      → ((n : Bool) (bs cs : List ℕ) → IsUtf8 bs → IsUtf8 cs
      → GivesType (with_nullability (given_type g (text_type n)) false) (f bs cs))
      → ((bs cs : List ℕ) → i ≡ true → IsUtf8 bs → IsUtf8 cs → GivesValue (f bs cs))
      → LawfulRow (strict_row id 2 (Alike kind.Text) g i (two_texts f))
  two_texts_lawful f typed settled =
      strict_lawful id (Exact 2) (Alike kind.Text) g i (two_texts f) named
      (λ t vs a. by t vs a.fit a.given.0 a.given.1 (a.whole refl))
      (λ t vs a e. of t vs a.fit a.given.0 a.given.1 (a.whole refl) e)
    where
      by : (t : LogicalType) (vs : List Value) → fits (Exact 2) (length vs) ≡ true
          → is_kind kind.Text t ≡ true → AreOf t vs → list_any is_null vs ≡ false
          → GivesType (with_nullability (given_type g t) false) (two_texts f (ptype_in t) vs)
      by (text_type n) vs e b h w =
          two_strings (GivesType (with_nullability (given_type g (text_type n)) false))
          (ptype_in (text_type n)) n f vs e h w (λ bs cs u v. typed n bs cs u v)
      by t vs e b h w = cc

      of : (t : LogicalType) (vs : List Value) → fits (Exact 2) (length vs) ≡ true
          → is_kind kind.Text t ≡ true → AreOf t vs → list_any is_null vs ≡ false → i ≡ true
          → GivesValue (two_texts f (ptype_in t) vs)
      of (text_type n) vs e b h w s =
          two_strings GivesValue (ptype_in (text_type n)) n f vs e h w
          (λ bs cs u v. settled bs cs s u v)
      of t vs e b h w s = cc

  pub one_truth_lawful : (f : Bool → Outcome)
      → ((n b : Bool) → GivesType (with_nullability (given_type g (bool_type n)) false) (f b))
      → ((b : Bool) → i ≡ true → GivesValue (f b))
      → LawfulRow (strict_row id 1 (Alike kind.Truth) g i (one_truth f))
  one_truth_lawful f typed settled =
      strict_lawful id (Exact 1) (Alike kind.Truth) g i (one_truth f) named
      (λ t vs a. by t vs a.fit a.given.0 a.given.1 (a.whole refl))
      (λ t vs a e. of t vs a.fit a.given.0 a.given.1 (a.whole refl) e)
    where
      by : (t : LogicalType) (vs : List Value) → fits (Exact 1) (length vs) ≡ true
          → is_kind kind.Truth t ≡ true → AreOf t vs → list_any is_null vs ≡ false
          → GivesType (with_nullability (given_type g t) false) (one_truth f (ptype_in t) vs)
      by (bool_type n) vs e b h w =
          one_bool (GivesType (with_nullability (given_type g (bool_type n)) false))
          (ptype_in (bool_type n)) n f vs e h w (λ x. typed n x)
      by t vs e b h w = cc

      of : (t : LogicalType) (vs : List Value) → fits (Exact 1) (length vs) ≡ true
          → is_kind kind.Truth t ≡ true → AreOf t vs → list_any is_null vs ≡ false → i ≡ true
          → GivesValue (one_truth f (ptype_in t) vs)
      of (bool_type n) vs e b h w s =
          one_bool GivesValue (ptype_in (bool_type n)) n f vs e h w (λ x. settled x s)
      of t vs e b h w s = cc
