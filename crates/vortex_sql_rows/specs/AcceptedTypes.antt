-- What accepted types say of arguments and of the result.
use Rattle.std.specs.Prelude.{◌≡◌, suc, List, [], ◌∷◌, Some, None, Bool, true}
use Rattle.std.specs.Prelude.{false, ◌&&◌, ◌||◌, length, refl}
use Rattle.std.specs.List.{list_all}
use Rattle.std.proofs.Common.{sym, ap, subst, cond}
use Rattle.vortex_errors.specs.Arities.{fits}
use Rattle.vortex_types.specs.LogicalTypes.{LogicalType}
use Rattle.vortex_types.specs.LogicalTypes.{bool_type, integer_type, text_type}
use Rattle.vortex_types.specs.TypeEquality.{alike_types, ptype_yes}
use Rattle.vortex_types.specs.Values.{Value, null}
use Rattle.vortex_types.specs.Typing.{HasType}
use Rattle.vortex_interface.specs.Meaning.{HaveTypes}
use Rattle.vortex_sql_rows.specs.declared.types.Gives.{Gives}
use Rattle.vortex_sql_rows.specs.declared.types.Gives.TheVariants as answer
use Rattle.vortex_sql_rows.specs.declared.types.Kind.{Kind}
use Rattle.vortex_sql_rows.specs.declared.types.Kind.TheVariants as kind
use Rattle.vortex_sql_rows.specs.declared.types.Takes.{Takes}
use Rattle.vortex_sql_rows.specs.declared.types.Takes.TheVariants.{Alike, Each, Cases}
use Rattle.vortex_sql_rows.specs.Types.{is_kind, is_single, all_alike, after_first, are_cases}
use Rattle.vortex_sql_rows.specs.Types.{are_taken, main_type, given_type, answer_type}
use Rattle.vortex_sql_rows.specs.Row.{Row, row_type}
use Rattle.vortex_sql_rows.specs.Row.{AreOf, IsOf, IsOfKind, AreOfKind, AfterFirst, AreCases}
use Rattle.vortex_sql_rows.specs.Row.{AreGiven}

pub and_left : (a b : Bool) → (a && b) ≡ true → a ≡ true
and_left true b h = refl
and_left false b h = cc

pub and_right : (a b : Bool) → (a && b) ≡ true → b ≡ true
and_right true b h = h
and_right false b h = cc

pub or_left : (a b : Bool) → a ≡ true → (a || b) ≡ true
or_left true b h = refl
or_left false b h = cc

pub or_right : (a b : Bool) → b ≡ true → (a || b) ≡ true
or_right true b h = refl
or_right false b h = h

pub both_true : (a b : Bool) → a ≡ true → b ≡ true → (a && b) ≡ true
both_true a b h k = (λ i. h i && k i)

pub no : false ≡ true → ⊥
no z = cc

-- what accepted types say
pub record Accepted (r : Row) (ts : List LogicalType) (t : LogicalType) : Type 0 where
  pub fit : fits r.arity (length ts) ≡ true
  pub taken : are_taken r.types.takes ts ≡ true
  pub answer : t ≡ answer_type r.types ts

pub accepted : (r : Row) (ts : List LogicalType) (t : LogicalType) → row_type r ts ≡ Some t
    → Accepted r ts t
accepted r ts t e = by (fits r.arity (length ts)) (are_taken r.types.takes ts) refl refl e
  where
    by : (b c : Bool) → fits r.arity (length ts) ≡ b → are_taken r.types.takes ts ≡ c
        → cond b (cond c (Some (answer_type r.types ts)) None) None ≡ Some t → Accepted r ts t
    by true true f k e = record { fit = f; taken = k; answer = cc }
    by true false f k e = cc
    by false c f k e = cc

pub kind_single : (k : Kind) (t : LogicalType) → is_kind k t ≡ true → is_single t ≡ true
kind_single k (bool_type n) e = refl
kind_single k (integer_type p n) e = refl
kind_single k (text_type n) e = refl
kind_single kind.Any t e = cc
kind_single kind.Truth t e = cc
kind_single kind.Integer t e = cc
kind_single (kind.Within p) t e = cc
kind_single kind.Text t e = cc

-- a value of a type has it made nullable
wider : (t : LogicalType) (v : Value) → is_single t ≡ true → HasType t v → IsOf t v
wider (bool_type m) null k h = refl
wider (bool_type m) v k h = h
wider (integer_type p m) null k h = refl
wider (integer_type p m) v k h = h
wider (text_type m) null k h = refl
wider (text_type m) v k h = h
wider t v k h = cc

-- and so has one of a type that is alike
over : (t u : LogicalType) (v : Value) → is_single t ≡ true → alike_types t u ≡ true
    → HasType u v → IsOf t v
over (bool_type n) (bool_type m) null k a h = refl
over (bool_type n) (bool_type m) v k a h = h
over (integer_type p n) (integer_type q m) null k a h = refl
over (integer_type p n) (integer_type q m) v k a h =
    subst (λ x. HasType (integer_type x true) v) (sym (ptype_yes p q (and_left _ _ a))) h
over (text_type n) (text_type m) null k a h = refl
over (text_type n) (text_type m) v k a h = h
over t u v k a h = cc

of_kind : (k : Kind) (t : LogicalType) (v : Value) → is_kind k t ≡ true → HasType t v
    → IsOfKind k v
of_kind k t v e h = (t, e, wider t v (kind_single k t e) h)

alike_values : (t : LogicalType) (us : List LogicalType) (vs : List Value) → is_single t ≡ true
    → all_alike t us ≡ true → HaveTypes us vs → AreOf t vs
alike_values t [] [] k a h = tt
alike_values t (u ∷ us) (v ∷ vs) k a h = (
  over t u v k (and_left _ _ a) h.0,
  alike_values t us vs k (and_right (alike_types t u) _ a) h.1,
)
alike_values t [] (v ∷ vs) k a h = absurd h
alike_values t (u ∷ us) [] k a h = absurd h

kind_values : (k : Kind) (us : List LogicalType) (vs : List Value) → list_all (is_kind k) us ≡ true
    → HaveTypes us vs → AreOfKind k vs
kind_values k [] [] a h = tt
kind_values k (u ∷ us) (v ∷ vs) a h =
    (of_kind k u v (and_left _ _ a) h.0, kind_values k us vs (and_right (is_kind k u) _ a) h.1)
kind_values k [] (v ∷ vs) a h = absurd h
kind_values k (u ∷ us) [] a h = absurd h

later_values : (b c : Kind) (us : List LogicalType) (vs : List Value) → after_first b c us ≡ true
    → HaveTypes us vs → AfterFirst b c vs
later_values b c [] [] a h = tt
later_values b c (u ∷ us) (v ∷ vs) a h =
    (of_kind b u v (and_left _ _ a) h.0, kind_values c us vs (and_right (is_kind b u) _ a) h.1)
later_values b c [] (v ∷ vs) a h = absurd h
later_values b c (u ∷ us) [] a h = absurd h

case_values : (t : LogicalType) (us : List LogicalType) (vs : List Value) → is_single t ≡ true
    → are_cases t us ≡ true → HaveTypes us vs → AreCases t vs
case_values t [] [] k a h = tt
case_values t (u ∷ []) (v ∷ []) k a h = over t u v k a h.0
case_values t (c ∷ u ∷ us) (w ∷ v ∷ vs) k a h = (
  of_kind kind.Truth c w (and_left _ _ a) h.0,
  (
    over t u v k (and_left _ _ (and_right (is_kind kind.Truth c) _ a)) h.1.0,
    case_values t us vs k (and_right (alike_types t u) _ (and_right (is_kind kind.Truth c) _ a)) h.1.1,
  ),
)
case_values t [] (v ∷ vs) k a h = absurd h
case_values t (u ∷ us) [] k a h = absurd h
case_values t (u ∷ []) (v ∷ w ∷ vs) k a h = absurd h.1
case_values t (c ∷ u ∷ us) (v ∷ []) k a h = absurd h.1

pub given_values : (s : Takes) (ts : List LogicalType) (vs : List Value) → are_taken s ts ≡ true
    → HaveTypes ts vs → AreGiven s (main_type s ts) vs
given_values (Alike k) (t ∷ ts) (v ∷ vs) e h =
    let is = and_left (is_kind k t) _ e in
    let one = kind_single k t is in
    (is, (wider t v one h.0, alike_values t ts vs one (and_right (is_kind k t) _ e) h.1))
given_values (Each a b c) (t ∷ ts) (v ∷ vs) e h =
    let is = and_left (is_kind a t) _ e in (
      is,
      (
        wider t v (kind_single a t is) h.0,
        later_values b c ts vs (and_right (is_kind a t) _ e) h.1,
      ),
    )
given_values Cases (c ∷ t ∷ ts) (w ∷ v ∷ vs) e h =
    let later = and_right (is_kind kind.Truth c) _ e in
    let is = and_left (is_kind kind.Any t) _ later in
    let one = kind_single kind.Any t is in (
      is,
      (
        of_kind kind.Truth c w (and_left (is_kind kind.Truth c) _ e) h.0,
        (
          wider t v one h.1.0,
          case_values t ts vs one (and_right (is_kind kind.Any t) _ later) h.1.1,
        ),
      ),
    )
given_values (Alike k) [] vs e h = cc
given_values (Each a b c) [] vs e h = cc
given_values Cases [] vs e h = cc
given_values Cases (c ∷ []) vs e h = cc
given_values (Alike k) (t ∷ ts) [] e h = absurd h
given_values (Each a b c) (t ∷ ts) [] e h = absurd h
given_values Cases (c ∷ t ∷ ts) [] e h = absurd h
given_values Cases (c ∷ t ∷ ts) (v ∷ []) e h = absurd h.1

pub main_single : (s : Takes) (ts : List LogicalType) → are_taken s ts ≡ true
    → is_single (main_type s ts) ≡ true
main_single (Alike k) (t ∷ ts) e = kind_single k t (and_left _ _ e)
main_single (Each a b c) (t ∷ ts) e = kind_single a t (and_left _ _ e)
main_single Cases (c ∷ t ∷ ts) e =
    kind_single kind.Any t (and_left _ _ (and_right (is_kind kind.Truth c) _ e))
main_single (Alike k) [] e = cc
main_single (Each a b c) [] e = cc
main_single Cases [] e = cc
main_single Cases (c ∷ []) e = cc

pub given_single : (g : Gives) (t : LogicalType) → is_single t ≡ true
    → is_single (given_type g t) ≡ true
given_single answer.Alike t e = e
given_single answer.Truth t e = refl
given_single (answer.Integer p) t e = refl
given_single answer.Text t e = refl

pub same_count : (ts : List LogicalType) (vs : List Value) → HaveTypes ts vs → length ts ≡ length vs
same_count [] [] h = refl
same_count (t ∷ ts) (v ∷ vs) h = ap suc (same_count ts vs h.1)
same_count [] (v ∷ vs) h = absurd h
same_count (t ∷ ts) [] h = absurd h
