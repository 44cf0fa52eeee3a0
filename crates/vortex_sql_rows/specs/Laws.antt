-- What a function owes by its rows makes it lawful.
use Rattle.std.specs.Prelude.{◌≡◌, List, [], ◌∷◌, Some, Bool, true, map}
use Rattle.std.specs.Prelude.{false, ◌&&◌, ◌||◌, Any, refl}
use Rattle.std.specs.List.{list_any, list_all}
use Rattle.std.proofs.Common.{sym, ap, ◌∙◌, subst, cond}
use Rattle.std.proofs.lemmas.List.Folds.{list_any-from_Any}
use Rattle.vortex_errors.specs.Arities.{fits}
use Rattle.vortex_types.specs.LogicalTypes.{LogicalType, is_nullable, with_nullability}
use Rattle.vortex_types.specs.LogicalTypes.{without_nullability}
use Rattle.vortex_types.specs.LogicalTypes.{null_type, bool_type, integer_type, text_type}
use Rattle.vortex_types.specs.LogicalTypes.{bytes_type}
use Rattle.vortex_types.specs.LogicalTypes.{struct_type, list_type, fixed_size_list_type, map_type}
use Rattle.vortex_types.specs.Values.{Value, null, is_null}
use Rattle.vortex_types.specs.Typing.{HasType}
use Rattle.vortex_interface.specs.Outcomes.{Outcome, gives, faults, GivesType, GivesNull}
use Rattle.vortex_interface.specs.Outcomes.{GivesValue}
use Rattle.vortex_interface.specs.Meaning.{HaveTypes, AreAlike}
use Rattle.vortex_sql_rows.specs.declared.types.Nulls.{Nulls}
use Rattle.vortex_sql_rows.specs.declared.types.Nulls.TheVariants as nulls_in
use Rattle.vortex_sql_rows.specs.declared.types.Takes.{Takes}
use Rattle.vortex_sql_rows.specs.declared.types.Takes.TheVariants.{Alike, Each, Cases}
use Rattle.vortex_sql_rows.specs.Types.{is_single}
use Rattle.vortex_sql_rows.specs.Types.{main_type, given_type, nullable_by, answer_type}
use Rattle.vortex_sql_rows.specs.Types.{ptype_in, lacks_last}
use Rattle.vortex_sql_rows.specs.Row.{Row, LawfulRow, IsAsked, row_type, row_means, row_ptype}
use Rattle.vortex_sql_rows.specs.Row.{IsOf}
use Rattle.vortex_sql_rows.specs.Row.{NullOnlyBy, null_by, keeps_null}
pub use Rattle.vortex_sql_rows.specs.AcceptedTypes.{Accepted, accepted, and_left, and_right}
pub use Rattle.vortex_sql_rows.specs.AcceptedTypes.{both_true, given_single, given_values}
pub use Rattle.vortex_sql_rows.specs.AcceptedTypes.{kind_single, main_single, no, or_left}
pub use Rattle.vortex_sql_rows.specs.AcceptedTypes.{or_right, same_count}

null_is : (v : Value) → is_null v ≡ true → v ≡ null
null_is null e = refl
null_is v e = cc

null_typed : (t : LogicalType) → HasType t null → is_nullable t ≡ true
null_typed null_type h = refl
null_typed (bool_type n) h = h
null_typed (integer_type p n) h = h
null_typed (text_type n) h = h
null_typed (bytes_type n) h = h
null_typed (struct_type fs n) h = h
null_typed (list_type t n) h = h
null_typed (fixed_size_list_type t k n) h = h
null_typed (map_type k v n) h = h

may_be : (t : LogicalType) (v : Value) → HasType t v → is_null v ≡ true → is_nullable t ≡ true
may_be t v h e = null_typed t (subst (HasType t) (null_is v e) h)

pub null_of : (t : LogicalType) → is_single t ≡ true → IsOf t null
null_of (bool_type m) k = refl
null_of (integer_type p m) k = refl
null_of (text_type m) k = refl
null_of t k = cc

with_is : (t : LogicalType) → is_single t ≡ true → (n : Bool)
    → is_nullable (with_nullability t n) ≡ n
with_is (bool_type m) k n = refl
with_is (integer_type p m) k n = refl
with_is (text_type m) k n = refl
with_is t k n = cc

-- what is null where its types say so
pub null_only : (n : Nulls) (vs : List Value) (v : Value)
    → (is_null v ≡ true → null_by n vs ≡ true) → NullOnlyBy n vs (gives v)
null_only n vs null h = h refl
null_only n vs v h = tt

-- a value that is not null needs none
narrow : (t : LogicalType) (v : Value) → IsOf t v → is_null v ≡ false
    → HasType (with_nullability t false) v
narrow t null h e = cc
narrow null_type v h e = h
narrow (bool_type n) v h e = h
narrow (integer_type p n) v h e = h
narrow (text_type n) v h e = h
narrow (bytes_type n) v h e = h
narrow (struct_type fs n) v h e = h
narrow (list_type t n) v h e = h
narrow (fixed_size_list_type t k n) v h e = h
narrow (map_type k w n) v h e = h

as_null : (vs : List Value) → Any (λ v. v ≡ null) vs → Any (λ v. is_null v ≡ true) vs
as_null vs (k, v, below, here, is) = (k, v, below, here, ap is_null is)

any_step : (t : LogicalType) (v : Value) (ts : List LogicalType) (vs : List Value) → HasType t v
    → (list_any is_null vs ≡ true → list_any is_nullable ts ≡ true)
    → list_any is_null (v ∷ vs) ≡ true → list_any is_nullable (t ∷ ts) ≡ true
any_step t null ts vs h later e =
    or_left (is_nullable t) (list_any is_nullable ts) (null_typed t h)
any_step t v ts vs h later e = or_right (is_nullable t) (list_any is_nullable ts) (later e)

or_else : (a b c d : Bool) → (a ≡ true → c ≡ true) → b ≡ d → (a || b) ≡ true → (c || d) ≡ true
or_else true b c d f e h = or_left c d (f refl)
or_else false b c d f e h = or_right c d (sym e ∙ h)

lacks_both : (ts : List LogicalType) (vs : List Value) → HaveTypes ts vs
    → lacks_last vs ≡ lacks_last ts
lacks_both [] [] h = refl
lacks_both (t ∷ []) (v ∷ []) h = refl
lacks_both (t ∷ u ∷ ts) (v ∷ w ∷ vs) h = lacks_both ts vs h.1.1
lacks_both [] (v ∷ vs) h = absurd h
lacks_both (t ∷ ts) [] h = absurd h
lacks_both (t ∷ []) (v ∷ w ∷ vs) h = absurd h.1
lacks_both (t ∷ u ∷ ts) (v ∷ []) h = absurd h.1

any_list : (ts : List LogicalType) (vs : List Value) → HaveTypes ts vs
    → list_any is_null vs ≡ true → list_any is_nullable ts ≡ true
any_list [] [] h e = e
any_list (t ∷ ts) (v ∷ vs) h e = any_step t v ts vs h.0 (λ x. any_list ts vs h.1 x) e
any_list [] (v ∷ vs) h e = absurd h
any_list (t ∷ ts) [] h e = absurd h

-- null only where the type has it
null_list : (n : Nulls) (ts : List LogicalType) (vs : List Value) → HaveTypes ts vs
    → null_by n vs ≡ true → nullable_by n ts ≡ true
null_list nulls_in.Always ts vs h e = refl
null_list nulls_in.Never ts vs h e = cc
null_list nulls_in.WhereAny ts vs h e = any_list ts vs h e
null_list nulls_in.Cases ts vs h e =
    or_else (list_any is_null vs) (lacks_last vs) (list_any is_nullable ts) (lacks_last ts)
    (λ x. any_list ts vs h x) (lacks_both ts vs h) e
null_list nulls_in.WhereAll [] [] h e = e
null_list nulls_in.WhereAll (t ∷ ts) (v ∷ vs) h e =
    both_true (is_nullable t) (list_all is_nullable ts)
    (may_be t v h.0 (and_left (is_null v) (list_all is_null vs) e))
    (null_list nulls_in.WhereAll ts vs h.1 (and_right (is_null v) (list_all is_null vs) e))
null_list nulls_in.WhereAll [] (v ∷ vs) h e = absurd h
null_list nulls_in.WhereAll (t ∷ ts) [] h e = absurd h

strict_null : (m : Nulls) (vs : List Value) → keeps_null m ≡ true → list_any is_null vs ≡ true
    → null_by m vs ≡ true
strict_null nulls_in.WhereAny vs q x = x
strict_null nulls_in.WhereAll vs q x = cc
strict_null nulls_in.Never vs q x = cc
strict_null nulls_in.Cases vs q x = or_left (list_any is_null vs) (lacks_last vs) x
strict_null nulls_in.Always vs q x = refl

-- null where its types say so can only come of nullable types
fitting : (n : Nulls) (ts : List LogicalType) (vs : List Value) (u : LogicalType) (b : Bool)
    (o : Outcome) → HaveTypes ts vs → nullable_by n ts ≡ b
    → GivesType (with_nullability u true) o → NullOnlyBy n vs o
    → GivesType (with_nullability u b) o
fitting n ts vs u b (faults f) h k x y = tt
fitting n ts vs u true (gives v) h k x y = x
fitting n ts vs u false (gives null) h k x y = absurd (no (sym k ∙ null_list n ts vs h y))
fitting n ts vs u false (gives v) h k x y = narrow u v x refl

module _ (r : Row) (law : LawfulRow r) (ts : List LogicalType) (t : LogicalType) (vs : List Value)
    (e : row_type r ts ≡ Some t) (h : HaveTypes ts vs) where
  a : Accepted r ts t
  a = accepted r ts t e

  asked : (r.strict ≡ true → list_any is_null vs ≡ false)
      → IsAsked r (main_type r.types.takes ts) vs
  asked whole = record {
    fit = subst (λ n. fits r.arity n ≡ true) (same_count ts vs h) a.fit;
    given = given_values r.types.takes ts vs a.taken h;
    whole = whole;
  }

  pub never_faults : r.infallible ≡ true → GivesValue (row_means r ts vs)
  never_faults s = by (r.strict) (list_any is_null vs) refl refl
    where
      by : (b c : Bool) → r.strict ≡ b → list_any is_null vs ≡ c
          → GivesValue (cond (b && c) (gives null) (r.of (row_ptype r ts) vs))
      by true true k x = tt
      by true false k x = law.settled (main_type r.types.takes ts) vs (asked (λ z. x)) s
      by false c k x =
          law.settled (main_type r.types.takes ts) vs (asked (λ z. absurd (no (sym k ∙ z)))) s

  typed_by : (r.strict ≡ true → list_any is_null vs ≡ false)
      → GivesType (answer_type r.types ts) (r.of (row_ptype r ts) vs)
  typed_by whole =
      fitting r.types.nulls ts vs (given_type r.types.gives (main_type r.types.takes ts))
      (nullable_by r.types.nulls ts) (r.of (row_ptype r ts) vs) h refl
      (law.typed (main_type r.types.takes ts) vs (asked whole))
      (law.nulls (main_type r.types.takes ts) vs (asked whole))

  pub typed : GivesType t (row_means r ts vs)
  typed =
      subst (λ (u : LogicalType). GivesType u (row_means r ts vs)) (sym a.answer)
      (by (r.strict) (list_any is_null vs) refl refl)
    where
      by : (b c : Bool) → r.strict ≡ b → list_any is_null vs ≡ c
          → GivesType (answer_type r.types ts)
          (cond (b && c) (gives null) (r.of (row_ptype r ts) vs))
      by true true k x =
          fitting r.types.nulls ts vs (given_type r.types.gives (main_type r.types.takes ts))
          (nullable_by r.types.nulls ts) (gives null) h refl
          (null_of (given_type r.types.gives (main_type r.types.takes ts))
          (given_single r.types.gives (main_type r.types.takes ts)
          (main_single r.types.takes ts a.taken)))
          (strict_null r.types.nulls vs (law.strict k) x)
      by true false k x = typed_by (λ z. x)
      by false c k x = typed_by (λ z. absurd (no (sym k ∙ z)))

pub strict_type : (r : Row) → LawfulRow r → (ts : List LogicalType) (t : LogicalType)
    → r.strict ≡ true → row_type r ts ≡ Some t → Any (λ a. is_nullable a ≡ true) ts
    → is_nullable t ≡ true
strict_type r law ts t s e any =
    let a = accepted r ts t e in
    ap is_nullable a.answer
    ∙ with_is (given_type r.types.gives (main_type r.types.takes ts))
    (given_single r.types.gives (main_type r.types.takes ts) (main_single r.types.takes ts a.taken))
    (nullable_by r.types.nulls ts)
    ∙ by r.types.nulls (law.strict s)
  where
    by : (n : Nulls) → keeps_null n ≡ true → nullable_by n ts ≡ true
    by nulls_in.WhereAny k = list_any-from_Any is_nullable ts any
    by nulls_in.WhereAll k = cc
    by nulls_in.Never k = cc
    by nulls_in.Cases k =
        or_left (list_any is_nullable ts) (lacks_last ts) (list_any-from_Any is_nullable ts any)
    by nulls_in.Always k = refl

pub strict_value : (r : Row) (ts : List LogicalType) (vs : List Value) → r.strict ≡ true
    → Any (λ v. v ≡ null) vs → GivesNull (row_means r ts vs)
strict_value r ts vs s any = by (r.strict) (list_any is_null vs) s some
  where
    some : list_any is_null vs ≡ true
    some = list_any-from_Any is_null vs (as_null vs any)

    by : (a b : Bool) → a ≡ true → b ≡ true
        → GivesNull (cond (a && b) (gives null) (r.of (row_ptype r ts) vs))
    by true true x y = refl
    by true false x y = cc
    by false b x y = cc

-- the row meaning sees an integer type, and not whether it has null
same_ptype : (t : LogicalType) → ptype_in (without_nullability t) ≡ ptype_in t
same_ptype null_type = refl
same_ptype (bool_type n) = refl
same_ptype (integer_type p n) = refl
same_ptype (text_type n) = refl
same_ptype (bytes_type n) = refl
same_ptype (struct_type fs n) = refl
same_ptype (list_type t n) = refl
same_ptype (fixed_size_list_type t k n) = refl
same_ptype (map_type k v n) = refl

main_ptype : (s : Takes) (ts : List LogicalType)
    → ptype_in (main_type s (map without_nullability ts)) ≡ ptype_in (main_type s ts)
main_ptype (Alike k) [] = refl
main_ptype (Alike k) (t ∷ ts) = same_ptype t
main_ptype (Each a b c) [] = refl
main_ptype (Each a b c) (t ∷ ts) = same_ptype t
main_ptype Cases [] = refl
main_ptype Cases (c ∷ []) = refl
main_ptype Cases (c ∷ t ∷ ts) = same_ptype t

pub alike : (r : Row) (ts us : List LogicalType) (vs : List Value) → AreAlike ts us
    → row_means r ts vs ≡ row_means r us vs
alike r ts us vs h =
    ap (λ p. cond (r.strict && list_any is_null vs) (gives null) (r.of p vs))
    (sym (main_ptype r.types.takes ts)
    ∙ ap (λ xs. ptype_in (main_type r.types.takes xs)) h ∙ main_ptype r.types.takes us)

single_with : (t : LogicalType) (n : Bool) → is_single t ≡ true
    → is_single (with_nullability t n) ≡ true
single_with (bool_type m) n k = refl
single_with (integer_type p m) n k = refl
single_with (text_type m) n k = refl
single_with t n k = cc

-- the type of a result is that of a truth value, an integer or a text
pub answer_single : (r : Row) (ts : List LogicalType) (t : LogicalType) → row_type r ts ≡ Some t
    → is_single t ≡ true
answer_single r ts t e =
    let a = accepted r ts t e in
    subst (λ (u : LogicalType). is_single u ≡ true) (sym a.answer)
    (single_with (given_type r.types.gives (main_type r.types.takes ts))
    (nullable_by r.types.nulls ts)
    (given_single r.types.gives (main_type r.types.takes ts)
    (main_single r.types.takes ts a.taken)))
