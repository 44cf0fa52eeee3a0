-- Rows of one stored integer.
use Rattle.std.specs.Prelude.{◌≡◌, ℕ, ℤ, refl, Bool, true, false, not, ◌||◌, int_lt}
use Rattle.std.specs.Prelude.{Option, Some, None}
use Rattle.std.specs.Prelude.{List, [], ◌∷◌, length, get_or}
use Rattle.std.specs.List.{list_any}
use Rattle.std.proofs.Common.{arith, cond, ap, subst, sym}
use Rattle.std.proofs.lemmas.Bool.{eqb-true}
use Rattle.std.proofs.lemmas.Int.{ints}
use Rattle.vortex_types.specs.declared.dtype.PType.{PType}
use Rattle.vortex_errors.specs.Arities.{fits as fits_arity}
use Rattle.vortex_errors.specs.declared.arity.Arity.TheVariants.{Exact}
use Rattle.vortex_types.specs.LogicalTypes.{LogicalType, integer_type}
use Rattle.vortex_types.specs.Typing.{FitsPType, least_of, greatest_of}
use Rattle.vortex_types.specs.Values.{Value, null, number, is_null}
use Rattle.vortex_interface.specs.Outcomes.{Outcome, GivesType, GivesValue}
use Rattle.vortex_sql_rows.specs.declared.faults.RowFault.TheVariants.{OtherValues}
use Rattle.vortex_sql_rows.specs.declared.types.Gives.TheVariants as answer
use Rattle.vortex_sql_rows.specs.declared.types.Kind.TheVariants.{Within}
use Rattle.vortex_sql_rows.specs.declared.types.Takes.TheVariants.{Alike}
use Rattle.vortex_sql_rows.specs.Faults.{faults_by}
use Rattle.vortex_sql_rows.specs.Integers.{checked, in_range, wide_fits}
use Rattle.vortex_sql_rows.specs.Row.{Row, LawfulRow, AreOf}
use Rattle.vortex_sql_rows.specs.Shapes.{strict_row, one_int, one_int_lawful}
use Rattle.vortex_sql_rows.specs.Types.{is_in, is_kind, ptype_in}

-- no call passes a number that is none of the type
abbrev pub on_stored : (ℤ → Outcome) → Option ℤ → Outcome
on_stored f (Some z) = f z
on_stored f None = faults_by OtherValues

abbrev pub stored : PType → (ℤ → Outcome) → ℤ → Outcome
stored q f z = on_stored f (checked q z)

-- takes an integer of the first type, and returns one of the second
abbrev pub stored_row : List ℕ → PType → PType → Bool → (ℤ → Outcome) → Row
stored_row id q r i f =
    strict_row id 1 (Alike (Within q)) (answer.Integer r) i (one_int (λ p. stored q f))

-- a number that its type has is one that is checked
in_type : (p : PType) (z : ℤ) → FitsPType p z → is_in p z ≡ true
in_type p z h = by (int_lt z (least_of p)) (int_lt (greatest_of p) z) refl refl
  where
    by : (a b : Bool) → int_lt z (least_of p) ≡ a → int_lt (greatest_of p) z ≡ b
        → is_in p z ≡ true
    by true b e f = absurd (omega (arith, ints, e, h.0))
    by false true e f = absurd (omega (arith, ints, f, h.1))
    by false false e f = (λ i. not (e i || f i))

is_checked : (p : PType) (z : ℤ) → FitsPType p z → checked p z ≡ Some z
is_checked p z h = ap (λ b. cond b (Some z) None) (in_type p z h)

module _ (id : List ℕ) (q r : PType) (named : get_or id 0 0 ≡ 115) (f : ℤ → Outcome)
    (typed : (z : ℤ) → FitsPType q z → GivesType (integer_type r false) (f z)) where
  typed_stored : (z : ℤ) → GivesType (integer_type r false) (stored q f z)
  typed_stored z = by (is_in q z) refl
    where
      by : (b : Bool) → is_in q z ≡ b
          → GivesType (integer_type r false) (on_stored f (cond b (Some z) None))
      by true e = typed z (in_range q z e)
      by false e = tt

  -- where some numbers of its type have a fault
  pub stored_lawful : LawfulRow (stored_row id q r false f)
  stored_lawful =
      one_int_lawful id (Within q) (answer.Integer r) false named tt (λ p. stored q f)
      (λ p n z k h. typed_stored z) (λ p z e h. cc)

  -- where none has
  module _ (settled : (z : ℤ) → FitsPType q z → GivesValue (f z)) where
    settled_stored : (z : ℤ) → FitsPType q z → GivesValue (stored q f z)
    settled_stored z h =
        subst (λ o. GivesValue (on_stored f o)) (sym (is_checked q z h)) (settled z h)

    has_value : (t : LogicalType) (vs : List Value) → fits_arity (Exact 1) (length vs) ≡ true
        → is_kind (Within q) t ≡ true → AreOf t vs → list_any is_null vs ≡ false
        → GivesValue (one_int (λ p. stored q f) (ptype_in t) vs)
    has_value (integer_type p n) (number z ∷ []) e b h w =
        settled_stored z (wide_fits q p z b h.0)
    has_value (integer_type p n) (null ∷ []) e b h w = cc
    has_value (integer_type p n) (v ∷ []) e b h w = absurd h.0
    has_value (integer_type p n) [] e b h w = cc
    has_value (integer_type p n) (v ∷ x ∷ vs) e b h w = absurd (omega (arith, eqb-true _ _ e))
    has_value t vs e b h w = cc

    pub settled_lawful : LawfulRow (stored_row id q r true f)
    settled_lawful = record {
      named = named;
      typed = λ t vs a.
          stored_lawful.typed t vs (record { fit = a.fit; given = a.given; whole = a.whole });
      nulls = λ t vs a.
          stored_lawful.nulls t vs (record { fit = a.fit; given = a.given; whole = a.whole });
      settled = λ t vs a e. has_value t vs a.fit a.given.0 a.given.1 (a.whole refl);
      strict = stored_lawful.strict;
    }
