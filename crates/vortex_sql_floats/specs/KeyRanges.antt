-- The integer of a float has 64 bits; and the laws of functions of one stored integer.
use Rattle.std.specs.Prelude.{◌≡◌, ℕ, ℤ, refl, Bool, true, false, not, ◌||◌, int_lt}
use Rattle.std.specs.Prelude.{Option, Some, None}
use Rattle.std.specs.Prelude.{List, [], ◌∷◌, length, get_or}
use Rattle.std.specs.List.{list_any}
use Rattle.std.specs.Float.{Float, binary64}
use Rattle.std.proofs.Common.{T, arith, cond, ap}
use Rattle.std.proofs.lemmas.Bool.{eqb-true}
use Rattle.std.proofs.lemmas.Int.{ints}
use lib.Ieee.{fits}
use Rattle.vortex_types.specs.declared.dtype.PType.{PType}
use Rattle.vortex_types.specs.declared.dtype.PType.TheVariants.{I64}
use Rattle.vortex_errors.specs.Arities.{fits as fits_arity}
use Rattle.vortex_errors.specs.declared.arity.Arity.TheVariants.{Exact}
use Rattle.vortex_types.specs.LogicalTypes.{LogicalType, integer_type}
use Rattle.vortex_types.specs.Typing.{FitsPType, least_of, greatest_of}
use Rattle.vortex_types.specs.Values.{Value, null, number, is_null}
use Rattle.vortex_interface.specs.Outcomes.{Outcome, GivesType, GivesValue}
use Rattle.vortex_sql_rows.specs.declared.types.Gives.TheVariants as answer
use Rattle.vortex_sql_rows.specs.declared.types.Kind.TheVariants.{Within}
use Rattle.vortex_sql_rows.specs.declared.types.Takes.TheVariants.{Alike}
use Rattle.vortex_sql_rows.specs.Integers.{checked, wide_fits}
use Rattle.vortex_sql_rows.specs.Row.{LawfulRow, AreOf}
use Rattle.vortex_sql_rows.specs.Shapes.{strict_row, one_int, one_int_lawful}
use Rattle.vortex_sql_rows.specs.Types.{is_in, is_kind, ptype_in}
use Rattle.vortex_sql_floats.specs.FloatFits.{key_fits}
use Rattle.vortex_sql_floats.specs.FloatOutcomes.{gives_float, on_key}

pub float_fits : (x : Float) → T (fits binary64 x)
    → GivesType (integer_type I64 false) (gives_float x)
float_fits x h = key_fits x h

-- a number that its type has is within its range, and is one that is checked
pub in_type : (p : PType) (z : ℤ) → FitsPType p z → is_in p z ≡ true
in_type p z h = by (int_lt z (least_of p)) (int_lt (greatest_of p) z) refl refl
  where
    by : (a b : Bool) → int_lt z (least_of p) ≡ a → int_lt (greatest_of p) z ≡ b
        → is_in p z ≡ true
    by true b e f = absurd (omega (arith, ints, e, h.0))
    by false true e f = absurd (omega (arith, ints, f, h.1))
    by false false e f = (λ i. not (e i || f i))

pub is_checked : (p : PType) (z : ℤ) → FitsPType p z → checked p z ≡ Some z
is_checked p z h = ap (λ b. cond b (Some z) None) (in_type p z h)

pub on_key_fits : {A : Type 0} (t : LogicalType) (f : A → Outcome) → ((a : A) → GivesType t (f a))
    → (o : Option A) → GivesType t (on_key f o)
on_key_fits t f h (Some a) = h a
on_key_fits t f h None = tt

-- a function of the stored integers of one type that never faults, whose result has 64 bits
module _ (id : List ℕ) (q : PType) (named : get_or id 0 0 ≡ 115) (f : ℤ → Outcome)
    (typed : (z : ℤ) → GivesType (integer_type I64 false) (f z))
    (settled : (z : ℤ) → FitsPType q z → GivesValue (f z)) where
  fallible : LawfulRow
      (strict_row id 1 (Alike (Within q)) (answer.Integer I64) false (one_int (λ p. f)))
  fallible =
      one_int_lawful id (Within q) (answer.Integer I64) false named tt (λ p. f)
      (λ p n z k h. typed z) (λ p z e h. cc)

  has_value : (t : LogicalType) (vs : List Value) → fits_arity (Exact 1) (length vs) ≡ true
      → is_kind (Within q) t ≡ true → AreOf t vs → list_any is_null vs ≡ false
      → GivesValue (one_int (λ p. f) (ptype_in t) vs)
  has_value (integer_type p n) (number z ∷ []) e b h w = settled z (wide_fits q p z b h.0)
  has_value (integer_type p n) (null ∷ []) e b h w = cc
  has_value (integer_type p n) (v ∷ []) e b h w = absurd h.0
  has_value (integer_type p n) [] e b h w = cc
  has_value (integer_type p n) (v ∷ x ∷ vs) e b h w = absurd (omega (arith, eqb-true _ _ e))
  has_value t vs e b h w = cc

  pub one_key_lawful : LawfulRow
      (strict_row id 1 (Alike (Within q)) (answer.Integer I64) true (one_int (λ p. f)))
  one_key_lawful = record {
    named = named;
    typed = λ t vs a.
        fallible.typed t vs (record { fit = a.fit; given = a.given; whole = a.whole });
    nulls = λ t vs a.
        fallible.nulls t vs (record { fit = a.fit; given = a.given; whole = a.whole });
    settled = λ t vs a e. has_value t vs a.fit a.given.0 a.given.1 (a.whole refl);
    strict = fallible.strict;
  }
