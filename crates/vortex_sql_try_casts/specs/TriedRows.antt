-- A function that is tried: its value, and null where it faults.
use Rattle.std.specs.Prelude.{◌≡◌, ℕ, List, true, get_or, refl}
use Rattle.vortex_types.specs.LogicalTypes.{LogicalType, with_nullability}
use Rattle.vortex_types.specs.Values.{Value, null}
use Rattle.vortex_interface.specs.Outcomes.{Outcome, gives, faults, GivesType, GivesValue}
use Rattle.vortex_sql_rows.specs.declared.types.Nulls.TheVariants.{Always}
use Rattle.vortex_sql_rows.specs.Laws.{null_of}
use Rattle.vortex_sql_rows.specs.Row.{Row, LawfulRow, NullOnlyBy}
use Rattle.vortex_sql_rows.specs.Types.{given_type, is_single}

abbrev pub or_null : Outcome → Outcome
or_null (faults f) = gives null
or_null (gives v) = gives v

abbrev pub tried_row : List ℕ → Row → Row
tried_row id r = record {
  id = id;
  arity = r.arity;
  types = record { takes = r.types.takes; nulls = Always; gives = r.types.gives };
  strict = r.strict;
  infallible = true;
  of = λ p vs. or_null (r.of p vs);
}

-- named: the identity of the function that tries it begins with `s`
-- single: its result is of a type that has null, whatever its arguments
pub record MayTry (id : List ℕ) (r : Row) : Type 0 where
  pub named : get_or id 0 0 ≡ 115
  pub single : (t : LogicalType) → is_single (given_type r.types.gives t) ≡ true

typed_or_null : (t : LogicalType) (o : Outcome) → is_single t ≡ true
    → GivesType (with_nullability t true) o → GivesType (with_nullability t true) (or_null o)
typed_or_null t (faults f) k h = null_of t k
typed_or_null t (gives v) k h = h

may_be_null : (vs : List Value) (o : Outcome) → NullOnlyBy Always vs (or_null o)
may_be_null vs (faults f) = refl
may_be_null vs (gives null) = refl
may_be_null vs (gives v) = tt

has_value : (o : Outcome) → GivesValue (or_null o)
has_value (faults f) = tt
has_value (gives v) = tt

pub tried_lawful : (id : List ℕ) (r : Row) → MayTry id r → LawfulRow r → LawfulRow (tried_row id r)
tried_lawful id r may law = record {
  named = may.named;
  typed = λ t vs a.
      typed_or_null (given_type r.types.gives t) (r.of _ vs) (may.single t)
      (law.typed t vs (record { fit = a.fit; given = a.given; whole = a.whole }));
  nulls = λ t vs a. may_be_null vs (r.of _ vs);
  settled = λ t vs a e. has_value (r.of _ vs);
  strict = λ e. refl;
}
