-- Whether two values differ, where nulls are equal.
use Rattle.std.specs.Prelude.{◌≡◌, codes, List, [], ◌∷◌, not, true, false, refl}
use Rattle.vortex_errors.specs.declared.arity.Arity.TheVariants.{Exact}
use Rattle.vortex_types.specs.LogicalTypes.{bool_type}
use Rattle.vortex_types.specs.Values.{Value, truth}
use Rattle.vortex_interface.specs.Outcomes.{gives}
use Rattle.vortex_sql_choices.specs.InList.{is_same}
use Rattle.vortex_sql_rows.specs.declared.types.Gives.TheVariants as answer
use Rattle.vortex_sql_rows.specs.declared.types.Kind.TheVariants.{Any}
use Rattle.vortex_sql_rows.specs.declared.types.Nulls.TheVariants.{Never}
use Rattle.vortex_sql_rows.specs.declared.types.Takes.TheVariants.{Alike}
use Rattle.vortex_sql_rows.specs.Row.{Row, LawfulRow, IsOf, NullOnlyBy}

abbrev pub distinct : List Value → Value
distinct (v ∷ w ∷ []) = truth (not (is_same v w))
distinct vs = truth true

abbrev pub distinct_row : Row
distinct_row = record {
  id = codes "sql.is_distinct";
  arity = Exact 2;
  types = record { takes = Alike Any; nulls = Never; gives = answer.Truth };
  strict = false;
  infallible = true;
  of = λ p vs. gives (distinct vs);
}

typed : (vs : List Value) → IsOf (bool_type false) (distinct vs)
typed (v ∷ w ∷ []) = tt
typed [] = tt
typed (v ∷ []) = tt
typed (v ∷ w ∷ x ∷ vs) = tt

never_null : (vs : List Value) → NullOnlyBy Never vs (gives (distinct vs))
never_null (v ∷ w ∷ []) = tt
never_null [] = tt
never_null (v ∷ []) = tt
never_null (v ∷ w ∷ x ∷ vs) = tt

pub distinct_lawful : LawfulRow distinct_row
distinct_lawful = record {
  named = refl;
  typed = λ t vs a. typed vs;
  nulls = λ t vs a. never_null vs;
  settled = λ t vs a e. tt;
  strict = λ e. cc;
}
