-- The first value that is not null.
use Rattle.std.specs.Prelude.{◌≡◌, codes, List, [], ◌∷◌, None, true, false, refl, if◌then◌else◌}
use Rattle.vortex_errors.specs.declared.arity.Arity.TheVariants.{Variadic}
use Rattle.vortex_types.specs.LogicalTypes.{LogicalType}
use Rattle.vortex_types.specs.Values.{Value, null, is_null}
use Rattle.vortex_interface.specs.Outcomes.{gives}
use Rattle.vortex_sql_rows.specs.declared.types.Gives.TheVariants as answer
use Rattle.vortex_sql_rows.specs.declared.types.Kind.TheVariants.{Any}
use Rattle.vortex_sql_rows.specs.declared.types.Nulls.TheVariants.{WhereAll}
use Rattle.vortex_sql_rows.specs.declared.types.Takes.TheVariants.{Alike}
use Rattle.vortex_sql_rows.specs.Types.{is_kind}
use Rattle.vortex_sql_rows.specs.Laws.{null_of, kind_single}
use Rattle.vortex_sql_rows.specs.Row.{Row, LawfulRow, AreOf, IsOf, NullOnlyBy}

abbrev pub coalesced : List Value → Value
coalesced [] = null
coalesced (v ∷ vs) = if is_null v then coalesced vs else v

abbrev pub coalesce_row : Row
coalesce_row = record {
  id = codes "sql.coalesce";
  arity = Variadic 1 None;
  types = record { takes = Alike Any; nulls = WhereAll; gives = answer.Alike };
  strict = false;
  infallible = true;
  of = λ p vs. gives (coalesced vs);
}

typed : (t : LogicalType) (vs : List Value) → is_kind Any t ≡ true → AreOf t vs
    → IsOf t (coalesced vs)
typed t [] k h = null_of t (kind_single Any t k)
typed t (null ∷ vs) k h = typed t vs k h.1
typed t (v ∷ vs) k h = h.0

nulls : (vs : List Value) → NullOnlyBy WhereAll vs (gives (coalesced vs))
nulls [] = refl
nulls (null ∷ vs) = nulls vs
nulls (v ∷ vs) = tt

pub coalesce_lawful : LawfulRow coalesce_row
coalesce_lawful = record {
  named = refl;
  typed = λ t vs a. typed t vs a.given.0 a.given.1;
  nulls = λ t vs a. nulls vs;
  settled = λ t vs a e. tt;
  strict = λ e. cc;
}
