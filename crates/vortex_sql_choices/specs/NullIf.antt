-- Null where two values are equal, else the first.
use Rattle.std.specs.Prelude.{◌≡◌, codes, List, [], ◌∷◌, Bool, true, false, refl, if◌then◌else◌}
use Rattle.std.specs.Ordering.{is_eq}
use Rattle.std.proofs.Common.{cond}
use Rattle.vortex_errors.specs.declared.arity.Arity.TheVariants.{Exact}
use Rattle.vortex_types.specs.LogicalTypes.{LogicalType}
use Rattle.vortex_types.specs.Order.{compare_values}
use Rattle.vortex_types.specs.Values.{Value, null}
use Rattle.vortex_interface.specs.Outcomes.{gives}
use Rattle.vortex_sql_rows.specs.declared.types.Gives.TheVariants as answer
use Rattle.vortex_sql_rows.specs.declared.types.Kind.TheVariants.{Any}
use Rattle.vortex_sql_rows.specs.declared.types.Nulls.TheVariants.{Always}
use Rattle.vortex_sql_rows.specs.declared.types.Takes.TheVariants.{Alike}
use Rattle.vortex_sql_rows.specs.Types.{is_kind}
use Rattle.vortex_sql_rows.specs.Laws.{null_of, kind_single}
use Rattle.vortex_sql_rows.specs.Row.{Row, LawfulRow, AreOf, IsOf, NullOnlyBy}

abbrev pub unless_equal : List Value → Value
unless_equal (v ∷ w ∷ []) = if is_eq (compare_values v w) then null else v
unless_equal vs = null

abbrev pub nullif_row : Row
nullif_row = record {
  id = codes "sql.nullif";
  arity = Exact 2;
  types = record { takes = Alike Any; nulls = Always; gives = answer.Alike };
  strict = false;
  infallible = true;
  of = λ p vs. gives (unless_equal vs);
}

null_or : (t : LogicalType) (b : Bool) (v : Value) → IsOf t null → IsOf t v → IsOf t (cond b null v)
null_or t true v h k = h
null_or t false v h k = k

typed : (t : LogicalType) (vs : List Value) → is_kind Any t ≡ true → AreOf t vs
    → IsOf t (unless_equal vs)
typed t (v ∷ w ∷ []) k h =
    null_or t (is_eq (compare_values v w)) v (null_of t (kind_single Any t k)) h.0
typed t [] k h = null_of t (kind_single Any t k)
typed t (v ∷ []) k h = null_of t (kind_single Any t k)
typed t (v ∷ w ∷ x ∷ vs) k h = null_of t (kind_single Any t k)

always : (v : Value) (vs : List Value) → NullOnlyBy Always vs (gives v)
always null vs = refl
always v vs = tt

pub nullif_lawful : LawfulRow nullif_row
nullif_lawful = record {
  named = refl;
  typed = λ t vs a. typed t vs a.given.0 a.given.1;
  nulls = λ t vs a. always (unless_equal vs) vs;
  settled = λ t vs a e. tt;
  strict = λ e. cc;
}
