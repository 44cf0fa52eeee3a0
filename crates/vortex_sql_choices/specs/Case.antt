-- The value of the first condition that is true; else the last value, which has no condition.
use Rattle.std.specs.Prelude.{◌≡◌, ◌||◌, codes, List, [], ◌∷◌, None, Bool, true, false, refl}
use Rattle.std.specs.Prelude.{if◌then◌else◌}
use Rattle.std.specs.List.{list_any}
use Rattle.std.proofs.Common.{cond}
use Rattle.vortex_errors.specs.declared.arity.Arity.TheVariants.{Variadic}
use Rattle.vortex_types.specs.LogicalTypes.{LogicalType}
use Rattle.vortex_types.specs.Values.{Value, null, truth, is_null}
use Rattle.vortex_interface.specs.Outcomes.{gives}
use Rattle.vortex_sql_rows.specs.declared.types.Gives.TheVariants as answer
use Rattle.vortex_sql_rows.specs.declared.types.Kind.TheVariants.{Any}
use Rattle.vortex_sql_rows.specs.declared.types.Nulls.TheVariants as nulls_in
use Rattle.vortex_sql_rows.specs.declared.types.Takes.TheVariants.{Cases}
use Rattle.vortex_sql_rows.specs.Types.{lacks_last}
use Rattle.vortex_sql_rows.specs.Laws.{kind_single, null_of, null_only, or_left}
use Rattle.vortex_sql_rows.specs.Shapes.{is_true}
use Rattle.vortex_sql_rows.specs.Row.{Row, LawfulRow, AreCases, AreGiven, IsOf, NullOnlyBy}

abbrev pub case_value : List Value → Value
case_value [] = null
case_value (v ∷ []) = v
case_value (c ∷ v ∷ vs) = if is_true c then v else case_value vs

abbrev pub case_row : Row
case_row = record {
  id = codes "sql.case_when";
  arity = Variadic 2 None;
  types = record { takes = Cases; nulls = nulls_in.Cases; gives = answer.Alike };
  strict = false;
  infallible = true;
  of = λ p vs. gives (case_value vs);
}

either : (P : Value → Type 0) (b : Bool) (v w : Value) → P v → P w → P (cond b v w)
either P true v w h k = h
either P false v w h k = k

typed : (t : LogicalType) (vs : List Value) → IsOf t null → AreCases t vs → IsOf t (case_value vs)
typed t [] n h = n
typed t (v ∷ []) n h = h
typed t (c ∷ v ∷ vs) n h =
    either (IsOf t) (is_true c) v (case_value vs) h.1.0 (typed t vs n h.1.1)

of_given : (t : LogicalType) (vs : List Value) → AreGiven Cases t vs → IsOf t (case_value vs)
of_given t (c ∷ v ∷ vs) h = typed t (c ∷ v ∷ vs) (null_of t (kind_single Any t h.0)) h.1
of_given t [] h = absurd h
of_given t (c ∷ []) h = absurd h

one_of : (b x y : Bool) (v w : Value) (vs : List Value) → is_null v ≡ y
    → (is_null w ≡ true → (list_any is_null vs || lacks_last vs) ≡ true)
    → is_null (cond b v w) ≡ true
    → ((x || (y || list_any is_null vs)) || lacks_last vs) ≡ true
one_of b true y v w vs e later k = refl
one_of b false true v w vs e later k = refl
one_of true false false v w vs e later k = cc
one_of false false false v w vs e later k = later k

-- null only where a value is, or where no value is alone
nulls : (vs : List Value) → is_null (case_value vs) ≡ true
    → (list_any is_null vs || lacks_last vs) ≡ true
nulls [] h = refl
nulls (v ∷ []) h = or_left (list_any is_null (v ∷ [])) false (or_left (is_null v) false h)
nulls (c ∷ v ∷ vs) h =
    one_of (is_true c) (is_null c) (is_null v) v (case_value vs) vs refl (nulls vs) h

pub case_lawful : LawfulRow case_row
case_lawful = record {
  named = refl;
  typed = λ t vs a. of_given t vs a.given;
  nulls = λ t vs a. null_only nulls_in.Cases vs (case_value vs) (nulls vs);
  settled = λ t vs a e. tt;
  strict = λ e. cc;
}
