-- Whether a value is in a list of values.
use Rattle.std.specs.Prelude.{◌≡◌, ◌||◌, codes, List, [], ◌∷◌, None, Bool, true, false, length, refl}
use Rattle.std.specs.Prelude.{if◌then◌else◌}
use Rattle.std.specs.List.{list_any}
use Rattle.std.specs.Ordering.{is_eq}
use Rattle.std.proofs.Common.{cond}
use Rattle.vortex_errors.specs.declared.arity.Arity.TheVariants.{Variadic}
use Rattle.vortex_errors.specs.Arities.{fits}
use Rattle.vortex_types.specs.LogicalTypes.{bool_type}
use Rattle.vortex_types.specs.Order.{compare_values}
use Rattle.vortex_types.specs.Values.{Value, null, truth, is_null}
use Rattle.vortex_interface.specs.Outcomes.{gives}
use Rattle.vortex_sql_rows.specs.declared.types.Gives.TheVariants as answer
use Rattle.vortex_sql_rows.specs.declared.types.Kind.TheVariants.{Any}
use Rattle.vortex_sql_rows.specs.declared.types.Nulls.TheVariants.{WhereAny}
use Rattle.vortex_sql_rows.specs.declared.types.Takes.TheVariants.{Alike}
use Rattle.vortex_sql_rows.specs.Laws.{null_only}
use Rattle.vortex_sql_rows.specs.Row.{Row, LawfulRow, IsOf, NullOnlyBy}

-- two nulls are the same, and null is the same as nothing else
abbrev pub is_same : Value → Value → Bool
is_same v w = is_eq (compare_values v w)

-- null where the value is, true where the list has it, else null where the list has a null
abbrev pub listed : Value → List Value → Value
listed v ws =
    if is_null v then null else if list_any (is_same v) ws then truth true
    else if list_any is_null ws then null else truth false

abbrev pub in_list : List Value → Value
in_list [] = null
in_list (v ∷ ws) = listed v ws

abbrev pub in_list_row : Row
in_list_row = record {
  id = codes "sql.in_list";
  arity = Variadic 2 None;
  types = record { takes = Alike Any; nulls = WhereAny; gives = answer.Truth };
  strict = false;
  infallible = true;
  of = λ p vs. gives (in_list vs);
}

typed : (b c d : Bool)
    → IsOf (bool_type false) (cond b null (cond c (truth true) (cond d null (truth false))))
typed true c d = refl
typed false true d = tt
typed false false true = refl
typed false false false = tt

all_typed : (vs : List Value) → IsOf (bool_type false) (in_list vs)
all_typed [] = refl
all_typed (v ∷ ws) = typed (is_null v) (list_any (is_same v) ws) (list_any is_null ws)

nulls : (b c d : Bool)
    → is_null (cond b null (cond c (truth true) (cond d null (truth false)))) ≡ true
    → (b || d) ≡ true
nulls true c d e = refl
nulls false true d e = cc
nulls false false true e = refl
nulls false false false e = cc

all_nulls : (vs : List Value) → fits (Variadic 2 None) (length vs) ≡ true
    → NullOnlyBy WhereAny vs (gives (in_list vs))
all_nulls [] h = cc
all_nulls (v ∷ ws) h =
    null_only WhereAny (v ∷ ws) (listed v ws)
    (nulls (is_null v) (list_any (is_same v) ws) (list_any is_null ws))

pub in_list_lawful : LawfulRow in_list_row
in_list_lawful = record {
  named = refl;
  typed = λ t vs a. all_typed vs;
  nulls = λ t vs a. all_nulls vs a.fit;
  settled = λ t vs a e. tt;
  strict = λ e. cc;
}
