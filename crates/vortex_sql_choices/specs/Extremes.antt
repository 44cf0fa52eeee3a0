-- The greatest and the least of the values that are not null.
use Rattle.std.specs.Prelude.{◌≡◌, ◌&&◌, codes, ℕ, List, [], ◌∷◌, None, Bool, true, false, refl}
use Rattle.std.specs.Prelude.{get_or, if◌then◌else◌}
use Rattle.std.specs.List.{list_all}
use Rattle.std.specs.Ordering.{is_lt, is_gt}
use Rattle.std.specs.declared.cmp.Ordering.{Ordering}
use Rattle.std.proofs.Common.{cond, sym, ◌∙◌}
use Rattle.vortex_errors.specs.declared.arity.Arity.TheVariants.{Variadic}
use Rattle.vortex_types.specs.LogicalTypes.{LogicalType}
use Rattle.vortex_types.specs.Order.{compare_values}
use Rattle.vortex_types.specs.Values.{Value, null, is_null}
use Rattle.vortex_interface.specs.Outcomes.{gives}
use Rattle.vortex_sql_choices.specs.declared.extremes.Extreme.{Extreme}
use Rattle.vortex_sql_choices.specs.declared.extremes.Extreme.TheVariants.{Greatest, Least}
use Rattle.vortex_sql_rows.specs.declared.types.Gives.TheVariants as answer
use Rattle.vortex_sql_rows.specs.declared.types.Kind.TheVariants.{Any}
use Rattle.vortex_sql_rows.specs.declared.types.Nulls.TheVariants.{WhereAll}
use Rattle.vortex_sql_rows.specs.declared.types.Takes.TheVariants.{Alike}
use Rattle.vortex_sql_rows.specs.Laws.{and_left, and_right, kind_single, null_of, null_only}
use Rattle.vortex_sql_rows.specs.Laws.{both_true}
use Rattle.vortex_sql_rows.specs.Row.{Row, LawfulRow, AreOf, IsOf, NullOnlyBy}

-- whether a value in that order to another one is farther out
abbrev pub is_farther : Extreme → Ordering → Bool
is_farther Greatest o = is_gt o
is_farther Least o = is_lt o

-- the one of two values that is farther out; null only if both are
abbrev pub farther : Extreme → Value → Value → Value
farther x v w =
    if is_null w then v else if is_null v then w
    else if is_farther x (compare_values w v) then w else v

-- the farthest of a value and of those after it
abbrev pub farthest : Extreme → Value → List Value → Value
farthest x v [] = v
farthest x v (w ∷ ws) = farthest x (farther x v w) ws

abbrev pub extreme_id : Extreme → List ℕ
extreme_id Greatest = codes "sql.greatest"
extreme_id Least = codes "sql.least"

abbrev pub extreme_row : Extreme → Row
extreme_row x = record {
  id = extreme_id x;
  arity = Variadic 1 None;
  types = record { takes = Alike Any; nulls = WhereAll; gives = answer.Alike };
  strict = false;
  infallible = true;
  of = λ p vs. gives (farthest x null vs);
}

either : (P : Value → Type 0) (b : Bool) (v w : Value) → P v → P w → P (cond b v w)
either P true v w h k = h
either P false v w h k = k

farther_of : (x : Extreme) (t : LogicalType) (v w : Value) → IsOf t v → IsOf t w
    → IsOf t (farther x v w)
farther_of x t v w h k =
    either (IsOf t) (is_null w) v
    (if is_null v then w else if is_farther x (compare_values w v) then w else v) h
    (either (IsOf t) (is_null v) w (if is_farther x (compare_values w v) then w else v) k
    (either (IsOf t) (is_farther x (compare_values w v)) w v k h))

typed : (x : Extreme) (t : LogicalType) (v : Value) (vs : List Value) → IsOf t v → AreOf t vs
    → IsOf t (farthest x v vs)
typed x t v [] h k = h
typed x t v (w ∷ ws) h k = typed x t (farther x v w) ws (farther_of x t v w h k.0) k.1

picked : (x : Extreme) (v w : Value) → is_null v ≡ false → is_null w ≡ false → (b : Bool)
    → is_null (cond b w v) ≡ false
picked x v w h k true = k
picked x v w h k false = h

-- null where both are
null_both : (x : Extreme) (v w : Value) → is_null (farther x v w) ≡ (is_null v && is_null w)
null_both x v w = by (is_null w) (is_null v) refl refl
  where
    by : (b c : Bool) → is_null w ≡ b → is_null v ≡ c
        → is_null (cond b v (cond c w (cond (is_farther x (compare_values w v)) w v))) ≡ (c && b)
    by true true h k = k
    by true false h k = k
    by false true h k = h
    by false false h k = picked x v w k h (is_farther x (compare_values w v))

all_null : (x : Extreme) (v : Value) (vs : List Value) → is_null (farthest x v vs) ≡ true
    → (is_null v && list_all is_null vs) ≡ true
all_null x v [] h = both_true (is_null v) true h refl
all_null x v (w ∷ ws) h =
    let later = all_null x (farther x v w) ws h in
    let both = sym (null_both x v w) ∙ and_left (is_null (farther x v w)) (list_all is_null ws) later in
    both_true (is_null v) (is_null w && list_all is_null ws) (and_left (is_null v) (is_null w) both)
    (both_true (is_null w) (list_all is_null ws) (and_right (is_null v) (is_null w) both)
    (and_right (is_null (farther x v w)) (list_all is_null ws) later))

named : (x : Extreme) → get_or (extreme_id x) 0 0 ≡ 115
named Greatest = refl
named Least = refl

pub extreme_lawful : (x : Extreme) → LawfulRow (extreme_row x)
extreme_lawful x = record {
  named = named x;
  typed = λ t vs a.
      typed x t null vs (null_of t (kind_single Any t a.given.0)) a.given.1;
  nulls = λ t vs a. null_only WhereAll vs (farthest x null vs) (λ h. all_null x null vs h);
  settled = λ t vs a e. tt;
  strict = λ e. cc;
}
