-- A list of values and null, and a row of it.
use Rattle.std.specs.Prelude.{◌≡◌, ◌<◌, ℕ, Bool, List, Option, Some, None, if◌then◌else◌, true, false, []}
use Rattle.std.specs.Prelude.{◌∷◌, ◌++◌, length, slice_index_or}
use Rattle.std.specs.List.{list_any}
use Rattle.vortex_columns.specs.ColumnView.{ColumnView, row, IsUnlessNull}
use Rattle.vortex_sets.specs.ItemSets.{is_member}
use Rattle.vortex_sql_choices.specs.InList.{is_same}
use Rattle.vortex_types.specs.Values.{Value, null, truth, is_null}

abbrev pub item_value : {A : Type 0} → (A → Value) → Option A → Value
item_value f None = null
item_value f (Some x) = f x

-- the values, and whether there is a null, with one more item
abbrev pub AddsItem : {A : Type 0} → (A → Value) → Option A → List Value → List Value → Bool → Bool
    → Type 0
AddsItem f None old new was is = (new ≡ old) × (is ≡ true)
AddsItem f (Some x) old new was is = (new ≡ old ++ f x ∷ []) × (is ≡ was)

-- values of which these are the ones that are not null, and one is null or not
pub record AreListed (vs : List Value) (has_null : Bool) (ws : List Value) : Type 0 where
  pub has : (v : Value) → is_null v ≡ false → list_any (is_same v) ws ≡ is_member vs v
  pub null : list_any is_null ws ≡ has_null

-- a value for each row, which is the row's value where that is not null
pub record AreItems (c : ColumnView) (vs : List Value) : Type 0 where
  pub count : length vs ≡ length c.rows
  pub each : (i : ℕ) → i < length vs → IsUnlessNull (row c.rows i) (slice_index_or vs i null)

-- whether a value is among these or null is, as `in_list` says
abbrev pub in_values : List Value → Bool → Value → Value
in_values vs has_null v =
    if is_null v then null else if is_member vs v then truth true
    else if has_null then null else truth false
