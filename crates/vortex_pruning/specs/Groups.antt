-- Statistics of several groups of rows, as columns: a row of a column speaks of one group.
use Rattle.std.specs.Prelude.{◌≡◌, ℕ, suc, List, [], ◌∷◌, ⊤, Option, Some, None, pos, map}
use Rattle.std.specs.Prelude.{nat_lt, slice_get, false, if◌then◌else◌}
use Rattle.vortex_errors.specs.declared.error.VortexError.{VortexError}
use Rattle.vortex_errors.specs.declared.error.VortexError.TheVariants.{OutOfMemory}
use Rattle.vortex_types.specs.TypeOf.{type_of}
use Rattle.vortex_types.specs.Values.{Value, null, number}
use Rattle.vortex_columns.specs.ColumnView.{ColumnView, row}
use Rattle.vortex_statistics.specs.StatisticsView.{EndView, StatisticsView, AreConsistent}
use Rattle.vortex_interface.specs.Meaning.{Meaning}
use Rattle.vortex_interface.specs.Trees.{Tree}
use Rattle.vortex_pruning.specs.declared.groups.FieldStatistics.{FieldStatistics}
use Rattle.vortex_pruning.specs.declared.groups.GroupError.{GroupError}
use Rattle.vortex_pruning.specs.declared.groups.GroupError.TheVariants.{Statistics, Refused}
use Rattle.vortex_pruning.specs.declared.pruned.Pruned.{Pruned}
use Rattle.vortex_pruning.specs.Pruning.{Prunes, RefusesPruning}

-- an end that no row need have; null is none
abbrev pub outer_end : Value → Option EndView
outer_end null = None
outer_end v = Some (record { value = v; attained = false })

-- a number of 64 bits; of any other value none is known
abbrev pub count_in : Value → Option ℕ
count_in (number (pos n)) = if nat_lt n 18446744073709551616 then Some n else None
count_in v = None

-- what the row of the group says, where there is a column
abbrev pub told_at : {A : Type 0} → (Value → Option A) → ℕ → Option ColumnView → Option A
told_at f g None = None
told_at f g (Some c) = f (row c.rows g)

-- of a field in group g, which has n rows
abbrev pub field_in : ℕ → ℕ → FieldStatistics → StatisticsView
field_in g n f = record {
  dtype = type_of f.dtype;
  rows = Some n;
  nulls = told_at count_in g f.nulls;
  low = told_at outer_end g f.low;
  high = told_at outer_end g f.high;
  skips_nan = false;
}

-- statistics of the field's type, whose ends speak of NaN too
pub record IsOfField (f : FieldStatistics) (s : StatisticsView) : Type 0 where
  pub typed : s.dtype ≡ type_of f.dtype
  pub floats : s.skips_nan ≡ false

abbrev pub statistics_in : ℕ → ℕ → List FieldStatistics → List StatisticsView
statistics_in g n fs = map (field_in g n) fs

-- each two items at one place, which are counted from k, are so
abbrev pub AllFrom : {A B : Type 0} → (ℕ → A → B → Type 0) → ℕ → List A → List B → Type 0
AllFrom P k [] [] = ⊤
AllFrom P k (x ∷ xs) (y ∷ ys) = P k x y × AllFrom P (suc k) xs ys
AllFrom P k xs ys = ⊥

-- each group, of so many rows, is pruned by its statistics
abbrev pub PruneAll : {V O : Type 0} → Meaning V O → List FieldStatistics → Tree V O → List ℕ
    → List Pruned → Type 0
PruneAll m fs t ns ps = AllFrom (λ g n p. Prunes m n (statistics_in g n fs) t p) 0 ns ps

-- of field f, in group g, which has n rows: statistics that contradict themselves; or memory ran out
pub data RefusesField (field : FieldStatistics) (f g n : ℕ) (e : GroupError) : Type 0 where
  contradicts : ¬ AreConsistent (field_in g n field) → e ≡ Statistics g f
      → RefusesField field f g n e
  wants_memory : e ≡ Refused OutOfMemory → RefusesField field f g n e

-- of some field
pub data RefusesFields (fs : List FieldStatistics) (g n : ℕ) (e : GroupError) : Type 0 where
  at : (f : ℕ) (field : FieldStatistics) → slice_get fs f ≡ Some field
      → RefusesField field f g n e → RefusesFields fs g n e
  no_memory : e ≡ Refused OutOfMemory → RefusesFields fs g n e

-- or what pruning refuses
pub data RefusesGroup {V O : Type 0} (m : Meaning V O) (fs : List FieldStatistics) (t : Tree V O)
    (g n : ℕ) (e : GroupError) : Type 0 where
  fields : RefusesFields fs g n e → RefusesGroup m fs t g n e
  refused : (x : VortexError) → RefusesPruning m (statistics_in g n fs) t x → e ≡ Refused x
      → RefusesGroup m fs t g n e

-- some group is refused so, or memory ran out
pub data RefusesGroups {V O : Type 0} (m : Meaning V O) (fs : List FieldStatistics) (t : Tree V O)
    (ns : List ℕ) (e : GroupError) : Type 0 where
  group : (g n : ℕ) → slice_get ns g ≡ Some n → RefusesGroup m fs t g n e
      → RefusesGroups m fs t ns e
  no_memory_at_all : e ≡ Refused OutOfMemory → RefusesGroups m fs t ns e
