-- A function by its rows.
use Rattle.std.specs.Prelude.{◌≡◌, ℕ, List, [], ◌∷◌, Option, None, Bool, true, false}
use Rattle.std.specs.Prelude.{◌&&◌, ◌||◌, length, if◌then◌else◌, get_or}
use Rattle.std.specs.List.{list_any, list_all}
use Rattle.vortex_errors.specs.declared.arity.Arity.{Arity}
use Rattle.vortex_errors.specs.declared.error.VortexError.{VortexError}
use Rattle.vortex_errors.specs.Arities.{fits}
use Rattle.vortex_types.specs.declared.dtype.PType.{PType}
use Rattle.vortex_types.specs.LogicalTypes.{LogicalType, with_nullability}
use Rattle.vortex_types.specs.Values.{Value, null, is_null}
use Rattle.vortex_types.specs.Typing.{HasType}
use Rattle.vortex_interface.specs.Outcomes.{Outcome, gives, faults, Fault, error_of}
use Rattle.vortex_interface.specs.Outcomes.{GivesValue, GivesType}
use Rattle.vortex_sql_rows.specs.declared.types.Kind.{Kind}
use Rattle.vortex_sql_rows.specs.declared.types.Kind.TheVariants.{Any, Truth}
use Rattle.vortex_sql_rows.specs.declared.types.Takes.{Takes}
use Rattle.vortex_sql_rows.specs.declared.types.Takes.TheVariants.{Alike, Each, Cases}
use Rattle.vortex_sql_rows.specs.declared.types.Nulls.{Nulls}
use Rattle.vortex_sql_rows.specs.declared.types.Nulls.TheVariants as nulls_in
use Rattle.vortex_sql_rows.specs.declared.types.Types.{Types}
use Rattle.vortex_sql_rows.specs.Types.{is_kind, type_by, main_type, given_type, ptype_in}
use Rattle.vortex_sql_rows.specs.Types.{lacks_last}

-- of: the outcome of one row, by the integer type among its arguments' types; of a strict function,
-- where no argument is null
pub record Row : Type 0 where
  pub id : List ℕ
  pub arity : Arity
  pub types : Types
  pub strict : Bool
  pub infallible : Bool
  pub of : PType → List Value → Outcome

abbrev pub row_type : Row → List LogicalType → Option LogicalType
row_type r ts = if fits r.arity (length ts) then type_by r.types ts else None

abbrev pub row_ptype : Row → List LogicalType → PType
row_ptype r ts = ptype_in (main_type r.types.takes ts)

-- the outcome of a row, null included
abbrev pub row_gives : Row → PType → List Value → Outcome
row_gives r p vs = if r.strict && list_any is_null vs then gives null else r.of p vs

abbrev pub row_means : Row → List LogicalType → List Value → Outcome
row_means r ts vs = row_gives r (row_ptype r ts) vs

-- the error of a row that faults
abbrev pub RefusesRow : Outcome → VortexError → Type 0
RefusesRow o e = (f : Fault) × (o ≡ faults f) × (e ≡ error_of f)

-- where the result may be null
abbrev pub null_by : Nulls → List Value → Bool
null_by nulls_in.WhereAny vs = list_any is_null vs
null_by nulls_in.WhereAll vs = list_all is_null vs
null_by nulls_in.Cases vs = list_any is_null vs || lacks_last vs
null_by nulls_in.Always vs = true
null_by nulls_in.Never vs = false

abbrev pub keeps_null : Nulls → Bool
keeps_null nulls_in.WhereAll = false
keeps_null nulls_in.Never = false
keeps_null n = true

abbrev pub NullOnlyBy : Nulls → List Value → Outcome → Type 0
NullOnlyBy n vs (gives null) = null_by n vs ≡ true
NullOnlyBy n vs o = Unit {0}

-- null, or of that type
abbrev pub IsOf : LogicalType → Value → Type 0
IsOf t v = HasType (with_nullability t true) v

abbrev pub AreOf : LogicalType → List Value → Type 0
AreOf t [] = Unit {0}
AreOf t (v ∷ vs) = IsOf t v × AreOf t vs

-- null, or of a type of that kind
abbrev pub IsOfKind : Kind → Value → Type 0
IsOfKind k v = (t : LogicalType) × (is_kind k t ≡ true) × IsOf t v

abbrev pub AreOfKind : Kind → List Value → Type 0
AreOfKind k [] = Unit {0}
AreOfKind k (v ∷ vs) = IsOfKind k v × AreOfKind k vs

abbrev pub AfterFirst : Kind → Kind → List Value → Type 0
AfterFirst b c [] = Unit {0}
AfterFirst b c (v ∷ vs) = IsOfKind b v × AreOfKind c vs

abbrev pub AreCases : LogicalType → List Value → Type 0
AreCases t [] = Unit {0}
AreCases t (v ∷ []) = IsOf t v
AreCases t (c ∷ v ∷ vs) = IsOfKind Truth c × (IsOf t v × AreCases t vs)

-- values of what a function takes, where t is the type that its result goes by
abbrev pub AreGiven : Takes → LogicalType → List Value → Type 0
AreGiven (Alike k) t vs = (is_kind k t ≡ true) × AreOf t vs
AreGiven (Each a b c) t (v ∷ vs) = (is_kind a t ≡ true) × (IsOf t v × AfterFirst b c vs)
AreGiven Cases t (c ∷ v ∷ vs) =
    (is_kind Any t ≡ true) × (IsOfKind Truth c × (IsOf t v × AreCases t vs))
AreGiven s t vs = ⊥

-- a row of as many values as the function takes; where it is strict, none is null
pub record IsAsked (r : Row) (t : LogicalType) (vs : List Value) : Type 0 where
  pub fit : fits r.arity (length vs) ≡ true
  pub given : AreGiven r.types.takes t vs
  pub whole : r.strict ≡ true → list_any is_null vs ≡ false

-- What a function owes, of such rows:
-- named: its identity begins with `s`, as no shipped one does
-- typed: its result is null or of the result's type
-- nulls: null only where its types say so
-- settled: it has a value where it says that it cannot fault
-- strict: where it says strict, its type is nullable wherever an argument's is
pub record LawfulRow (r : Row) : Type 0 where
  pub named : get_or r.id 0 0 ≡ 115
  pub typed : (t : LogicalType) (vs : List Value) → IsAsked r t vs
      → GivesType (with_nullability (given_type r.types.gives t) true) (r.of (ptype_in t) vs)
  pub nulls : (t : LogicalType) (vs : List Value) → IsAsked r t vs
      → NullOnlyBy r.types.nulls vs (r.of (ptype_in t) vs)
  pub settled : (t : LogicalType) (vs : List Value) → IsAsked r t vs → r.infallible ≡ true
      → GivesValue (r.of (ptype_in t) vs)
  pub strict : r.strict ≡ true → keeps_null r.types.nulls ≡ true
