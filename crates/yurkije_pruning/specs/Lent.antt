-- Statistics of groups that C lends, over the fields of a scope.
use Rattle.std.specs.Prelude.{◌≡◌, ◌≢◌, ◌<◌, ℕ, List, length, Option, Some, None, slice_get, false}
use Rattle.vortex_errors.specs.declared.error.VortexError.TheVariants.{OutOfMemory}
use Rattle.vortex_types.specs.declared.dtype.PType.TheVariants.{U64}
use Rattle.vortex_types.specs.LogicalTypes.{LogicalType, Fields, field_count, field_type}
use Rattle.vortex_types.specs.LogicalTypes.{integer_type}
use Rattle.vortex_types.specs.TypeOf.{type_of}
use Rattle.vortex_columns.specs.ColumnView.{ColumnView}
use Rattle.vortex_arrow.specs.declared.column.ArrowColumn.{ArrowColumn}
use Rattle.vortex_arrow.specs.Columns.{arrow_column, IsWellFormed}
use Rattle.vortex_arrow.specs.Refusals.{TellsOf}
use Rattle.vortex_pruning.specs.declared.groups.FieldStatistics.{FieldStatistics}
use Rattle.vortex_pruning.specs.declared.groups.GroupError.TheVariants.{Refused}
use Rattle.vortex_pruning.specs.Groups.{AllFrom}
use Rattle.yurkije_columns.specs.declared.kinds.Kind.{Kind}
use Rattle.yurkije_columns.specs.declared.borrowed.BorrowedColumn.{BorrowedColumn}
use Rattle.vortex_logical.specs.declared.kind.Kind as logical
use Rattle.yurkije_columns.specs.Kinds.{kind_numbered, number_at}
use Rattle.yurkije_columns.specs.Borrowed.{Says}
use Rattle.yurkije_columns.specs.Outputs.{IsOfMeaning}
use Rattle.yurkije_pruning.specs.declared.lent.BorrowedStatistics.{BorrowedStatistics}
use Rattle.yurkije_pruning.specs.declared.error.Part.{Part}
use Rattle.yurkije_pruning.specs.declared.error.Part.TheVariants as part
use Rattle.yurkije_pruning.specs.declared.error.PartFault.{PartFault}
use Rattle.yurkije_pruning.specs.declared.error.PartFault.TheVariants as fault
use Rattle.yurkije_pruning.specs.declared.error.PruneError.{PruneError}
use Rattle.yurkije_pruning.specs.declared.error.PruneError.TheVariants as error

abbrev pub no_memory : PruneError
no_memory = error.Groups (Refused OutOfMemory)

-- its kind is one, of values of that type, with null or without, which mean what the number says
abbrev pub IsTyped : LogicalType → ℕ → BorrowedColumn → Type 0
IsTyped t m c = (k : Kind) × (kind_numbered c.kind ≡ Some k) × IsOfMeaning k m t

abbrev pub RefusesType : LogicalType → ℕ → BorrowedColumn → PartFault → Type 0
RefusesType t m c fault.UnknownKind = kind_numbered c.kind ≡ None
RefusesType t m c fault.OtherType =
    (k : Kind) × (kind_numbered c.kind ≡ Some k) × (¬ IsOfMeaning k m t)
RefusesType t m c f = ⊥

-- the column that its buffers hold
abbrev pub Reads : BorrowedColumn → ColumnView → Type 0
Reads c d = (a : ArrowColumn) × Says c a × IsWellFormed a × (d ≡ arrow_column a)

abbrev pub RefusesRead : BorrowedColumn → PartFault → Type 0
RefusesRead c fault.UnknownKind = kind_numbered c.kind ≡ None
RefusesRead c (fault.Unread e) = (a : ArrowColumn) × Says c a × TellsOf a e
RefusesRead c f = ⊥

-- a column of that type with an item for each of n groups; none where it has no rows
abbrev pub IsPart : LogicalType → ℕ → ℕ → BorrowedColumn → Option ColumnView → Type 0
IsPart t m n c None = c.rows ≡ 0
IsPart t m n c (Some d) = (c.rows ≢ 0) × IsTyped t m c × (c.rows ≡ n) × Reads c d

abbrev pub RefusesPart : LogicalType → ℕ → ℕ → BorrowedColumn → PartFault → Type 0
RefusesPart t m n c fault.UnknownKind = (c.rows ≢ 0) × (kind_numbered c.kind ≡ None)
RefusesPart t m n c fault.OtherType = (c.rows ≢ 0) × RefusesType t m c fault.OtherType
RefusesPart t m n c (fault.OtherLength r) =
    (c.rows ≢ 0) × IsTyped t m c × (r ≡ c.rows) × (c.rows ≢ n)
RefusesPart t m n c (fault.Unread e) =
    (c.rows ≢ 0) × IsTyped t m c × (c.rows ≡ n) × RefusesRead c (fault.Unread e)

-- that part of the statistics of field k is wrong
abbrev pub IsWrong : ℕ → Part → LogicalType → ℕ → ℕ → BorrowedColumn → PruneError → Type 0
IsWrong k p t m n c e = (f : PartFault) × (e ≡ error.Column k p f) × RefusesPart t m n c f

abbrev pub column_in : Part → BorrowedStatistics → BorrowedColumn
column_in part.Low s = s.low
column_in part.High s = s.high
column_in part.Nulls s = s.nulls

-- counts
abbrev pub count_type : LogicalType
count_type = integer_type U64 false

-- the type of a part, of a field of type t
abbrev pub type_in : Part → LogicalType → LogicalType
type_in part.Low t = t
type_in part.High t = t
type_in part.Nulls t = count_type

-- and the number of what its values mean, of a field whose values mean what the number says
abbrev pub number_in : Part → ℕ → ℕ
number_in part.Low m = m
number_in part.High m = m
number_in part.Nulls m = 0

-- what is lent of a field of that type and meaning
pub record IsField (t : LogicalType) (m n : ℕ) (s : BorrowedStatistics) (f : FieldStatistics)
    : Type 0 where
  pub dtype : type_of f.dtype ≡ t
  pub low : IsPart t m n s.low f.low
  pub high : IsPart t m n s.high f.high
  pub nulls : IsPart count_type 0 n s.nulls f.nulls

-- one of its columns is wrong, or memory ran out
abbrev pub RefusesField : ℕ → LogicalType → ℕ → ℕ → BorrowedStatistics → PruneError → Type 0
RefusesField k t m n s (error.Column j p f) =
    (j ≡ k) × RefusesPart (type_in p t) (number_in p m) n (column_in p s) f
RefusesField k t m n s (error.Groups e) = e ≡ Refused OutOfMemory
RefusesField k t m n s e = ⊥

abbrev pub RefusesCount : Fields → List BorrowedStatistics → PruneError → Type 0
RefusesCount scope ss (error.Missing k) = (k ≡ length ss) × (length ss < field_count scope)
RefusesCount scope ss (error.Unasked k) = (k ≡ field_count scope) × (field_count scope < length ss)
RefusesCount scope ss e = ⊥

module _ (scope : Fields) (kinds : List logical.Kind) where
  -- each field has what is lent of it
  pub record AreFields (n : ℕ) (ss : List BorrowedStatistics) (fs : List FieldStatistics) : Type 0
    where
      pub each : length ss ≡ field_count scope
      pub read : AllFrom (λ k s f. IsField (field_type k scope) (number_at kinds k) n s f) 0 ss fs

  -- a column of the statistics of field k is wrong
  pub record IsWrongField (n k : ℕ) (ss : List BorrowedStatistics) (p : Part) (f : PartFault)
      : Type 0 where
    pub each : length ss ≡ field_count scope
    pub lent : BorrowedStatistics
    pub there : slice_get ss k ≡ Some lent
    pub refused : RefusesPart (type_in p (field_type k scope)) (number_in p (number_at kinds k)) n
        (column_in p lent) f

  -- there are fewer or more than fields, or a column of one is wrong, or memory ran out
  abbrev pub RefusesStatistics : ℕ → List BorrowedStatistics → PruneError → Type 0
  RefusesStatistics n ss (error.Missing k) = RefusesCount scope ss (error.Missing k)
  RefusesStatistics n ss (error.Unasked k) = RefusesCount scope ss (error.Unasked k)
  RefusesStatistics n ss (error.Column k p f) = IsWrongField n k ss p f
  RefusesStatistics n ss (error.Groups e) = e ≡ Refused OutOfMemory
  RefusesStatistics n ss error.NoCondition = ⊥
