-- What statistics that C lends say of a condition in each group of rows.
use Rattle.std.specs.Prelude.{◌≡◌, ◌⊎◌, ℕ, List, length, Some, true, false}
use Rattle.vortex_errors.specs.declared.error.VortexError.TheVariants.{OutOfMemory}
use Rattle.vortex_types.specs.LogicalTypes.{LogicalType, Fields, is_bool_type}
use Rattle.vortex_logical.specs.declared.kind.Kind.{Kind}
use Rattle.vortex_interface.specs.Meaning.{Meaning}
use Rattle.vortex_interface.specs.Trees.{Tree}
use Rattle.vortex_interface.specs.Eval.{tree_type}
use Rattle.vortex_pruning.specs.declared.groups.FieldStatistics.{FieldStatistics}
use Rattle.vortex_pruning.specs.declared.groups.GroupError.TheVariants.{Refused}
use Rattle.vortex_pruning.specs.declared.pruned.Pruned.{Pruned}
use Rattle.vortex_pruning.specs.Groups.{PruneAll, RefusesGroups}
use Rattle.yurkije_pruning.specs.declared.lent.BorrowedStatistics.{BorrowedStatistics}
use Rattle.yurkije_pruning.specs.declared.error.PruneError.{PruneError}
use Rattle.yurkije_pruning.specs.declared.error.PruneError.TheVariants as error
use Rattle.yurkije_pruning.specs.Lent.{AreFields, RefusesStatistics}

module _ {V O : Type 0} (m : Meaning V O) where
  -- its values are truth values, or they are not
  pub record IsCondition (t : Tree V O) : Type 0 where
    pub dtype : LogicalType
    pub typed : tree_type m t ≡ Some dtype
    pub truths : is_bool_type dtype ≡ true

  pub record IsNoCondition (t : Tree V O) : Type 0 where
    pub dtype : LogicalType
    pub typed : tree_type m t ≡ Some dtype
    pub no_truths : is_bool_type dtype ≡ false

  module _ (scope : Fields) (kinds : List Kind) (ss : List BorrowedStatistics) (t : Tree V O)
      (ns : List ℕ) where
    -- each group, of so many rows, is pruned by the statistics that are lent of it
    pub record PrunesLent (ps : List Pruned) : Type 0 where
      pub condition : IsCondition t
      pub fields : List FieldStatistics
      pub read : AreFields scope kinds (length ns) ss fields
      pub pruned : PruneAll m fields t ns ps

    -- the tree is no condition, or the statistics are refused, or those of a group contradict
    -- themselves; or memory ran out
    abbrev pub RefusesLent : PruneError → Type 0
    RefusesLent error.NoCondition = IsNoCondition t
    RefusesLent (error.Groups e) =
        (e ≡ Refused OutOfMemory)
        ⊎ ((fs : List FieldStatistics) × AreFields scope kinds (length ns) ss fs
        × RefusesGroups m fs t ns e)
    RefusesLent (error.Missing k) = RefusesStatistics scope kinds (length ns) ss (error.Missing k)
    RefusesLent (error.Unasked k) = RefusesStatistics scope kinds (length ns) ss (error.Unasked k)
    RefusesLent (error.Column k p f) = RefusesStatistics scope kinds (length ns) ss (error.Column k p f)
