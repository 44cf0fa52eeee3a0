-- What is known of groups, in a caller's buffers.
use Rattle.std.specs.Prelude.{◌≡◌, ◌⊎◌, ◌≤◌, ℕ, List, length, map, take, if◌then◌else◌}
use Rattle.vortex_arrow.specs.declared.error.CopyError.{CopyError}
use Rattle.vortex_arrow.specs.declared.error.CopyError.TheVariants.{ValuesTooShort}
use Rattle.vortex_arrow.specs.Written.{SameBehind}
use Rattle.vortex_pruning.specs.declared.pruned.Verdict.{Verdict}
use Rattle.vortex_pruning.specs.declared.pruned.Verdict.TheVariants.{Unknown, NoneTrue, AllTrue}
use Rattle.vortex_pruning.specs.declared.pruned.Pruned.{Pruned}
use Rattle.yurkije_pruning.specs.declared.verdicts.Verdicts.{Verdicts}

abbrev pub verdict_number : Verdict → ℕ
verdict_number Unknown = 0
verdict_number NoneTrue = 1
verdict_number AllTrue = 2

abbrev pub verdict_byte : Pruned → ℕ
verdict_byte p = verdict_number p.verdict

abbrev pub fault_byte : Pruned → ℕ
fault_byte p = if p.faultless then 0 else 1

-- at least and at most so many rows are true
abbrev pub least_of : Pruned → ℕ
least_of p = p.trues.0

abbrev pub most_of : Pruned → ℕ
most_of p = p.trues.1

-- a buffer is not asked for, or has an item for each of n groups
abbrev pub HasPlaces : ℕ → ℕ → Type 0
HasPlaces items n = (items ≡ 0) ⊎ (n ≤ items)

-- items stand in a buffer from its first on, and behind them nothing has changed; one that is not
-- asked for is as it was
abbrev pub ArePut : List ℕ → List ℕ → List ℕ → Type 0
ArePut xs old new =
    ((length old ≡ 0) × (new ≡ old))
    ⊎ ((take (length xs) new ≡ xs) × SameBehind (length xs) old new)

-- each buffer has what is known of the groups
pub record AreWritten (ps : List Pruned) (old new : Verdicts) : Type 0 where
  pub verdicts : ArePut (map verdict_byte ps) old.verdicts.now new.verdicts.now
  pub may_fault : ArePut (map fault_byte ps) old.may_fault.now new.may_fault.now
  pub least : ArePut (map least_of ps) old.least.now new.least.now
  pub most : ArePut (map most_of ps) old.most.now new.most.now

-- each buffer is borrowed where it was
pub record KeepsLoans (old new : Verdicts) : Type 0 where
  pub verdicts : new.verdicts.ghost_name ≡ old.verdicts.ghost_name
  pub may_fault : new.may_fault.ghost_name ≡ old.may_fault.ghost_name
  pub least : new.least.ghost_name ≡ old.least.ghost_name
  pub most : new.most.ghost_name ≡ old.most.ghost_name

-- a buffer that is asked for has fewer items
abbrev pub AreTooShort : List Pruned → Verdicts → CopyError → Type 0
AreTooShort ps r e =
    (e ≡ ValuesTooShort)
    × ((¬ HasPlaces (length r.verdicts.now) (length ps))
    ⊎ ((¬ HasPlaces (length r.may_fault.now) (length ps))
    ⊎ ((¬ HasPlaces (length r.least.now) (length ps))
    ⊎ (¬ HasPlaces (length r.most.now) (length ps)))))
