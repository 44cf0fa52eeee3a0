-- Rows that fault, given by bits, and rows of which none does.
use Rattle.std.specs.Prelude.{◌≡◌, ℕ, ◌<◌, ℤ, pos, Bool, true, false, Option, Some, None, List}
use Rattle.std.specs.Prelude.{MatchOption, length, slice_index_or}
use Rattle.vortex_checked.specs.Exact.{is_outside}
use Rattle.vortex_types.specs.declared.dtype.PType.{PType}
use Rattle.vortex_types.specs.Typing.{least_of, greatest_of}
use Rattle.vortex_columns.specs.ColumnView.{ColumnView}
use Rattle.vortex_kernels.specs.Numeric.{AreResults, TellsFaults, FitWhereValid, FaultsAt}

-- a number for each of n rows: the exact result, which the integer type holds
abbrev pub AreHeldResults : PType → (ℕ → Option ℤ) → ℕ → List ℤ → Type 0
AreHeldResults p exact n ns = AreResults p exact n ns × TellsFaults p exact n false

-- from the numbers of two lists, row by row
abbrev pub pair_results : (ℤ → ℤ → Option ℤ) → List ℤ → List ℤ → ℕ → Option ℤ
pair_results exact ls rs i = exact (slice_index_or ls i (pos 0)) (slice_index_or rs i (pos 0))

-- a number for each of n rows: the exact result where the integer type holds it; and whether it
-- holds them all, unless a fault is flagged
abbrev pub AreToldResults : PType → (ℕ → Option ℤ) → ℕ → List ℤ → Bool → Type 0
AreToldResults p exact n ns told = AreResults p exact n ns × TellsFaults p exact n told

-- whether the integer type does not hold the result
abbrev pub is_faulty : PType → Option ℤ → Bool
is_faulty p None = true
is_faulty p (Some z) = is_outside (least_of p) (greatest_of p) z

-- an index among the first n where both tests are true
pub record IsOfBoth (n : ℕ) (f h : ℕ → Bool) (i : ℕ) : Type 0 where
  pub inside : i < n
  pub left : f i ≡ true
  pub right : h i ≡ true

-- such an index, or none
abbrev pub FindsBoth : ℕ → (ℕ → Bool) → (ℕ → Bool) → Option ℕ → Type 0
FindsBoth n f h found = MatchOption found ((i : ℕ) → ¬ IsOfBoth n f h i) (IsOfBoth n f h)

-- a row that faults and is null on neither side, or none
abbrev pub FindsFault : PType → (ℕ → Option ℤ) → ColumnView → ColumnView → Option ℕ → Type 0
FindsFault p exact l r found =
    MatchOption found (FitWhereValid p exact l r (length l.rows)) (FaultsAt p exact l r)
