-- Truth values as two bits, a value and whether it is present, and the forms of a side of And or
-- Or.
use Rattle.std.specs.Prelude.{◌≡◌, ℕ, ◌<◌, List, Bool, Option, Some, None, IfSome, length, false}
use Rattle.std.specs.Prelude.{slice_index_or, if◌then◌else◌, ⊤}
use Rattle.vortex_columns.specs.ValidityView.{ValidityView, is_valid_row, FitsRows}
use Rattle.vortex_columns.specs.ValidRows.{valid_view}
use Rattle.vortex_kernels.specs.declared.truths.TruthRows.{TruthRows}
use Rattle.vortex_kernels.specs.declared.truths.Operand.{Operand}
use Rattle.vortex_kernels.specs.declared.truths.Operand.TheVariants.{Rows, One}

-- the truth value of two bits
abbrev pub present : Bool → Bool → Option Bool
present valid value = if valid then Some value else None

-- the truth value, if present
abbrev pub IsValueOf : Bool → Option Bool → Type 0
IsValueOf b o = IfSome o (λ v. b ≡ v)

-- the truth value of a row of bits, with the valid rows
abbrev pub truth_at : List Bool → ValidityView → ℕ → Option Bool
truth_at bits v i = present (is_valid_row v i) (slice_index_or bits i false)

-- there are that many rows, with these values
abbrev pub AreTruthRows : ℕ → TruthRows → Type 0
AreTruthRows n t = (length t.bits.now ≡ n) × FitsRows (valid_view t.valid) n

abbrev pub rows_truth : TruthRows → ℕ → Option Bool
rows_truth t = truth_at t.bits.now (valid_view t.valid)

-- the same for either form
abbrev pub FitsOperand : ℕ → Operand → Type 0
FitsOperand n (Rows t) = AreTruthRows n t
FitsOperand n (One truth) = ⊤

abbrev pub operand_truth : Operand → ℕ → Option Bool
operand_truth (Rows t) i = rows_truth t i
operand_truth (One truth) i = truth

-- each of n rows is in range, and is this truth value or null
pub record IsOperandOf (n : ℕ) (truth : ℕ → Option Bool) (o : Operand) : Type 0 where
  pub fits : FitsOperand n o
  pub each : (i : ℕ) → i < n → operand_truth o i ≡ truth i
