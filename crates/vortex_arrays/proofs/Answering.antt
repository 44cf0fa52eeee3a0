-- From one result to another.
use Rattle.std.proofs.Common.{◌≡◌, ℕ, zero, suc, ◌<◌, ◌≤◌, refl, subst, Bool, true, false, Option}
use Rattle.std.proofs.Common.{Some, None, sym, ◌∙◌}
use Rattle.std.proofs.Common.{arith}
use Rattle.std.specs.Prelude.{Result, ◌||◌, nat_le}
use Rattle.vortex_errors.specs.declared.error.VortexError.{VortexError}
use Rattle.vortex_errors.specs.Answers.{AnswersUnlessMemory}
use Rattle.vortex_errors.proofs.Answering.{AnswersUnlessMemory-weaker}
use Rattle.vortex_types.specs.LogicalTypes.{LogicalType}
use Rattle.vortex_types.specs.ScalarView.{ScalarView}
use Rattle.vortex_types.specs.Values.{Value}
use Rattle.vortex_columns.specs.ColumnView.{ColumnView, constant_column}
use Rattle.vortex_kernels.specs.Rows.{HasRows}
use Rattle.vortex_kernels.proofs.Comparing.{constant_has_rows}
use Rattle.vortex_arrays.specs.Encoded.{GivesWhere}

-- the same rows, given by equal values
pub told_rows : (t u : LogicalType) (m n : ℕ) (f h : ℕ → Value) (c : ColumnView)
    → t ≡ u → m ≡ n → ((i : ℕ) → i < n → f i ≡ h i) → HasRows t m f c → HasRows u n h c
told_rows t u m n f h c types counts same rows = record {
  dtype = rows.dtype ∙ types;
  count = rows.count ∙ counts;
  each = λ i lt. rows.each i (omega (arith, counts)) ∙ same i lt;
}

-- a constant column that is returned
pub constant_answers : (t : LogicalType) (n : ℕ) (f : ℕ → Value) (s : ScalarView) (m : ℕ)
    (r : Result ColumnView VortexError)
    → s.dtype ≡ t → m ≡ n → ((i : ℕ) → i < n → s.value ≡ f i)
    → AnswersUnlessMemory r (λ c. c ≡ constant_column s m) → AnswersUnlessMemory r (HasRows t n f)
constant_answers t n f s m r types counts same =
    AnswersUnlessMemory-weaker r (λ c. c ≡ constant_column s m) (HasRows t n f)
    (λ c e.
    told_rows s.dtype t m n (λ i. s.value) f c types counts same (constant_has_rows s m c e))

pub GivesWhere-weaker : (a b : Bool) (P Q : ColumnView → Type 0) (o : Option ColumnView) → a ≡ b
    → ((c : ColumnView) → P c → Q c) → GivesWhere a P o → GivesWhere b Q o
GivesWhere-weaker a b P Q None same f h = sym same ∙ h
GivesWhere-weaker a b P Q (Some c) same f h = (sym same ∙ h.0, f c h.1)

pub gives_answers : (a b : Bool) (P Q : ColumnView → Type 0)
    (r : Result (Option ColumnView) VortexError) → a ≡ b
    → ((c : ColumnView) → P c → Q c) → AnswersUnlessMemory r (GivesWhere a P)
    → AnswersUnlessMemory r (GivesWhere b Q)
gives_answers a b P Q r same f =
    AnswersUnlessMemory-weaker r (GivesWhere a P) (GivesWhere b Q)
    (λ o. GivesWhere-weaker a b P Q o same f)

pub is_below : (k : ℕ) → k ≤ 1 → nat_le k 1 ≡ true
is_below zero h = refl
is_below (suc zero) h = refl
is_below (suc (suc k)) h = absurd (omega arith)

pub either_side : (a b : Bool) → (a || b) ≡ (b || a)
either_side true true = refl
either_side true false = refl
either_side false true = refl
either_side false false = refl

pub gives_some : (b : Bool) (P : ColumnView → Type 0) (o : Option ColumnView) (c : ColumnView)
    → GivesWhere b P o → o ≡ Some c → (b ≡ true) × P c
gives_some b P o c h e = subst (GivesWhere b P) e h

pub gives_none : (b : Bool) (P : ColumnView → Type 0) (o : Option ColumnView)
    → GivesWhere b P o → o ≡ None → b ≡ false
gives_none b P o h e = subst (GivesWhere b P) e h
