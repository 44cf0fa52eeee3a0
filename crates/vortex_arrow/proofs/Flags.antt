-- A byte for each bit, and the bytes of those of the next word.
use Rattle.std.proofs.Common.{◌≡◌, ◌⊎◌, inl, inr, ℕ, ◌+◌, ◌-◌, ◌<◌, ◌≤◌, Bool, true, false, List, length}
use Rattle.std.proofs.Common.{take, set, refl, sym, ap, ◌∙◌, arith}
use Rattle.std.specs.Prelude.{slice_index}
use Rattle.std.specs.Int.{from_bool}
use Rattle.std.proofs.lemmas.Bool.{cases_lt}
use Rattle.std.proofs.lemmas.List.{get_or-take, get_or-set_same, get_or-set_other}
use Rattle.vortex_bits.specs.Bits.{bit}
use Rattle.vortex_arrow.specs.Written.{flag}
use Rattle.vortex_arrow.proofs.Cells.{below_or_last}

pub flag_is : (b : Bool) → from_bool b ≡ flag b
flag_is true = refl
flag_is false = refl

-- one more is set
module _ (test : ℕ → Bool) (out : List ℕ) (at j y : ℕ) (within : at + j < length out)
    (so_far : (i : ℕ) → i < j → slice_index out (at + i) ≡ flag (test i))
    (is : y ≡ flag (test j)) where
  by : (i : ℕ) → (i < j) ⊎ (i ≡ j) → slice_index (set out (at + j) y) (at + i) ≡ flag (test i)
  by i (inl lt) =
      get_or-set_other out (at + j) (at + i) y 0 (λ e. absurd (omega (arith, e, lt)))
      ∙ so_far i lt
  by i (inr e) =
      ap (λ n. slice_index (set out (at + j) y) (at + n)) e
      ∙ get_or-set_same out (at + j) y 0 within
      ∙ is
      ∙ ap (λ n. flag (test n)) (sym e)

  pub one_more_flag : (i : ℕ) → i < j + 1
      → slice_index (set out (at + j) y) (at + i) ≡ flag (test i)
  one_more_flag i lt = by i (below_or_last i j lt)

-- those of a word are written after those so far
module _ (test : ℕ → Bool) (old new : List ℕ) (at n word : ℕ)
    (so_far : (i : ℕ) → i < at → slice_index old i ≡ flag (test i))
    (before : take at new ≡ take at old)
    (here : (j : ℕ) → j < n → slice_index new (at + j) ≡ flag (bit word j))
    (says : (j : ℕ) → j < n → bit word j ≡ test (at + j)) where
  each : (i : ℕ) → i < at + n → (i < at) ⊎ (at ≤ i) → slice_index new i ≡ flag (test i)
  each i lt (inl first) =
      sym (get_or-take at new i 0 first)
      ∙ ap (λ (xs : List ℕ). slice_index xs i) before
      ∙ get_or-take at old i 0 first
      ∙ so_far i first
  each i lt (inr next) =
      let back : at + (i - at) ≡ i = omega (arith, next) in
      let inside : i - at < n = omega (arith, lt, next) in
      ap (slice_index new) (sym back)
      ∙ here (i - at) inside
      ∙ ap flag (says (i - at) inside)
      ∙ ap (λ k. flag (test k)) back

  pub more_flags : (i : ℕ) → i < at + n → slice_index new i ≡ flag (test i)
  more_flags i lt = each i lt (cases_lt i at)
