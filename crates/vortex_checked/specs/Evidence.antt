-- A fault flag: the laws that a type must keep to be one.
use Rattle.std.specs.Prelude.{◌≡◌, ℕ, zero, suc, Bool, true, false, not, ◌||◌}

pub record IsEvidence {A : Type 0} (is_default : A → Type 0) (eq : A → A → Bool)
    (can_join : A → A → Type 0) (joined : A → A → A → Type 0) (is_fault : A → Bool) : Type 0 where
  -- the default is no fault, and a flag differs from it exactly where there is a fault
  pub none : (x : A) → is_default x → is_fault x ≡ false
  pub told : (x y : A) → is_default y → eq x y ≡ not (is_fault x)
  -- a joined flag is a fault exactly where one side is
  pub free : (x y : A) → can_join x y
  pub joins : (x y z : A) → joined x y z → is_fault z ≡ (is_fault x || is_fault y)

-- a number as a flag
abbrev pub is_nonzero : ℕ → Bool
is_nonzero zero = false
is_nonzero (suc n) = true
