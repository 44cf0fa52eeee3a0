-- Properties of codes hold for equal ones.
use Rattle.std.proofs.Common.{◌≡◌, ℕ, ◌<◌, ◌↔◌, Bool, List, IsTrue, sym, subst}
use Rattle.std.specs.Prelude.{All}
use Rattle.vortex_arrays.specs.Dictionary.{AreCoded}

-- they name as many values
pub below_over : (m n : ℕ) (xs ys : List ℕ) → m ≡ n → xs ≡ ys → All (λ code. code < n) ys
    → All (λ code. code < m) xs
below_over m n xs ys long same h =
    subst (λ (k : ℕ). All (λ code. code < k) xs) (sym long)
    (subst (λ (zs : List ℕ). All (λ code. code < n) zs) (sym same) h)

-- and the same ones
pub coded_over : (b : Bool) (count : ℕ) (xs ys : List ℕ) → xs ≡ ys
    → (IsTrue b ↔ AreCoded count ys) → IsTrue b ↔ AreCoded count xs
coded_over b count xs ys same h =
    subst (λ (zs : List ℕ). IsTrue b ↔ AreCoded count zs) (sym same) h
