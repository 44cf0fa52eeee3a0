-- What was answered so far, and one answer more.
use Rattle.std.proofs.Common.{◌≡◌, ℕ, zero, suc, ◌<◌, List, [], ◌∷◌, ◌++◌, map, length, take}
use Rattle.std.proofs.Common.{get_or}
use Rattle.std.proofs.Common.{refl, sym, subst, inl, inr, arith}
use Rattle.std.specs.Prelude.{◌⊎◌, All, Result, Ok, Err, IsErrAnd}
use Rattle.vortex_errors.specs.Answers.{Answers, UnlessMemory}
use Rattle.vortex_errors.specs.declared.error.VortexError.{VortexError}
use Rattle.vortex_errors.specs.declared.error.VortexError.TheVariants.{OutOfMemory}
use Rattle.vortex_columns.specs.ColumnView.{ColumnView}
use Rattle.vortex_interface.specs.Meaning.{Meaning}
use Rattle.vortex_interface.specs.Trees.{Tree}
use Rattle.vortex_interface.specs.Execution.{Executes, RefusesColumns, RefusesExecution}
use Rattle.vortex_functions.specs.Executing.{Fits}
use Rattle.vortex_functions.specs.Walks.{AllMean}
use Rattle.vortex_program.specs.Executing.{RefusesFirst, RefusesColumnsFirst, AllFit}

pub all_head : {X : Type 0} (P : X → Type 0) (x : X) (xs : List X) → All P (x ∷ xs) → P x
all_head P x xs h = h 0 x (omega arith)

pub all_tail : {X : Type 0} (P : X → Type 0) (x : X) (xs : List X) → All P (x ∷ xs) → All P xs
all_tail P x xs h = λ k d below. h (suc k) d (omega (arith, below))

pub all_cons : {X : Type 0} (P : X → Type 0) (x : X) (xs : List X) → P x → All P xs → All P (x ∷ xs)
all_cons P x xs p h zero d below = p
all_cons P x xs p h (suc k) d below = h k d (omega (arith, below))

-- what holds of each element, and of one element more
pub placed_more : {X A : Type 0} (P : A → Type 0) (f : X → A) (xs : List X) (k j : ℕ) (x : X)
    → j ≡ suc k → k < length xs → x ≡ get_or xs k x
    → All P (map f (take k xs)) → P (f x) → All P (map f (take j xs))
placed_more {X = X} P f xs k j x next lt at h r =
    subst (λ (n : ℕ). All P (map f (take n xs))) (sym next) (go xs k lt at h)
  where
    go : (ys : List X) (l : ℕ) → l < length ys → x ≡ get_or ys l x
        → All P (map f (take l ys)) → All P (map f (take (suc l) ys))
    go [] l below at h = absurd (omega (arith, below))
    go (y ∷ ys) zero below at h =
        all_cons P (f y) [] (subst (λ z. P (f z)) at r) (λ k d no. absurd (omega (arith, no)))
    go (y ∷ ys) (suc l) below at h =
        all_cons P (f y) (map f (take (suc l) ys)) (all_head P (f y) (map f (take l ys)) h)
        (go ys l (omega (arith, below)) at (all_tail P (f y) (map f (take l ys)) h))

-- a refusal that is passed on
pub answers_refusal : {A : Type 0} (P : A → Type 0) (Q : VortexError → Type 0)
    (r : Result A VortexError) (e : VortexError)
    → IsErrAnd r (λ y. y ≡ e) → UnlessMemory Q e → Answers r P Q
answers_refusal P Q (Ok x) e is h = absurd is
answers_refusal P Q (Err y) e is h = subst (UnlessMemory Q) (sym is) h

-- what is made of each element, and of one element more
pub all_more : {X A P : Type 0} (means : A → P → Type 0) (f : X → A) (xs : List X) (os : List P)
    (k j : ℕ) (x : X) (o : P) → j ≡ suc k → k < length xs → x ≡ get_or xs k x
    → AllMean means (map f (take k xs)) os → means (f x) o
    → AllMean means (map f (take j xs)) (os ++ o ∷ [])
all_more {X = X} {P = P} means f xs os k j x o next lt at h r =
    subst (λ (n : ℕ). AllMean means (map f (take n xs)) (os ++ o ∷ [])) (sym next)
    (go xs os k lt at h)
  where
    go : (ys : List X) (ps : List P) (l : ℕ) → l < length ys → x ≡ get_or ys l x
        → AllMean means (map f (take l ys)) ps
        → AllMean means (map f (take (suc l) ys)) (ps ++ o ∷ [])
    go [] ps l below at h = absurd (omega (arith, below))
    go (y ∷ ys) [] zero below at h = (subst (λ z. means (f z) o) at r, tt)
    go (y ∷ ys) (p ∷ ps) zero below at h = absurd h
    go (y ∷ ys) [] (suc l) below at h = absurd h
    go (y ∷ ys) (p ∷ ps) (suc l) below at h = (h.0, go ys ps l (omega (arith, below)) at h.1)

module _ {V O X : Type 0} (m : Meaning V O) (cs : List ColumnView) (n : ℕ) (f : X → Tree V O) where
  -- the first that is refused
  pub refuses_at : (xs : List X) (os : List ColumnView) (k : ℕ) (x : X) (e : VortexError)
      → k < length xs → x ≡ get_or xs k x
      → AllMean (Executes m cs n) (map f (take k xs)) os → RefusesExecution m cs n (f x) e
      → RefusesFirst m cs n (map f xs) e
  refuses_at [] os k x e below at h r = absurd (omega (arith, below))
  refuses_at (y ∷ xs) os zero x e below at h r =
      inl (subst (λ z. RefusesExecution m cs n (f z) e) at r)
  refuses_at (y ∷ xs) [] (suc k) x e below at h r = absurd h
  refuses_at (y ∷ xs) (o ∷ os) (suc k) x e below at h r =
      inr (o, h.0, refuses_at xs os k x e (omega (arith, below)) at h.1 r)

  -- the columns serve one tree more
  pub fit_more : (xs : List X) (k j : ℕ) (x : X) → j ≡ suc k → k < length xs → x ≡ get_or xs k x
      → AllFit cs n (map f (take k xs)) → Fits cs n (f x) → AllFit cs n (map f (take j xs))
  fit_more xs k j x next lt at h r =
      subst (λ (l : ℕ). AllFit cs n (map f (take l xs))) (sym next) (go xs k lt at h)
    where
      go : (ys : List X) (l : ℕ) → l < length ys → x ≡ get_or ys l x
          → AllFit cs n (map f (take l ys)) → AllFit cs n (map f (take (suc l) ys))
      go [] l below at h = absurd (omega (arith, below))
      go (y ∷ ys) zero below at h = (subst (λ z. Fits cs n (f z)) at r, tt)
      go (y ∷ ys) (suc l) below at h = (h.0, go ys l (omega (arith, below)) at h.1)

  -- the first that they do not serve
  pub refuses_columns_at : (xs : List X) (k : ℕ) (x : X) (e : VortexError)
      → k < length xs → x ≡ get_or xs k x
      → AllFit cs n (map f (take k xs)) → RefusesColumns cs n (f x) e
      → RefusesColumnsFirst cs n (map f xs) e
  refuses_columns_at [] k x e below at h r = absurd (omega (arith, below))
  refuses_columns_at (y ∷ xs) zero x e below at h r =
      inl (subst (λ z. RefusesColumns cs n (f z) e) at r)
  refuses_columns_at (y ∷ xs) (suc k) x e below at h r =
      inr (h.0, refuses_columns_at xs k x e (omega (arith, below)) at h.1 r)

-- a column that was borrowed, or its copy
pub owned_is : (x c : ColumnView) → (x ≡ c) ⊎ (x ≡ c) → x ≡ c
owned_is x c (inl e) = e
owned_is x c (inr e) = e

-- a refusal that is not for want of memory
pub unless_not : (Q : VortexError → Type 0) (e : VortexError) → (e ≡ OutOfMemory → ⊥)
    → UnlessMemory Q e → Q e
unless_not Q OutOfMemory other h = absurd (other refl)
unless_not Q e other h = h
