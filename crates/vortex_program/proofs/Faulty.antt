-- The trees so far that do not fault in a row, and the first that does.
use Rattle.std.proofs.Common.{◌≡◌, ◌<◌, ◌∙◌, ℕ, List, [], ◌∷◌, refl, sym, ap, subst, zero, suc, arith}
use Rattle.std.proofs.Common.{length, take, get_or, Some, inl, inr}
use Rattle.std.specs.Prelude.{◌+◌, ◌≤◌, All, option_map, slice_get}
use Rattle.std.proofs.lemmas.Option.{slice_get_read, slice_get-map}
use Rattle.std.proofs.lemmas.List.{take-map}
use Rattle.vortex_errors.specs.declared.error.VortexError.{VortexError}
use Rattle.vortex_columns.specs.ColumnView.{ColumnView}
use Rattle.vortex_interface.specs.Eval.{eval}
use Rattle.vortex_interface.specs.Bound.{IsBound}
use Rattle.vortex_interface.specs.Outcomes.{Fault, faults, GivesValue}
use Rattle.vortex_functions.specs.Executing.{Fits}
use Rattle.vortex_expressions.specs.Items.{Tree, meaning}
use Rattle.vortex_program.specs.Executing.{AllFit, AllGive, AllGiveWithin, FaultsAt}
use Rattle.vortex_program.specs.Executing.{FaultsFirst}
use Rattle.vortex_program.specs.declared.answer.Answer as bound
use Rattle.vortex_program.specs.Programs.{trees_of}
use Rattle.vortex_program.specs.Running.{FaultsThere}
use Rattle.vortex_program.proofs.Answered.{all_head, all_tail}

-- a tree of those that the columns serve
pub fit_at : (cs : List ColumnView) (n : ℕ) (xs : List bound.Answer) (k : ℕ) (x : bound.Answer)
    → k < length xs → x ≡ get_or xs k x → AllFit cs n (trees_of xs) → Fits cs n x.tree
fit_at cs n [] k x below at fits = absurd (omega (arith, below))
fit_at cs n (y ∷ xs) zero x below at fits =
    subst (λ (z : bound.Answer). Fits cs n z.tree) (sym at) fits.0
fit_at cs n (y ∷ xs) (suc k) x below at fits =
    fit_at cs n xs k x (omega (arith, below)) at fits.1

-- a tree of those whose leaves are places
pub bound_at : (xs : List bound.Answer) (k : ℕ) (x : bound.Answer) → k < length xs
    → x ≡ get_or xs k x → All IsBound (trees_of xs) → IsBound x.tree
bound_at [] k x below at h = absurd (omega (arith, below))
bound_at (y ∷ xs) zero x below at h =
    subst (λ (z : bound.Answer). IsBound z.tree) (sym at) (all_head IsBound y.tree (trees_of xs) h)
bound_at (y ∷ xs) (suc k) x below at h =
    bound_at xs k x (omega (arith, below)) at (all_tail IsBound y.tree (trees_of xs) h)

-- trees of which the first faults are not none
pub some_fault : (cs : List ColumnView) (row : ℕ) (ts : List Tree) (e : VortexError)
    → FaultsFirst meaning cs row ts e → 0 < length ts
some_fault cs row [] e h = absurd h
some_fault cs row (t ∷ ts) e h = omega arith

module _ (cs : List ColumnView) (row : ℕ) where
  pub give_more : (xs : List bound.Answer) (k j : ℕ) (x : bound.Answer) → j ≡ suc k → k < length xs
      → x ≡ get_or xs k x → AllGive meaning cs row (trees_of (take k xs))
      → GivesValue (eval meaning cs x.tree row)
      → AllGive meaning cs row (trees_of (take j xs))
  give_more xs k j x next lt at give here =
      subst (λ (n : ℕ). AllGive meaning cs row (trees_of (take n xs))) (sym next)
      (go xs k lt at give)
    where
      go : (ys : List bound.Answer) (l : ℕ) → l < length ys → x ≡ get_or ys l x
          → AllGive meaning cs row (trees_of (take l ys))
          → AllGive meaning cs row (trees_of (take (suc l) ys))
      go [] l below is g = absurd (omega (arith, below))
      go (y ∷ ys) zero below is g =
          (subst (λ (z : bound.Answer). GivesValue (eval meaning cs z.tree row)) is here, tt)
      go (y ∷ ys) (suc l) below is g = (g.0, go ys l (omega (arith, below)) is g.1)

  -- a tree of those that do not fault
  give_at : (xs : List bound.Answer) (k : ℕ) (x : bound.Answer) → k < length xs
      → x ≡ get_or xs k x → AllGive meaning cs row (trees_of xs)
      → GivesValue (eval meaning cs x.tree row)
  give_at [] k x below at give = absurd (omega (arith, below))
  give_at (y ∷ xs) zero x below at give =
      subst (λ (z : bound.Answer). GivesValue (eval meaning cs z.tree row)) (sym at) give.0
  give_at (y ∷ xs) (suc k) x below at give = give_at xs k x (omega (arith, below)) at give.1

  pub faults_there_at : (xs : List bound.Answer) (k : ℕ) (x : bound.Answer) (e : VortexError)
      → k < length xs → x ≡ get_or xs k x → AllGive meaning cs row (trees_of (take k xs))
      → FaultsAt meaning cs row x.tree e → FaultsThere cs row (trees_of xs) k e
  faults_there_at xs k x e below at give here = record {
    tree = x.tree;
    there = slice_get-map (λ a. a.tree) xs k
        ∙ ap (option_map (λ a. a.tree)) (slice_get_read xs (length xs) k x refl below at);
    here = here;
    before = subst (λ (ts : List Tree). AllGive meaning cs row ts)
        (sym (take-map (λ a. a.tree) k xs)) give;
  }

module _ (cs : List ColumnView) (first count : ℕ) where
  -- the first trees fault in none of the rows, nor does one more
  pub within_more : (xs : List bound.Answer) (k j : ℕ) (x : bound.Answer) → j ≡ suc k
      → k < length xs → x ≡ get_or xs k x
      → AllGiveWithin meaning cs first (first + count) (trees_of (take k xs))
      → ((i : ℕ) → first ≤ i → i < first + count → GivesValue (eval meaning cs x.tree i))
      → AllGiveWithin meaning cs first (first + count) (trees_of (take j xs))
  within_more xs k j x next lt at give here i low below =
      give_more cs i xs k j x next lt at (give i low below) (here i low below)

  -- one of them faults in one of the rows
  pub faults_within_at : (xs : List bound.Answer) (k : ℕ) (x : bound.Answer) → k < length xs
      → x ≡ get_or xs k x
      → (j : ℕ) × (j < count) × (f : Fault) × (eval meaning cs x.tree (first + j) ≡ faults f)
      → AllGiveWithin meaning cs first (first + count) (trees_of xs) → ⊥
  faults_within_at xs k x lt at h give =
      subst GivesValue h.3
      (give_at cs (first + h.0) xs k x lt at
      (give (first + h.0) (omega arith) (omega (arith, h.1))))

-- of the first tree that faults in a row it is the fault that is reported
pub first_there : (cs : List ColumnView) (row : ℕ) (e : VortexError) (ts : List Tree) (k : ℕ)
    (t : Tree) → slice_get ts k ≡ Some t → FaultsAt meaning cs row t e
    → AllGive meaning cs row (take k ts) → FaultsFirst meaning cs row ts e
first_there cs row e [] k t there here before = cc
first_there cs row e (x ∷ ts) zero t there here before =
    let same : x ≡ t = cc in
    inl (subst (λ (y : Tree). FaultsAt meaning cs row y e) (sym same) here)
first_there cs row e (x ∷ ts) (suc k) t there here before =
    inr (before.0, first_there cs row e ts k t there here before.1)
