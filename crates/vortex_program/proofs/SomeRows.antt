-- Some rows of columns mean what those rows mean.
use Rattle.std.proofs.Common.{◌≡◌, ℕ, zero, suc, ◌+◌, ◌<◌, ◌≤◌, ◌-◌, refl, sym, ap, subst, ◌∙◌}
use Rattle.std.proofs.Common.{List, [], ◌∷◌, Option, Some, None, inl, inr, arith, length}
use Rattle.std.proofs.Common.{Bool, true, false, nat_eq, nat_lt, get_or}
use Rattle.std.specs.Prelude.{slice_get, All, if◌then◌else◌}
use Rattle.std.proofs.Math.Nat.{add-zero}
use borrow.Author.Tests.{eqb-true}
use Rattle.vortex_errors.specs.declared.error.VortexError.{VortexError}
use Rattle.vortex_columns.specs.ColumnView.{ColumnView, row}
use Rattle.vortex_interface.specs.Outcomes.{Outcome, gives, faults, Fault, error_of, GivesValue}
use Rattle.vortex_interface.specs.Meaning.{Meaning}
use Rattle.vortex_interface.specs.Functions.{function_means}
use Rattle.vortex_interface.specs.Trees.{place, held, Tree, leaf, constant, call, Trees}
use Rattle.vortex_interface.specs.Trees.{no_trees, tree}
use Rattle.vortex_interface.specs.Eval.{Inputs, one_faults, with_first, then_means, tree_types}
use Rattle.vortex_interface.specs.Eval.{types_or_none, rows_or_none, eval, eval_all}
use Rattle.vortex_interface.specs.Eval.{IsFirstFault, IsFirstFaultIn, HasTreeRows}
use Rattle.vortex_interface.specs.Execution.{LeavesFit, other_length}
use Rattle.vortex_interface.specs.Bound.{IsBound, AllBound}
use Rattle.vortex_interface.proofs.FaultyRows.{fault_row}
use Rattle.vortex_program.specs.declared.answer.Answer as named
use Rattle.vortex_program.specs.Programs.{trees_of}
use Rattle.vortex_program.specs.Reads.{Reads, AnyReads, AreRead, BothAt, BothWhere}
use Rattle.vortex_program.specs.Rows.{HasRowsAt, HaveRows, IsMarked, from}
use Rattle.vortex_program.specs.Executing.{FaultsAt, AllGive, AllGiveWithin, AllFit}
use Rattle.vortex_program.proofs.Agreeing.{ReadsIn, where_first, where_later, leaves_fit}
use Rattle.vortex_program.proofs.Answered.{all_cons}

module _ (at : ℕ → ℕ) (count : ℕ) (cs ds : List ColumnView) where
  -- columns of which the second have rows of the first, where they are of a kind
  abbrev pub HasWhereAt : (ℕ → Type 0) → Type 0
  HasWhereAt P = BothWhere P (HasRowsAt at count) cs ds

  place_row : (a b : Option ColumnView) → BothAt (HasRowsAt at count) a b → (j : ℕ) → j < count
      → row (rows_or_none b) j ≡ row (rows_or_none a) (at j)
  place_row None None h j lt = refl
  place_row None (Some d) h j lt = absurd h
  place_row (Some c) None h j lt = absurd h
  place_row (Some c) (Some d) h j lt = h.each j lt

  module _ {V O : Type 0} where
    pub leaves_fit_at : (t : Tree V O) → HasWhereAt (λ k. Reads k t) → LeavesFit cs t
        → LeavesFit ds t
    leaves_fit_at t have fit =
        leaves_fit (HasRowsAt at count) cs ds (λ c d h. h.dtype) t have fit

    module _ (m : Meaning V O) (j : ℕ) (lt : j < count) where
      mutual
        pub row_is_at : (t : Tree V O) → IsBound t → HasWhereAt (λ k. Reads k t)
            → eval m ds t j ≡ eval m cs t (at j)
        row_is_at (leaf (place p name t)) h have =
            ap gives (place_row (slice_get cs p) (slice_get ds p) (have p (name, t, refl)) j lt)
        row_is_at (leaf (held c)) h have = absurd h
        row_is_at (constant s) h have = refl
        row_is_at (call f ts) h have =
            ap (then_means (function_means m f (types_or_none (tree_types m ts))))
            (rows_are_at ts h have)

        rows_are_at : (ts : Trees V O) → AllBound ts → HasWhereAt (λ k. ReadsIn k ts)
            → eval_all m ds ts j ≡ eval_all m cs ts (at j)
        rows_are_at no_trees h have = refl
        rows_are_at (tree t ts) h have =
            λ i. with_first
            (row_is_at t h.0 (where_first (HasRowsAt at count) cs ds t ts have) i)
            (rows_are_at ts h.1 (where_later (HasRowsAt at count) cs ds t ts have) i)

-- the same of the rows from the first on
abbrev pub HasWhere : ℕ → ℕ → List ColumnView → List ColumnView → (ℕ → Type 0) → Type 0
HasWhere first count = HasWhereAt (from first) count

pub row_is : {V O : Type 0} (first count : ℕ) (cs ds : List ColumnView) (m : Meaning V O) (j : ℕ)
    → j < count → (t : Tree V O) → IsBound t → HasWhere first count cs ds (λ k. Reads k t)
    → eval m ds t j ≡ eval m cs t (first + j)
row_is first count cs ds = row_is_at (from first) count cs ds

pub leaves_fit_there : {V O : Type 0} (first count : ℕ) (cs ds : List ColumnView) (t : Tree V O)
    → HasWhere first count cs ds (λ k. Reads k t) → LeavesFit cs t → LeavesFit ds t
leaves_fit_there first count cs ds = leaves_fit_at (from first) count cs ds

gives_here : (x : Outcome) → GivesValue x → (inputs : Inputs) (f : Fault) → inputs ≡ one_faults f
    → with_first x inputs ≡ one_faults f
gives_here (gives v) h inputs f e = ap (with_first (gives v)) e
gives_here (faults f) h inputs g e = absurd h

-- over one row, the first fault is that row's
module _ {V O : Type 0} (m : Meaning V O) (cs : List ColumnView) where
  abbrev Faulty : Outcome → VortexError → Type 0
  Faulty x e = (f : Fault) × (x ≡ faults f) × (e ≡ error_of f)

  abbrev FaultyIn : Inputs → VortexError → Type 0
  FaultyIn x e = (f : Fault) × (x ≡ one_faults f) × (e ≡ error_of f)

  mutual
    one_row_fault : (t : Tree V O) (e : VortexError) → IsFirstFault m cs 1 t e
        → Faulty (eval m cs t 0) e
    one_row_fault (leaf l) e k = absurd k
    one_row_fault (constant s) e k = absurd k
    one_row_fault (call f ts) e (inl k) =
        let h = one_row_fault_in ts e k in
        (h.0, ap (then_means (function_means m f (types_or_none (tree_types m ts)))) h.1, h.2)
    one_row_fault (call f ts) e (inr k) =
        let none : k.1.at ≡ 0 = omega (arith, k.1.below) in
        (k.1.fault, ap (eval m cs (call f ts)) (sym none) ∙ k.1.here, k.1.told)

    one_row_fault_in : (ts : Trees V O) (e : VortexError) → IsFirstFaultIn m cs 1 ts e
        → FaultyIn (eval_all m cs ts 0) e
    one_row_fault_in no_trees e k = absurd k
    one_row_fault_in (tree t ts) e (inl k) =
        let h = one_row_fault t e k in
        (h.0, ap (λ x. with_first x (eval_all m cs ts 0)) h.1, h.2)
    one_row_fault_in (tree t ts) e (inr k) =
        let h = one_row_fault_in ts e k.1 in
        (h.0, gives_here (eval m cs t 0) (k.0 0 (omega arith)) (eval_all m cs ts 0) h.0 h.1, h.2)

module _ {V O : Type 0} (m : Meaning V O) (cs ds : List ColumnView) (first : ℕ) (t : Tree V O)
    (bound : IsBound t) where
  module _ (count : ℕ) (have : HasWhere first count cs ds (λ k. Reads k t)) where
    -- a column of the rows says that none of them faults
    gives_there : (c : ColumnView) → HasTreeRows m ds count t c → (j : ℕ) → j < count
        → GivesValue (eval m cs t (first + j))
    gives_there c h j lt =
        subst GivesValue (sym (h.each j lt) ∙ row_is_at (from first) count cs ds m j lt t bound have) tt

    pub gives_within : (c : ColumnView) → HasTreeRows m ds count t c → (i : ℕ) → first ≤ i
        → i < first + count → GivesValue (eval m cs t i)
    gives_within c h i from to =
        let is : first + (i - first) ≡ i = omega (arith, from) in
        subst (λ k. GivesValue (eval m cs t k)) is
        (gives_there c h (i - first) (omega (arith, from, to)))

    -- an error says that one does
    pub some_faults : (e : VortexError) → IsFirstFault m ds count t e
        → (j : ℕ) × (j < count) × (f : Fault) × (eval m cs t (first + j) ≡ faults f)
    some_faults e k =
        let h = fault_row m ds count t e k in
        (h.0, h.1, h.2, sym (row_is_at (from first) count cs ds m h.0 h.1 t bound have) ∙ h.3)

  module _ (have : HasWhere first 1 cs ds (λ k. Reads k t)) where
    -- for one row it is the fault
    pub faults_there : (e : VortexError) → IsFirstFault m ds 1 t e → FaultsAt m cs first t e
    faults_there e k =
        let h = one_row_fault m ds t e k in
        record {
          fault = h.0;
          here = ap (eval m cs t) (sym (add-zero first))
              ∙ sym (row_is_at (from first) 1 cs ds m 0 (omega arith) t bound have) ∙ h.1;
          told = h.2;
        }

    -- and a column that it has a value
    pub gives_one : (c : ColumnView) → HasTreeRows m ds 1 t c → GivesValue (eval m cs t first)
    gives_one c h =
        subst (λ i. GivesValue (eval m cs t i)) (add-zero first)
        (gives_there 1 have c h 0 (omega arith))

-- rows of the columns that are marked are rows of those that trees read
pub have_read : {V O : Type 0} (ts : List (Tree V O)) (read : List Bool) (first count : ℕ)
    (cs ds : List ColumnView) → AreRead ts (length cs) read
    → HaveRows (IsMarked read cs) first count cs ds
    → HaveRows (λ k. AnyReads k ts) first count cs ds
have_read ts read first count cs ds are h = record {
  even = h.even;
  each = λ k r. h.each k (λ lt. (are.each k lt).1 r);
}

-- a tree of answers reads what they read
reads_at : (xs : List named.Answer) (i : ℕ) (x : named.Answer) → i < length xs → x ≡ get_or xs i x
    → (k : ℕ) → Reads k x.tree → AnyReads k (trees_of xs)
reads_at [] i x below at k r = absurd (omega (arith, below))
reads_at (y ∷ xs) zero x below at k r =
    inl (subst (λ (z : named.Answer). Reads k z.tree) at r)
reads_at (y ∷ xs) (suc i) x below at k r =
    inr (reads_at xs i x (omega (arith, below)) at k r)

pub have_at : (xs : List named.Answer) (i : ℕ) (x : named.Answer) (first count : ℕ)
    (cs ds : List ColumnView) → i < length xs → x ≡ get_or xs i x
    → HaveRows (λ k. AnyReads k (trees_of xs)) first count cs ds
    → HasWhere first count cs ds (λ k. Reads k x.tree)
have_at xs i x first count cs ds below at h k r = h.each k (reads_at xs i x below at k r)

-- a row of the row count is one of each column
pub rows_within : (cs : List ColumnView) (n i : ℕ) → i ≤ n → other_length n cs ≡ None
    → All (λ c. i ≤ length c.rows) cs
rows_within [] n i below h = λ k d within. absurd (omega (arith, within))
rows_within (c ∷ cs) n i below h =
    go (nat_eq (length c.rows) n) refl h (λ e. rows_within cs n i below e)
  where
    go : (b : Bool) → nat_eq (length c.rows) n ≡ b
        → (if b then other_length n cs else Some (length c.rows)) ≡ None
        → (other_length n cs ≡ None → All (λ d. i ≤ length d.rows) cs)
        → All (λ d. i ≤ length d.rows) (c ∷ cs)
    go true e h rest =
        let same : length c.rows ≡ n = eqb-true (length c.rows) n e in
        all_cons (λ d. i ≤ length d.rows) c cs (omega (arith, same, below)) (rest h)
    go false e h rest = let different : Some (length c.rows) ≡ None = h in cc

-- columns that are valid for some tree have the row count
pub all_counted : {V O : Type 0} (cs : List ColumnView) (n : ℕ) (ts : List (Tree V O))
    → 0 < length ts → AllFit cs n ts → other_length n cs ≡ None
all_counted cs n [] some h = absurd (omega (arith, some))
all_counted cs n (t ∷ ts) some h = h.0.1

-- no tree faults in rows that follow one another
pub joined_within : {V O : Type 0} (m : Meaning V O) (cs : List ColumnView) (from end : ℕ)
    (ts : List (Tree V O)) → AllGiveWithin m cs 0 from ts → AllGiveWithin m cs from end ts
    → AllGiveWithin m cs 0 end ts
joined_within m cs from end ts before after i low below = by (nat_lt i from) refl
  where
    by : (b : Bool) → nat_lt i from ≡ b → AllGive m cs i ts
    by true e = before i low (grind (arith, e))
    by false e = after i (grind (arith, e)) below

-- the row at which the parts end
pub to_end : {V O : Type 0} (m : Meaning V O) (cs : List ColumnView) (from end : ℕ)
    (ts : List (Tree V O)) → from ≤ end
    → AllGiveWithin m cs from (from + (end - from)) ts → AllGiveWithin m cs from end ts
to_end m cs from end ts le h i low below = h i low (omega (arith, le, below))

-- where a later row faults, not all rows before it and it are without a fault
pub not_before : {V O : Type 0} (m : Meaning V O) (cs : List ColumnView) (from end n : ℕ)
    (ts : List (Tree V O)) → from ≤ end
    → (AllGiveWithin m cs from (from + (end - from)) ts → ⊥)
    → AllGiveWithin m cs 0 end ts → AllGiveWithin m cs 0 n ts
not_before m cs from end n ts le faulty_there all =
    absurd (faulty_there (λ i low below. all i (omega arith) (omega (arith, le, below))))

-- no tree faults in the rows before one, nor in it
pub one_more_within : {V O : Type 0} (m : Meaning V O) (cs : List ColumnView) (row : ℕ)
    (ts : List (Tree V O)) → AllGiveWithin m cs 0 row ts → AllGive m cs row ts
    → AllGiveWithin m cs 0 (row + 1) ts
one_more_within m cs row ts before here i low below = by (nat_lt i row) refl
  where
    by : (b : Bool) → nat_lt i row ≡ b → AllGive m cs i ts
    by true e = before i low (grind (arith, e))
    by false e =
        let is : i ≡ row = grind (arith, e, below) in
        subst (λ k. AllGive m cs k ts) (sym is) here
