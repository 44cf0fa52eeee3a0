-- Where some row of a tree faults there is a first call that faults.
use Rattle.std.proofs.Common.{◌≡◌, ℕ, zero, suc, ◌<◌, ◌⊎◌, List, refl}
use Rattle.std.proofs.Common.{sym, subst, inl, inr, arith, nat_eq, Bool, true, false}
use Rattle.vortex_errors.specs.declared.error.VortexError.{VortexError}
use Rattle.vortex_columns.specs.ColumnView.{ColumnView}
use Rattle.vortex_interface.specs.Outcomes.{Outcome, gives, faults, GivesValue, error_of}
use Rattle.vortex_interface.specs.Outcomes.{IsRowFault}
use Rattle.vortex_interface.specs.Meaning.{Meaning}
use Rattle.vortex_interface.specs.Trees.{Tree, leaf, constant, call, Trees, no_trees, tree}
use Rattle.vortex_interface.specs.Eval.{eval, Settled, AllSettled, IsFirstFault, IsFirstFaultIn}
use Rattle.vortex_interface.specs.Running.{FaultsSomewhere}
use Rattle.vortex_interface.proofs.FaultyRows.{no_value_faults, value_in}

-- all of the first n outcomes are values, or one is a fault
abbrev Searched : (ℕ → Outcome) → ℕ → Type 0
Searched outcome n =
    ((i : ℕ) → i < n → GivesValue (outcome i)) ⊎ ((e : VortexError) × IsRowFault n outcome e)

more_values : (outcome : ℕ → Outcome) (n : ℕ) → ((i : ℕ) → i < n → GivesValue (outcome i))
    → GivesValue (outcome n) → (i : ℕ) → i < suc n → GivesValue (outcome i)
more_values outcome n before last i lt = by (nat_eq i n) refl
  where
    by : (b : Bool) → nat_eq i n ≡ b → GivesValue (outcome i)
    by true e =
        let is : i ≡ n = grind (arith, e) in subst (λ k. GivesValue (outcome k)) (sym is) last
    by false e = before i (grind (arith, e, lt))

search_one : (outcome : ℕ → Outcome) (n : ℕ) (x : Outcome) → outcome n ≡ x
    → Searched outcome n → Searched outcome (suc n)
search_one outcome n x here (inr (e, fault)) =
    inr (
      e,
      record {
        at = fault.at;
        below = grind (arith, fault.below);
        fault = fault.fault;
        here = fault.here;
        told = fault.told;
      },
    )
search_one outcome n (gives v) here (inl before) =
    inl (more_values outcome n before (subst GivesValue (sym here) tt))
search_one outcome n (faults x) here (inl before) =
    inr (error_of x, record { at = n; below = omega arith; fault = x; here = here; told = refl })

search_rows : (outcome : ℕ → Outcome) (n : ℕ) → Searched outcome n
search_rows outcome zero = inl (λ i lt. absurd (grind (arith, lt)))
search_rows outcome (suc n) = search_one outcome n (outcome n) refl (search_rows outcome n)

module _ {V O : Type 0} (m : Meaning V O) (cs : List ColumnView) (n : ℕ) where
  joined : (t : Tree V O) (ts : Trees V O)
      → Settled m cs n t ⊎ ((e : VortexError) × IsFirstFault m cs n t e)
      → AllSettled m cs n ts ⊎ ((e : VortexError) × IsFirstFaultIn m cs n ts e)
      → AllSettled m cs n (tree t ts)
      ⊎ ((e : VortexError) × IsFirstFaultIn m cs n (tree t ts) e)
  joined t ts (inr (e, first)) later = inr (e, inl first)
  joined t ts (inl h) (inr (e, first)) = inr (e, inr (h, first))
  joined t ts (inl h) (inl hs) = inl (h, hs)

  mutual
    settled_or_faulty : (t : Tree V O)
        → Settled m cs n t ⊎ ((e : VortexError) × IsFirstFault m cs n t e)
    settled_or_faulty (leaf l) = inl (λ i lt. tt)
    settled_or_faulty (constant s) = inl (λ i lt. tt)
    settled_or_faulty (call f ts) = of_call (all_settled_or_faulty ts)
      where
        of_rows : AllSettled m cs n ts → Searched (eval m cs (call f ts)) n
            → Settled m cs n (call f ts)
            ⊎ ((e : VortexError) × IsFirstFault m cs n (call f ts) e)
        of_rows h (inl values) = inl values
        of_rows h (inr (e, fault)) = inr (e, inr (h, fault))

        of_call : AllSettled m cs n ts ⊎ ((e : VortexError) × IsFirstFaultIn m cs n ts e)
            → Settled m cs n (call f ts)
            ⊎ ((e : VortexError) × IsFirstFault m cs n (call f ts) e)
        of_call (inr (e, first)) = inr (e, inl first)
        of_call (inl h) = of_rows h (search_rows (eval m cs (call f ts)) n)

    all_settled_or_faulty : (ts : Trees V O)
        → AllSettled m cs n ts ⊎ ((e : VortexError) × IsFirstFaultIn m cs n ts e)
    all_settled_or_faulty no_trees = inl tt
    all_settled_or_faulty (tree t ts) =
        joined t ts (settled_or_faulty t) (all_settled_or_faulty ts)

  pub first_fault_of : (t : Tree V O) → FaultsSomewhere m cs n t
      → (e : VortexError) × IsFirstFault m cs n t e
  first_fault_of t k = by (settled_or_faulty t)
    where
      by : Settled m cs n t ⊎ ((e : VortexError) × IsFirstFault m cs n t e)
          → (e : VortexError) × IsFirstFault m cs n t e
      by (inr first) = first
      by (inl h) =
          let v = value_in (eval m cs t k.0) (h k.0 k.1) in
          absurd (no_value_faults (eval m cs t k.0) k.2 k.3 v.0 v.1)
