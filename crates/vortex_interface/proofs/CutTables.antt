-- A tree over batches of a table gives the same rows as over the whole.
use Rattle.std.proofs.Common.{◌≡◌, ℕ, zero, suc, ◌<◌, ◌≤◌, ◌+◌, ◌-◌, ◌++◌, List, [], ◌∷◌}
use Rattle.std.proofs.Common.{Some, None, refl, sym, ap, ◌∙◌, subst, inl, inr, length, take, drop}
use Rattle.std.proofs.Common.{arith}
use Rattle.std.proofs.Common.{Bool, true, false}
use Rattle.std.specs.Prelude.{slice_get, nat_lt, nat_eq, if◌then◌else◌}
use Rattle.std.proofs.lemmas.List.{get_or-take, get_or-drop, length-take-le, take-append-drop}
use Rattle.std.proofs.lemmas.List.{ext_get_or, length-drop, drop_all}
use Rattle.vortex_types.specs.Values.{Value, null}
use Rattle.vortex_columns.specs.ColumnView.{ColumnView, row}
use Rattle.vortex_interface.specs.Outcomes.{gives}
use Rattle.vortex_interface.specs.Meaning.{Meaning}
use Rattle.vortex_interface.specs.Functions.{function_means}
use Rattle.vortex_interface.specs.Trees.{Leaf, place, held, Tree, leaf, constant, call, Trees}
use Rattle.vortex_interface.specs.Trees.{no_trees, tree}
use Rattle.vortex_interface.specs.Bound.{IsPlace, IsBound, AllBound}
use Rattle.vortex_interface.specs.Eval.{rows_or_none, then_means, with_first, tree_types}
use Rattle.vortex_interface.specs.Eval.{types_or_none}
use Rattle.vortex_interface.specs.Eval.{eval, eval_all, leaf_value}
use Rattle.vortex_interface.specs.Execution.{LeafFits, LeavesFit, AllLeavesFit, other_length}
use Rattle.vortex_interface.specs.Execution.{Executes}
use Rattle.vortex_interface.specs.Execution.{faulty}
use Rattle.vortex_interface.specs.Running.{FaultsSomewhere}
use Rattle.vortex_interface.specs.Batches.{Batch, IsPart, AreParts, AreBatches, joined_rows}
use Rattle.vortex_interface.specs.Batches.{AllExecute}
use Rattle.vortex_interface.specs.Batches.{IsRefused, SomeRefused, BatchesAnswerAsOne}
use Rattle.vortex_interface.proofs.RewrittenRows.{same_length}
use Rattle.vortex_interface.proofs.RuleAnswers.{gives_is}
use Rattle.vortex_interface.proofs.FaultyRows.{fault_row}
use Rattle.vortex_interface.proofs.FirstFaults.{first_fault_of}
use Rattle.vortex_interface.proofs.ArithmeticErrs.{refuses_first}

part_row : (rows : List Value) (from count i : ℕ) → i < count
    → row (take count (drop from rows)) i ≡ row rows (from + i)
part_row rows from count i lt =
    get_or-take count (drop from rows) i null lt ∙ get_or-drop from rows i null

dropped_twice : (from count : ℕ) (vs : List Value)
    → drop count (drop from vs) ≡ drop (from + count) vs
dropped_twice zero count vs =
    let same : count ≡ 0 + count = omega arith in ap (λ k. drop k vs) same
dropped_twice (suc from) count [] =
    drop_all count [] (omega arith) ∙ sym (drop_all (suc from + count) [] (omega arith))
dropped_twice (suc from) count (v ∷ vs) =
    let same : suc (from + count) ≡ suc from + count = omega arith in
    dropped_twice from count vs ∙ ap (λ k. drop k (v ∷ vs)) same

-- the range of a column at an offset
part_at : (from count : ℕ) (cs ds : List ColumnView) → AreParts from count cs ds → (p : ℕ)
    (c : ColumnView) → slice_get cs p ≡ Some c
    → (d : ColumnView) × (slice_get ds p ≡ Some d) × IsPart from count c d
part_at from count [] [] h p c e = cc
part_at from count (a ∷ cs) (d ∷ ds) h zero c e =
    let is : a ≡ c = cc in (d, refl, subst (λ x. IsPart from count x d) is h.0)
part_at from count (a ∷ cs) (d ∷ ds) h (suc p) c e = part_at from count cs ds h.1 p c e
part_at from count [] (d ∷ ds) h p c e = absurd h
part_at from count (a ∷ cs) [] h p c e = absurd h

module _ (from count : ℕ) (cs ds : List ColumnView) (parts : AreParts from count cs ds) where
  part_fits : (l : Leaf) → IsPlace l → LeafFits cs l → LeafFits ds l
  part_fits (held c) own fit = absurd own
  part_fits (place p name t) own fit =
      let d = part_at from count cs ds parts p fit.0 fit.1 in
      (d.0, d.1, d.2.dtype ∙ fit.2)

  part_value : (l : Leaf) → IsPlace l → LeafFits cs l → (i : ℕ) → i < count
      → leaf_value ds l i ≡ leaf_value cs l (from + i)
  part_value (held c) own fit i lt = absurd own
  part_value (place p name t) own fit i lt =
      let d = part_at from count cs ds parts p fit.0 fit.1 in
      ap (λ o. row (rows_or_none o) i) d.1
      ∙ ap (λ rows. row rows i) d.2.rows
      ∙ part_row fit.0.rows from count i lt
      ∙ ap (λ o. row (rows_or_none o) (from + i)) (sym fit.1)

  module _ {V O : Type 0} where
    mutual
      parts_fit : (t : Tree V O) → IsBound t → LeavesFit cs t → LeavesFit ds t
      parts_fit (leaf l) own fit = part_fits l own fit
      parts_fit (constant s) own fit = tt
      parts_fit (call f ts) own fit = all_parts_fit ts own fit

      all_parts_fit : (ts : Trees V O) → AllBound ts → AllLeavesFit cs ts → AllLeavesFit ds ts
      all_parts_fit no_trees own fit = tt
      all_parts_fit (tree t ts) own fit =
          (parts_fit t own.0 fit.0, all_parts_fit ts own.1 fit.1)

  module _ {V O : Type 0} (m : Meaning V O) (i : ℕ) (lt : i < count) where
    mutual
      part_outcome : (t : Tree V O) → IsBound t → LeavesFit cs t
          → eval m ds t i ≡ eval m cs t (from + i)
      part_outcome (leaf l) own fit = ap gives (part_value l own fit i lt)
      part_outcome (constant s) own fit = refl
      part_outcome (call f ts) own fit =
          ap (then_means (function_means m f (types_or_none (tree_types m ts))))
          (part_inputs ts own fit)

      part_inputs : (ts : Trees V O) → AllBound ts → AllLeavesFit cs ts
          → eval_all m ds ts i ≡ eval_all m cs ts (from + i)
      part_inputs no_trees own fit = refl
      part_inputs (tree t ts) own fit =
          λ j. with_first (part_outcome t own.0 fit.0 j) (part_inputs ts own.1 fit.1 j)

-- ranges of equally long columns are equally long
parts_even : (n from count : ℕ) → from + count ≤ n → (cs ds : List ColumnView)
    → AreParts from count cs ds
    → ((p : ℕ) (c : ColumnView) → slice_get cs p ≡ Some c → length c.rows ≡ n)
    → other_length count ds ≡ None
parts_even n from count le [] [] h same = refl
parts_even n from count le (c ∷ cs) (d ∷ ds) h same =
    let long : length c.rows ≡ n = same zero c refl in
    let left : count ≤ length (drop from c.rows) = omega
    (arith, length-drop from c.rows, long, le) in
    let size : length d.rows ≡ count =
    ap length h.0.rows ∙ length-take-le count (drop from c.rows) left in
    let eq : nat_eq (length d.rows) count ≡ true = grind (arith, size) in
    let rest = parts_even n from count le cs ds h.1 (λ p a e. same (suc p) a e) in
    ap (λ b. if b then other_length count ds else Some (length d.rows)) eq ∙ rest
parts_even n from count le [] (d ∷ ds) h same = absurd h
parts_even n from count le (c ∷ cs) [] h same = absurd h

batches_below : (cs : List ColumnView) (n from : ℕ) (bs : List Batch) → AreBatches cs n from bs
    → from ≤ n
batches_below cs n from [] h = omega (arith, h)
batches_below cs n from (b ∷ bs) h =
    let le = batches_below cs n (from + b.count) bs h.1 in omega (arith, le)

module _ {V O : Type 0} (m : Meaning V O) (t : Tree V O) (cs : List ColumnView) (n : ℕ)
    (fit : LeavesFit cs t) (even : other_length n cs ≡ None) where
  refused_of : FaultsSomewhere m cs n t → IsRefused m t (record { count = n; columns = cs })
  refused_of k = let first = first_fault_of m cs n t k in (first.0, faulty fit even first.1)

  faults_of : IsRefused m t (record { count = n; columns = cs }) → FaultsSomewhere m cs n t
  faults_of k = fault_row m cs n t k.0 (refuses_first m cs n t k.0 fit even k.1)

module _ {V O : Type 0} (m : Meaning V O) (t : Tree V O) (cs : List ColumnView) (n : ℕ)
    (own : IsBound t) (fit : LeavesFit cs t) (even : other_length n cs ≡ None) where
  lengths : (p : ℕ) (c : ColumnView) → slice_get cs p ≡ Some c → length c.rows ≡ n
  lengths p c there = same_length n cs p c even there

  module _ (from : ℕ) (b : Batch) (parts : AreParts from b.count cs b.columns)
      (below : from + b.count ≤ n) where
    batch_fits : LeavesFit b.columns t
    batch_fits = parts_fit from b.count cs b.columns parts t own fit

    batch_even : other_length b.count b.columns ≡ None
    batch_even = parts_even n from b.count below cs b.columns parts lengths

    batch_outcome : (i : ℕ) → i < b.count → eval m b.columns t i ≡ eval m cs t (from + i)
    batch_outcome i lt = part_outcome from b.count cs b.columns parts m i lt t own fit

    batch_faults : FaultsSomewhere m b.columns b.count t → FaultsSomewhere m cs n t
    batch_faults k = (
      from + k.0,
      omega (arith, below, k.1),
      k.2,
      sym (batch_outcome k.0 k.1) ∙ k.3,
    )

    -- a row of the table that is in the batch
    batch_row_faults : (k : FaultsSomewhere m cs n t) → from ≤ k.0 → k.0 < from + b.count
        → FaultsSomewhere m b.columns b.count t
    batch_row_faults k le lt =
        let i = k.0 - from in
        let within : i < b.count = omega (arith, le, lt) in
        let is : from + i ≡ k.0 = omega (arith, le) in
        (i, within, k.2, batch_outcome i within ∙ ap (eval m cs t) is ∙ k.3)

    batch_rows : (c d : ColumnView) → Executes m cs n t c → Executes m b.columns b.count t d
        → d.rows ≡ take b.count (drop from c.rows)
    batch_rows c d h k =
        let whole : length c.rows ≡ n = h.rows.count in
        let left : b.count ≤ length (drop from c.rows) =
        omega (arith, length-drop from c.rows, whole, below) in
        let size : length d.rows ≡ length (take b.count (drop from c.rows)) =
        k.rows.count ∙ sym (length-take-le b.count (drop from c.rows) left) in
        ext_get_or null d.rows (take b.count (drop from c.rows)) size same
      where
        same : (i : ℕ) → i < length d.rows
            → row d.rows i ≡ row (take b.count (drop from c.rows)) i
        same i lt =
            let within : i < b.count = subst (λ l. i < l) k.rows.count lt in
            let whole : from + i < n = omega (arith, within, below) in
            gives_is (row d.rows i) (row c.rows (from + i))
            (sym (k.rows.each i within) ∙ batch_outcome i within ∙ h.rows.each (from + i) whole)
            ∙ sym (part_row c.rows from b.count i within)

  -- batches from a row on
  some_refused : (from : ℕ) (bs : List Batch) → AreBatches cs n from bs
      → (k : FaultsSomewhere m cs n t) → from ≤ k.0 → SomeRefused m t bs
  some_refused from [] h k le = absurd (omega (arith, h, le, k.1))
  some_refused from (b ∷ bs) h k le =
      by (nat_lt k.0 (from + b.count)) refl (some_refused (from + b.count) bs h.1 k)
    where
      below : from + b.count ≤ n
      below = batches_below cs n (from + b.count) bs h.1

      by : (is : Bool) → nat_lt k.0 (from + b.count) ≡ is
          → (from + b.count ≤ k.0 → SomeRefused m t bs) → SomeRefused m t (b ∷ bs)
      by true e later =
          let faults = batch_row_faults from b h.0 below k le (grind (arith, e)) in
          inl (refused_of m t b.columns b.count (batch_fits from b h.0 below)
          (batch_even from b h.0 below) faults)
      by false e later = inr (later (grind (arith, e)))

  table_faults : (from : ℕ) (bs : List Batch) → AreBatches cs n from bs → SomeRefused m t bs
      → FaultsSomewhere m cs n t
  table_faults from [] h k = absurd k
  table_faults from (b ∷ bs) h (inr k) = table_faults (from + b.count) bs h.1 k
  table_faults from (b ∷ bs) h (inl k) =
      let below = batches_below cs n (from + b.count) bs h.1 in
      batch_faults from b h.0 below
      (faults_of m t b.columns b.count (batch_fits from b h.0 below)
      (batch_even from b h.0 below) k)

  rows_as_one : (from : ℕ) (bs : List Batch) → AreBatches cs n from bs → (c : ColumnView)
      (ds : List ColumnView) → Executes m cs n t c → AllExecute m t bs ds
      → joined_rows ds ≡ drop from c.rows
  rows_as_one from [] h c [] whole k =
      sym (drop_all from c.rows (omega (arith, h, whole.rows.count)))
  rows_as_one from (b ∷ bs) h c (d ∷ ds) whole k =
      let below = batches_below cs n (from + b.count) bs h.1 in
      let here = batch_rows from b h.0 below c d whole k.0 in
      let later = rows_as_one (from + b.count) bs h.1 c ds whole k.1 in
      (λ j. here j ++ (later ∙ sym (dropped_twice from b.count c.rows)) j)
      ∙ take-append-drop b.count (drop from c.rows)
  rows_as_one from [] h c (d ∷ ds) whole k = absurd k
  rows_as_one from (b ∷ bs) h c [] whole k = absurd k

pub batches_answer_as_one : {V O : Type 0} (m : Meaning V O) → BatchesAnswerAsOne m
batches_answer_as_one m t cs n bs own fit even h = record {
  rows = λ c ds whole k. rows_as_one m t cs n own fit even 0 bs h c ds whole k;
  refused = (
    λ k. some_refused m t cs n own fit even 0 bs h (faults_of m t cs n fit even k) (omega arith),
    λ k. refused_of m t cs n fit even (table_faults m t cs n own fit even 0 bs h k),
  );
}
