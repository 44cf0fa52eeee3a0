-- A tree that joins operands by And or Or, over the rows that its left operand leaves open.
use Rattle.std.proofs.Common.{◌≡◌, ℕ, ◌<◌, Bool, true, List, length, map, Some, None, refl, sym, ap}
use Rattle.std.proofs.Common.{subst, ◌∙◌, inl, inr, arith, get_or, replicate, false}
use Rattle.std.specs.Prelude.{◌⊎◌, All, slice_index_or}
use Rattle.std.proofs.lemmas.List.{get_or-map, length-map, length-replicate}
use Rattle.vortex_errors.specs.declared.error.VortexError.{VortexError}
use Rattle.vortex_types.specs.LogicalTypes.{LogicalType}
use Rattle.vortex_types.specs.Values.{null, truth}
use Rattle.vortex_columns.specs.ColumnView.{ColumnView, row, AreTyped}
use Rattle.vortex_columns.specs.Taken.{IsTaken, AreRowsOf}
use Rattle.vortex_operators.specs.declared.operators.Operator.{Operator}
use Rattle.vortex_operators.specs.Kleene.{decides}
use Rattle.vortex_interface.specs.Outcomes.{gives, faults, GivesValue}
use Rattle.vortex_interface.specs.Meaning.{Meaning, Lawful}
use Rattle.vortex_interface.specs.Trees as trees
use Rattle.vortex_interface.specs.Trees.{no_trees, tree}
use Rattle.vortex_interface.specs.ComparisonTrees.{operated}
use Rattle.vortex_interface.specs.Eval.{eval, tree_type, Settled, IsFirstFault, HasTreeRows}
use Rattle.vortex_interface.specs.Bound.{IsBound}
use Rattle.vortex_interface.proofs.FaultyRows.{fault_row}
use Rattle.vortex_interface.proofs.RuleAnswers.{gives_is}
use Rattle.vortex_interface.specs.Execution.{LeavesFit, other_length}
use Rattle.vortex_functions.specs.Executing.{Fits}
use Rattle.vortex_program.specs.Reads.{Reads, Marks}
use Rattle.vortex_program.specs.Rows.{numbered, HaveRowsAt, IsMarked}
use Rattle.vortex_program.specs.Coded.{HasCode, HaveCodes}
use Rattle.vortex_program.specs.Deciding.{Joins}
use Rattle.vortex_program.proofs.Decided.{value_at, decided_at}
use Rattle.vortex_program.proofs.SomeRows.{HasWhereAt, row_is_at, rows_within, leaves_fit_at}

module _ {V O : Type 0} (m : Meaning V O) (cs ds : List ColumnView) (n : ℕ) (op : Operator)
    (t left right : trees.Tree V O) (j : Joins op t left right) (c : ColumnView)
    (h : HasTreeRows m cs n left c) (b : Bool) (decides_all : decides op b ≡ true)
    (values : Settled m cs n right) (k : LogicalType) (typed : tree_type m t ≡ Some k)
    (bound : IsBound t) (ns codes : List ℕ) (coded : HaveCodes b c ns codes (length c.rows))
    (have : HasWhereAt (numbered ns) (length ns) cs ds (λ p. Reads p t)) where
  -- a number is one of a row
  row_within : (p : ℕ) → p < length ns → numbered ns p < n
  row_within p lt = let below = coded.rows p 0 lt in omega (arith, below, h.count)

  -- so none of the rows faults
  pub no_fault : (e : VortexError) → IsFirstFault m ds (length ns) t e → ⊥
  no_fault e fault =
      let f = fault_row m ds (length ns) t e fault in
      let there =
      sym (row_is_at (numbered ns) (length ns) cs ds m f.0 f.1 t bound have) ∙ f.3 in
      subst GivesValue there
      (value_at m cs n op t left right j c h k values typed (numbered ns f.0) (row_within f.0 f.1))

  module _ (d e : ColumnView) (g : HasTreeRows m ds (length ns) t d) (taken : IsTaken d codes e)
    where
      -- the value of a row is that of the row of its code
      each_row : (i : ℕ) → i < n → (p : ℕ) → p < length ns → HasCode b c ns i p
          → eval m cs t i ≡ gives (row d.rows p)
      each_row i lt p below (inl own) =
          subst (λ (q : ℕ). eval m cs t q ≡ gives (row d.rows p)) own
          (sym (row_is_at (numbered ns) (length ns) cs ds m p below t bound have) ∙ g.each p below)
      each_row i lt p below (inr both) =
          decided_at m cs n op t left right j c h b k decides_all values typed i lt both.0
          ∙ sym (decided_at m cs n op t left right j c h b k decides_all values typed (numbered ns p)
          (row_within p below) both.1)
          ∙ sym (row_is_at (numbered ns) (length ns) cs ds m p below t bound have) ∙ g.each p below

      pub opened_rows : HasTreeRows m cs n t e
      opened_rows = record {
        dtype = g.dtype ∙ ap Some (sym taken.dtype);
        count = ap length taken.rows ∙ length-map codes (row d.rows) ∙ coded.counted ∙ h.count;
        each = λ i lt.
            let row_lt : i < length c.rows = omega (arith, lt, h.count) in
            let code_lt : i < length codes = omega (arith, row_lt, coded.counted) in
            let p = slice_index_or codes i 0 in
            each_row i lt p (coded.coded i 0 code_lt) (coded.each i row_lt)
            ∙ ap gives (sym (ap (λ rows. row rows i) taken.rows
            ∙ get_or-map (row d.rows) codes i 0 null code_lt));
      }

  -- the rows of the left operand that have these numbers are its rows over those
  pub left_there : (d : ColumnView) → IsTaken c ns d → IsBound left
      → HasWhereAt (numbered ns) (length ns) cs ds (λ p. Reads p left)
      → HasTreeRows m ds (length ns) left d
  left_there d taken left_bound there = record {
    dtype = h.dtype ∙ ap Some (sym taken.dtype);
    count = ap length taken.rows ∙ length-map ns (row c.rows);
    each = λ p lt.
        row_is_at (numbered ns) (length ns) cs ds m p lt left left_bound there
        ∙ h.each (numbered ns p) (row_within p lt)
        ∙ ap gives (sym (ap (λ rows. row rows p) taken.rows
        ∙ get_or-map (row c.rows) ns p 0 null lt));
  }

-- what the left operand reads the whole reads
pub left_reads : {V O : Type 0} (op : Operator) (t left right : trees.Tree V O)
    → Joins op t left right → (p : ℕ) → Reads p left → Reads p t
left_reads op t left right j p r =
    subst (λ (x : trees.Tree _ _). Reads p x) (sym j.is) (r.0, r.1, inl r.2)

-- and it is bound where the whole is
pub left_bound : {V O : Type 0} (op : Operator) (t left right : trees.Tree V O)
    → Joins op t left right → IsBound t → IsBound left
left_bound op t left right j b = (subst (λ (x : trees.Tree _ _). IsBound x) j.is b).0

-- numbers of rows are those of rows in each column
pub numbers_within : (cs : List ColumnView) (n : ℕ) (c : ColumnView) → length c.rows ≡ n
    → (ns : List ℕ) → All (λ k. k < length c.rows) ns → other_length n cs ≡ None
    → All (λ d. All (λ k. k < length d.rows) ns) cs
numbers_within cs n c count ns h even p d below k e lt =
    let wide = rows_within cs n n (omega arith) even p d below in
    let here = h k e lt in
    omega (arith, wide, here, count)

-- rows of the columns that are marked are rows of those that the tree reads
pub all_marked : {V O : Type 0} (t : trees.Tree V O) (cs ds : List ColumnView) (at : ℕ → ℕ)
    (count : ℕ) (read old : List Bool) → length old ≡ length cs → Marks (λ p. Reads p t) old read
    → HaveRowsAt (IsMarked read cs) at count cs ds → HasWhereAt at count cs ds (λ p. Reads p t)
all_marked t cs ds at count read old same marks h p r =
    h.each p (λ lt. (marks.each p (omega (arith, lt, same))).1 (inr r))

-- the columns as they are handed on
pub taken_rows : {V O : Type 0} (t : trees.Tree V O) (cs : List ColumnView) (marks read : List Bool)
    (ns numbers : List ℕ) (taken ds : List ColumnView) → marks ≡ read → numbers ≡ ns → ds ≡ taken
    → Marks (λ p. Reads p t) (replicate (length cs) false) read
    → HaveRowsAt (IsMarked marks cs) (numbered numbers) (length numbers) cs taken
    → HasWhereAt (numbered ns) (length ns) cs ds (λ p. Reads p t)
    × (other_length (length ns) ds ≡ None)
taken_rows t cs marks read ns numbers taken ds is same kept marked h =
    let rows = subst (λ (xs : List Bool). HaveRowsAt (IsMarked xs cs) (numbered ns) (length ns) cs ds)
    is (subst (λ (xs : List ColumnView). HaveRowsAt (IsMarked marks cs) (numbered ns) (length ns) cs xs)
    (sym kept) (subst (λ (xs : List ℕ). HaveRowsAt (IsMarked marks cs) (numbered xs) (length xs) cs taken)
    same h)) in (
      all_marked t cs ds (numbered ns) (length ns) read (replicate (length cs) false)
          (length-replicate (length cs) false) marked rows,
      rows.even,
    )

pub fits_there : {V O : Type 0} (t : trees.Tree V O) (cs ds : List ColumnView) (count : ℕ)
    (at : ℕ → ℕ) (k : ℕ) → k ≡ count → HasWhereAt at count cs ds (λ p. Reads p t)
    → other_length count ds ≡ None → LeavesFit cs t → Fits ds k t
fits_there t cs ds count at k is have even fit =
    subst (λ (i : ℕ). Fits ds i t) (sym is) (leaves_fit_at at count cs ds t have fit, even)
