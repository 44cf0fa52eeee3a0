-- Columns that are alike where trees read them have the same answers.
use Rattle.std.proofs.Common.{◌≡◌, ◌∙◌, ℕ, zero, suc, List, [], ◌∷◌, Option, Some, None}
use Rattle.std.proofs.Common.{inl, inr, refl, sym, ap, subst, take, Result, Ok, Err}
use Rattle.std.specs.Prelude.{slice_get, MatchResult}
use Rattle.vortex_errors.specs.declared.error.VortexError.{VortexError}
use Rattle.vortex_errors.proofs.Answering.{UnlessMemory-weaker}
use Rattle.vortex_types.specs.LogicalTypes.{LogicalType}
use Rattle.vortex_columns.specs.ColumnView.{ColumnView, row}
use Rattle.vortex_interface.specs.Outcomes.{gives, GivesValue}
use Rattle.vortex_interface.specs.Meaning.{Meaning}
use Rattle.vortex_interface.specs.Functions.{function_means}
use Rattle.vortex_interface.specs.Trees.{place, held, Tree, leaf, constant, call, Trees}
use Rattle.vortex_interface.specs.Trees.{no_trees, tree}
use Rattle.vortex_interface.specs.Leaves.{IsLeafIn}
use Rattle.vortex_interface.specs.Eval.{with_first, then_means, tree_types}
use Rattle.vortex_interface.specs.Eval.{types_or_none, rows_or_none, eval, eval_all}
use Rattle.vortex_interface.specs.Execution.{LeavesFit, AllLeavesFit, other_length}
use Rattle.vortex_interface.specs.Execution.{RefusesColumns, unfit, uneven}
use Rattle.vortex_interface.specs.Rewrites.{Rewrites}
use Rattle.vortex_functions.specs.Walks.{AllMean}
use Rattle.vortex_expressions.specs.Items as items
use Rattle.vortex_expressions.specs.Items.{meaning}
use Rattle.vortex_program.specs.Executing.{FaultsAt, AllGive, RefusesColumnsFirst}
use Rattle.vortex_program.specs.Reads.{Reads, AnyReads, BothAt, BothWhere, AreAlike, Agree}
use Rattle.vortex_program.specs.Running.{AnswersTree, AnswersTrees, FaultsFirstThere}
use Rattle.vortex_program.specs.Running.{RefusesTrees}
use Rattle.vortex_program.specs.declared.running.RunError.{RunError}
use Rattle.vortex_program.specs.declared.running.RunError.TheVariants as run

-- a column is read by several trees
abbrev pub ReadsIn : {V O : Type 0} → ℕ → Trees V O → Type 0
ReadsIn k ts = (name : List ℕ) × (dtype : LogicalType) × IsLeafIn (place k name dtype) ts

-- a column of a type, in the place of one of the same type
place_fits : (R : ColumnView → ColumnView → Type 0)
    → ((c d : ColumnView) → R c d → d.dtype ≡ c.dtype)
    → (a b : Option ColumnView) → BothAt R a b → (t : LogicalType)
    → (c : ColumnView) × (a ≡ Some c) × (c.dtype ≡ t)
    → (d : ColumnView) × (b ≡ Some d) × (d.dtype ≡ t)
place_fits R same None None h t fit = fit
place_fits R same None (Some d) h t fit = absurd h
place_fits R same (Some c) None h t fit = absurd h
place_fits R same (Some c) (Some d) h t fit =
    let is : c ≡ fit.0 = cc in
    (d, refl, same c d h ∙ ap (λ (x : ColumnView). x.dtype) is ∙ fit.2)

module _ {V O : Type 0} (R : ColumnView → ColumnView → Type 0) (cs ds : List ColumnView) where
  -- what is said of columns where a call reads them is said where its children do
  pub where_first : (t : Tree V O) (ts : Trees V O)
      → BothWhere (λ k. ReadsIn k (tree t ts)) R cs ds → BothWhere (λ k. Reads k t) R cs ds
  where_first t ts h k r = h k (r.0, r.1, inl r.2)

  pub where_later : (t : Tree V O) (ts : Trees V O)
      → BothWhere (λ k. ReadsIn k (tree t ts)) R cs ds → BothWhere (λ k. ReadsIn k ts) R cs ds
  where_later t ts h k r = h k (r.0, r.1, inr r.2)

  -- columns of the same types where a tree reads them fit it
  module _ (same : (c d : ColumnView) → R c d → d.dtype ≡ c.dtype) where
    mutual
      pub leaves_fit : (t : Tree V O) → BothWhere (λ k. Reads k t) R cs ds → LeavesFit cs t
          → LeavesFit ds t
      leaves_fit (leaf (place p name t)) h fit =
          place_fits R same (slice_get cs p) (slice_get ds p) (h p (name, t, refl)) t fit
      leaves_fit (leaf (held c)) h fit = fit
      leaves_fit (constant s) h fit = fit
      leaves_fit (call f ts) h fit = all_leaves_fit ts h fit

      all_leaves_fit : (ts : Trees V O) → BothWhere (λ k. ReadsIn k ts) R cs ds
          → AllLeavesFit cs ts → AllLeavesFit ds ts
      all_leaves_fit no_trees h fit = fit
      all_leaves_fit (tree t ts) h fit =
          (leaves_fit t (where_first t ts h) fit.0, all_leaves_fit ts (where_later t ts h) fit.1)

-- the same, said of the columns of the other list
both_back : (a b : Option ColumnView) → BothAt AreAlike a b → BothAt AreAlike b a
both_back None None h = h
both_back None (Some d) h = absurd h
both_back (Some c) None h = absurd h
both_back (Some c) (Some d) h = record { dtype = sym h.dtype; rows = sym h.rows }

pub agree_back : {V O : Type 0} (n : ℕ) (ts : List (Tree V O)) (cs ds : List ColumnView)
    → Agree n ts cs ds → Agree n ts ds cs
agree_back n ts cs ds h = record {
  first_even = h.second_even;
  second_even = h.first_even;
  alike = λ k r. both_back (slice_get cs k) (slice_get ds k) (h.alike k r);
}

value_alike : (a b : Option ColumnView) → BothAt AreAlike a b → (i : ℕ)
    → row (rows_or_none b) i ≡ row (rows_or_none a) i
value_alike None None h i = refl
value_alike None (Some d) h i = absurd h
value_alike (Some c) None h i = absurd h
value_alike (Some c) (Some d) h i = ap (λ rows. row rows i) h.rows

module _ {V O : Type 0} (m : Meaning V O) (cs ds : List ColumnView) (i : ℕ) where
  mutual
    -- a tree means the same in each row
    pub eval_alike : (t : Tree V O) → BothWhere (λ k. Reads k t) AreAlike cs ds
        → eval m ds t i ≡ eval m cs t i
    eval_alike (leaf (place p name t)) h =
        ap gives (value_alike (slice_get cs p) (slice_get ds p) (h p (name, t, refl)) i)
    eval_alike (leaf (held c)) h = refl
    eval_alike (constant s) h = refl
    eval_alike (call f ts) h =
        ap (then_means (function_means m f (types_or_none (tree_types m ts)))) (all_alike ts h)

    all_alike : (ts : Trees V O) → BothWhere (λ k. ReadsIn k ts) AreAlike cs ds
        → eval_all m ds ts i ≡ eval_all m cs ts i
    all_alike no_trees h = refl
    all_alike (tree t ts) h =
        λ j. with_first (eval_alike t (where_first AreAlike cs ds t ts h) j)
        (all_alike ts (where_later AreAlike cs ds t ts h) j)

module _ {V O : Type 0} (cs ds : List ColumnView) (n : ℕ) where
  -- of the first tree, and of those after it
  pub agree_first : (t : Tree V O) (ts : List (Tree V O)) → Agree n (t ∷ ts) cs ds
      → BothWhere (λ k. Reads k t) AreAlike cs ds
  agree_first t ts h k r = h.alike k (inl r)

  pub agree_later : (t : Tree V O) (ts : List (Tree V O)) → Agree n (t ∷ ts) cs ds
      → Agree n ts cs ds
  agree_later t ts h = record {
    first_even = h.first_even;
    second_even = h.second_even;
    alike = λ k r. h.alike k (inr r);
  }

  pub fit_alike : (t : Tree V O) → BothWhere (λ k. Reads k t) AreAlike cs ds → LeavesFit cs t
      → LeavesFit ds t
  fit_alike t h fit = leaves_fit AreAlike cs ds (λ c d alike. alike.dtype) t h fit

module _ {V O : Type 0} (m : Meaning V O) (cs ds : List ColumnView) (n : ℕ) where
  -- no tree faults in a row of the one where none does in that row of the other
  pub give_alike : (i : ℕ) (ts : List (Tree V O)) → Agree n ts cs ds → AllGive m ds i ts
      → AllGive m cs i ts
  give_alike i [] h give = tt
  give_alike i (t ∷ ts) h give = (
    subst GivesValue (eval_alike m cs ds i t (agree_first cs ds n t ts h)) give.0,
    give_alike i ts (agree_later cs ds n t ts h) give.1,
  )

  pub fault_alike : (i : ℕ) (t : Tree V O) (e : VortexError)
      → BothWhere (λ k. Reads k t) AreAlike cs ds → FaultsAt m ds i t e → FaultsAt m cs i t e
  fault_alike i t e h faulty = record {
    fault = faulty.fault;
    here = sym (eval_alike m cs ds i t h) ∙ faulty.here;
    told = faulty.told;
  }

module _ {V O : Type 0} (cs ds : List ColumnView) (n : ℕ) where
  -- columns that do not serve the first tree that they do not serve
  pub refuse_alike : (ts : List (Tree V O)) (e : VortexError) → Agree n ts cs ds
      → RefusesColumnsFirst ds n ts e → RefusesColumnsFirst cs n ts e
  refuse_alike [] e h r = absurd r
  refuse_alike (t ∷ ts) e h (inl r) = inl (here r)
    where
      here : RefusesColumns ds n t e → RefusesColumns cs n t e
      here (unfit unfits told) =
          unfit (λ fit. unfits (fit_alike cs ds n t (agree_first cs ds n t ts h) fit)) told
      here (uneven l fits other told) =
          let even : None ≡ Some l = sym h.second_even ∙ other in cc
  refuse_alike (t ∷ ts) e h (inr r) =
      let back = agree_back n (t ∷ ts) cs ds h in
      inr (
        (fit_alike ds cs n t (agree_first ds cs n t ts back) r.0.0, h.first_even),
        refuse_alike ts e (agree_later cs ds n t ts h) r.1,
      )

module _ (cs ds : List ColumnView) (n : ℕ) where
  -- an answer over one of the lists is one over the other
  answer_alike : (t : items.Tree) (c : ColumnView) → other_length n cs ≡ None
      → BothWhere (λ k. Reads k t) AreAlike cs ds → BothWhere (λ k. Reads k t) AreAlike ds cs
      → AnswersTree ds n t c → AnswersTree cs n t c
  answer_alike t c even h back answer = record {
    fit = fit_alike ds cs n t back answer.fit;
    lengths = even;
    dtype = answer.dtype;
    count = answer.count;
    kept = λ i w lt is. answer.kept i w lt (eval_alike meaning cs ds i t h ∙ is);
  }

  pub answers_alike : (ts : List items.Tree) (os : List ColumnView) → Agree n ts cs ds
      → AnswersTrees ds n ts os → AnswersTrees cs n ts os
  answers_alike [] [] h answers = tt
  answers_alike [] (o ∷ os) h answers = absurd answers
  answers_alike (t ∷ ts) [] h answers = absurd answers
  answers_alike (t ∷ ts) (o ∷ os) h answers =
      let back = agree_back n (t ∷ ts) cs ds h in (
        answer_alike t o h.first_even (agree_first cs ds n t ts h) (agree_first ds cs n t ts back)
            answers.0,
        answers_alike ts os (agree_later cs ds n t ts h) answers.1,
      )

  -- the first trees are read as all of them are
  first_agree : (k : ℕ) (ts : List items.Tree) → Agree n ts cs ds → Agree n (take k ts) cs ds
  first_agree k ts h = record {
    first_even = h.first_even;
    second_even = h.second_even;
    alike = λ p r. h.alike p (among k ts p r);
  }
    where
      among : (j : ℕ) (us : List items.Tree) (p : ℕ) → AnyReads p (take j us) → AnyReads p us
      among zero us p r = absurd r
      among (suc j) [] p r = r
      among (suc j) (u ∷ us) p (inl r) = inl r
      among (suc j) (u ∷ us) p (inr r) = inr (among j us p r)

  tree_alike : (ts : List items.Tree) (k : ℕ) (t : items.Tree) → slice_get ts k ≡ Some t
      → Agree n ts cs ds → BothWhere (λ p. Reads p t) AreAlike cs ds
  tree_alike [] k t there h = let none : None ≡ Some t = there in cc
  tree_alike (u ∷ us) zero t there h =
      let same : u ≡ t = cc in
      subst (λ (v : items.Tree). BothWhere (λ p. Reads p v) AreAlike cs ds) same
      (agree_first cs ds n u us h)
  tree_alike (u ∷ us) (suc k) t there h =
      tree_alike us k t there (agree_later cs ds n u us h)

  pub faults_alike : (ts : List items.Tree) (i k : ℕ) (e : VortexError) → Agree n ts cs ds
      → FaultsFirstThere ds n ts i k e → FaultsFirstThere cs n ts i k e
  faults_alike ts i k e h first = record {
    below = first.below;
    before = λ j lt. give_alike meaning cs ds n j ts h (first.before j lt);
    there = record {
      tree = first.there.tree;
      there = first.there.there;
      here = fault_alike meaning cs ds n i first.there.tree e
          (tree_alike ts k first.there.tree first.there.there h) first.there.here;
      before = give_alike meaning cs ds n i (take k ts) (first_agree k ts h) first.there.before;
    };
  }

  pub refusal_alike : (written optimized : List items.Tree) (e : RunError) → Agree n written cs ds
      → Agree n optimized cs ds → RefusesTrees ds n written optimized e
      → RefusesTrees cs n written optimized e
  refusal_alike written optimized (run.Fault i k e) w o refused =
      faults_alike optimized i k e o refused
  refusal_alike written optimized (run.Refused e) w o refused =
      UnlessMemory-weaker (RefusesColumnsFirst ds n written) (RefusesColumnsFirst cs n written)
      (λ x r. refuse_alike cs ds n written x w r) e refused
  refusal_alike written optimized run.OutOfMemory w o refused = tt

-- what rules make of trees reads no other columns
read_before : (t u : items.Tree) → Rewrites meaning t u → (k : ℕ) → Reads k u → Reads k t
read_before t u kept k r = (r.0, r.1, kept.asks.leaves k r.0 r.1 r.2)

any_read_before : (written optimized : List items.Tree)
    → AllMean (Rewrites meaning) written optimized → (k : ℕ) → AnyReads k optimized
    → AnyReads k written
any_read_before [] [] kept k r = r
any_read_before [] (u ∷ us) kept k r = absurd kept
any_read_before (t ∷ ts) [] kept k r = absurd kept
any_read_before (t ∷ ts) (u ∷ us) kept k (inl r) = inl (read_before t u kept.0 k r)
any_read_before (t ∷ ts) (u ∷ us) kept k (inr r) = inr (any_read_before ts us kept.1 k r)

pub optimized_agree : (n : ℕ) (written optimized : List items.Tree) (cs ds : List ColumnView)
    → AllMean (Rewrites meaning) written optimized → Agree n written cs ds
    → Agree n optimized cs ds
optimized_agree n written optimized cs ds kept h = record {
  first_even = h.first_even;
  second_even = h.second_even;
  alike = λ k r. h.alike k (any_read_before written optimized kept k r);
}

-- what a program returns over one of the lists it returns over the other
pub run_alike : (n : ℕ) (written optimized : List items.Tree) (cs ds : List ColumnView)
    {A : Type 0} (columns_of : A → List ColumnView) (result : Result A RunError)
    → AllMean (Rewrites meaning) written optimized → Agree n written cs ds
    → MatchResult result (λ a. AnswersTrees ds n written (columns_of a))
    (RefusesTrees ds n written optimized)
    → MatchResult result (λ a. AnswersTrees cs n written (columns_of a))
    (RefusesTrees cs n written optimized)
run_alike n written optimized cs ds columns_of (Ok a) kept h said =
    answers_alike cs ds n written (columns_of a) h said
run_alike n written optimized cs ds columns_of (Err e) kept h said =
    refusal_alike cs ds n written optimized e h
    (optimized_agree n written optimized cs ds kept h) said
