-- What holds of the rows of each chunk holds of the rows of the whole.
use Rattle.std.proofs.Common.{◌≡◌, ◌⊎◌, inl, inr, ℕ, zero, suc, ◌+◌, ◌-◌, ◌<◌, ◌≤◌, sym, ap}
use Rattle.std.proofs.Common.{subst, ◌∙◌, List, [], ◌∷◌, ◌++◌, length, take, Some, None}
use Rattle.std.proofs.Common.{arith, ◌*◌, ◌/◌}
use Rattle.std.specs.Prelude.{slice_get, All}
use Rattle.std.proofs.lemmas.List.{get_or_append_left, get_or-append_right, length-append}
use Rattle.vortex_errors.specs.declared.error.VortexError.{VortexError}
use Rattle.vortex_errors.specs.Answers.{UnlessMemory}
use Rattle.vortex_errors.proofs.Answering.{UnlessMemory-weaker}
use Rattle.vortex_types.specs.Values.{Value, null}
use Rattle.vortex_columns.specs.ColumnView.{ColumnView, row}
use Rattle.vortex_interface.specs.Outcomes.{gives, GivesValue}
use Rattle.vortex_interface.specs.Eval.{eval, HasTreeRows}
use Rattle.vortex_interface.specs.Rewrites.{Rewrites}
use Rattle.vortex_interface.specs.Execution.{LeavesFit, other_length, Executes}
use Rattle.vortex_interface.specs.Execution.{unfit, uneven}
use Rattle.vortex_interface.specs.Bound.{IsBound}
use Rattle.vortex_functions.specs.Walks.{AllMean}
use Rattle.vortex_expressions.specs.Items.{Tree, meaning}
use Rattle.vortex_program.specs.Executing.{AllGive, AllGiveWithin}
use Rattle.vortex_program.specs.Executing.{RefusesColumnsFirst}
use Rattle.vortex_program.specs.Running.{AnswersTrees, FaultsThere, FaultsFirstThere}
use Rattle.vortex_program.proofs.Answered.{all_head, all_tail, all_cons}
use Rattle.yurkije_core.specs.Chunks.{RunsFrom, AnswersFrom, IsAnswered, AreAnswered, AreRun}
use Rattle.yurkije_core.specs.Chunks.{TakesRows, ArePut}

-- the second columns have so many rows of the first, from one on
module _ (first count : ℕ) (cs ds : List ColumnView)
    (there : (t : Tree) → IsBound t → (j : ℕ) → j < count
    → eval meaning ds t j ≡ eval meaning cs t (first + j))
    (fits : (t : Tree) → LeavesFit cs t → LeavesFit ds t)
    (fits_back : (t : Tree) → LeavesFit ds t → LeavesFit cs t)
    (even : other_length count ds ≡ None) where
  pub run_from : (ts : List Tree) (os : List ColumnView) → All IsBound ts
      → AllMean (Executes meaning ds count) ts os → AllMean (RunsFrom cs first count) ts os
  run_from [] [] bound h = tt
  run_from [] (o ∷ os) bound h = absurd h
  run_from (t ∷ ts) [] bound h = absurd h
  run_from (t ∷ ts) (o ∷ os) bound h = (
    record {
      dtype = h.0.rows.dtype;
      counted = h.0.rows.count;
      each = λ j lt. sym (there t (all_head IsBound t ts bound) j lt) ∙ h.0.rows.each j lt;
    },
    run_from ts os (all_tail IsBound t ts bound) h.1,
  )

  pub answered_from : (ts : List Tree) (os : List ColumnView) → All IsBound ts
      → AnswersTrees ds count ts os → AllMean (AnswersFrom cs first count) ts os
  answered_from [] [] bound h = tt
  answered_from [] (o ∷ os) bound h = absurd h
  answered_from (t ∷ ts) [] bound h = absurd h
  answered_from (t ∷ ts) (o ∷ os) bound h = (
    record {
      fit = fits_back t h.0.fit;
      kept = λ j w lt e.
          h.0.kept j w lt (there t (all_head IsBound t ts bound) j lt ∙ e);
    },
    answered_from ts os (all_tail IsBound t ts bound) h.1,
  )

  -- no tree faults in a row of the whole, where none does in the row of the chunk
  give_there : (ts : List Tree) → All IsBound ts → (j : ℕ) → j < count → AllGive meaning ds j ts
      → AllGive meaning cs (first + j) ts
  give_there [] bound j lt h = tt
  give_there (t ∷ ts) bound j lt h = (
    subst GivesValue (there t (all_head IsBound t ts bound) j lt) h.0,
    give_there ts (all_tail IsBound t ts bound) j lt h.1,
  )

  bound_take : (k : ℕ) (ts : List Tree) → All IsBound ts → All IsBound (take k ts)
  bound_take zero ts bound = λ k d lt. absurd (omega (arith, lt))
  bound_take (suc k) [] bound = bound
  bound_take (suc k) (t ∷ ts) bound =
      all_cons IsBound t (take k ts) (all_head IsBound t ts bound)
      (bound_take k ts (all_tail IsBound t ts bound))

  bound_at : (k : ℕ) (ts : List Tree) (t : Tree) → All IsBound ts → slice_get ts k ≡ Some t
      → IsBound t
  bound_at k [] t bound at = let none : None ≡ Some t = at in cc
  bound_at zero (u ∷ us) t bound at =
      let same : Some u ≡ Some t = at in
      let is : u ≡ t = cc in
      subst IsBound is (all_head IsBound u us bound)
  bound_at (suc k) (u ∷ us) t bound at = bound_at k us t (all_tail IsBound u us bound) at

  fault_there : (ts : List Tree) (j k : ℕ) (e : VortexError) → All IsBound ts → j < count
      → FaultsThere ds j ts k e → FaultsThere cs (first + j) ts k e
  fault_there ts j k e bound lt h = record {
    tree = h.tree;
    there = h.there;
    here = record {
      fault = h.here.fault;
      here = sym (there h.tree (bound_at k ts h.tree bound h.there) j lt) ∙ h.here.here;
      told = h.here.told;
    };
    before = give_there (take k ts) (bound_take k ts bound) j lt h.before;
  }

  before_by : (ts : List Tree) (j i : ℕ) → All IsBound ts → AllGiveWithin meaning cs 0 first ts
      → j < count → ((i : ℕ) → i < j → AllGive meaning ds i ts) → i < first + j
      → (i < first) ⊎ (first ≤ i) → AllGive meaning cs i ts
  before_by ts j i bound given lt before below (inl low) = given i (omega arith) low
  before_by ts j i bound given lt before below (inr high) =
      let back : first + (i - first) ≡ i = omega (arith, high) in
      subst (λ k. AllGive meaning cs k ts) back
      (give_there ts bound (i - first) (omega (arith, below, high, lt))
      (before (i - first) (omega (arith, below, high))))

  either : (m n : ℕ) → (m < n) ⊎ (n ≤ m)
  either m n = grind arith

  refused_columns : (n : ℕ) → other_length n cs ≡ None → (ts : List Tree) (e : VortexError)
      → RefusesColumnsFirst ds count ts e → RefusesColumnsFirst cs n ts e
  refused_columns n cs_even [] e h = absurd h
  refused_columns n cs_even (t ∷ ts) e (inl (unfit unfits told)) =
      inl (unfit (λ fit. unfits (fits t fit)) told)
  refused_columns n cs_even (t ∷ ts) e (inl (uneven l fit other told)) =
      let different : None ≡ Some l = sym even ∙ other in cc
  refused_columns n cs_even (t ∷ ts) e (inr h) =
      inr ((fits_back t h.0.0, cs_even), refused_columns n cs_even ts e h.1)

  -- columns that a chunk is refused for the whole is refused for
  pub refused_from : (n : ℕ) → other_length n cs ≡ None → (ts : List Tree) (e : VortexError)
      → UnlessMemory (RefusesColumnsFirst ds count ts) e
      → UnlessMemory (RefusesColumnsFirst cs n ts) e
  refused_from n cs_even ts e h =
      UnlessMemory-weaker (RefusesColumnsFirst ds count ts) (RefusesColumnsFirst cs n ts)
      (refused_columns n cs_even ts) e h

  -- and the first row of the chunk in which a tree faults, where none before the chunk does, is that
  -- of the whole
  pub fault_from : (n : ℕ) → first + count ≤ n → (us : List Tree) (j k : ℕ) (e : VortexError)
      → All IsBound us → AllGiveWithin meaning cs 0 first us
      → FaultsFirstThere ds count us j k e → FaultsFirstThere cs n us (first + j) k e
  fault_from n within us j k e bound given h = record {
    below = omega (arith, h.below, within);
    before = λ i below.
        before_by us j i bound given h.below h.before below (either i first);
    there = fault_there us j k e bound h.below h.there;
  }

-- no tree has faulted whose rows are there
pub all_given : (cs : List ColumnView) (n : ℕ) (ts : List Tree) (os : List ColumnView)
    → AreRun cs n ts os → AllGiveWithin meaning cs 0 n ts
all_given cs n [] [] h i low lt = tt
all_given cs n [] (o ∷ os) h i low lt = absurd h
all_given cs n (t ∷ ts) [] h i low lt = absurd h
all_given cs n (t ∷ ts) (o ∷ os) h i low lt =
    (subst GivesValue (sym (h.0.each i lt)) tt, all_given cs n ts os h.1 i low lt)

-- rows after others
module _ (n count : ℕ) (old rows new : List Value) (is : new ≡ old ++ rows)
    (counted : length old ≡ n) (more : length rows ≡ count) where
  low_row : (i : ℕ) → i < n → row new i ≡ row old i
  low_row i lt =
      ap (λ (xs : List Value). row xs i) is
      ∙ get_or_append_left old rows null i (omega (arith, lt, counted))

  high_row : (i : ℕ) → n ≤ i → row new i ≡ row rows (i - n)
  high_row i le =
      ap (λ (xs : List Value). row xs i) is
      ∙ get_or-append_right old rows n i null counted le

  row_count : length new ≡ n + count
  row_count = omega (arith, ap length is, length-append old rows, counted, more)

module _ (cs : List ColumnView) (n count : ℕ) where
  split : (i : ℕ) → (i < n) ⊎ (n ≤ i)
  split i = grind arith

  run_more : (t : Tree) (o d e : ColumnView) → HasTreeRows meaning cs n t o
      → RunsFrom cs n count t d → e.dtype ≡ o.dtype → e.rows ≡ o.rows ++ d.rows
      → HasTreeRows meaning cs (n + count) t e
  run_more t o d e h r dtype rows = record {
    dtype = h.dtype ∙ ap Some (sym dtype);
    count = row_count n count o.rows d.rows e.rows rows h.count r.counted;
    each = λ i lt. by i lt (split i);
  }
    where
      by : (i : ℕ) → i < n + count → (i < n) ⊎ (n ≤ i) → eval meaning cs t i ≡ gives (row e.rows i)
      by i lt (inl low) =
          h.each i low
          ∙ ap gives (sym (low_row n count o.rows d.rows e.rows rows h.count r.counted i low))
      by i lt (inr high) =
          let back : n + (i - n) ≡ i = omega (arith, high) in
          ap (eval meaning cs t) (sym back)
          ∙ r.each (i - n) (omega (arith, lt, high))
          ∙ ap gives (sym (high_row n count o.rows d.rows e.rows rows h.count r.counted i high))

  answered_more : (t : Tree) (o d e : ColumnView) → length o.rows ≡ n → length d.rows ≡ count
      → IsAnswered cs n t o → AnswersFrom cs n count t d → e.rows ≡ o.rows ++ d.rows
      → IsAnswered cs (n + count) t e
  answered_more t o d e counted more h r rows = record {
    fit = λ some. r.fit;
    kept = λ i w lt is. by i w lt is (split i);
  }
    where
      by : (i : ℕ) (w : Value) → i < n + count → eval meaning cs t i ≡ gives w
          → (i < n) ⊎ (n ≤ i) → row e.rows i ≡ w
      by i w lt is (inl low) =
          low_row n count o.rows d.rows e.rows rows counted more i low ∙ h.kept i w low is
      by i w lt is (inr high) =
          let back : n + (i - n) ≡ i = omega (arith, high) in
          high_row n count o.rows d.rows e.rows rows counted more i high
          ∙ r.kept (i - n) w (omega (arith, lt, high)) (ap (eval meaning cs t) back ∙ is)

  pub all_run_more : (ts : List Tree) (os ds es : List ColumnView) → AreRun cs n ts os
      → AllMean (RunsFrom cs n count) ts ds → ArePut os ds es → AreRun cs (n + count) ts es
  all_run_more [] [] [] [] h r p = tt
  all_run_more [] [] [] (e ∷ es) h r p = absurd p
  all_run_more [] [] (d ∷ ds) es h r p = absurd r
  all_run_more [] (o ∷ os) ds es h r p = absurd h
  all_run_more (t ∷ ts) [] ds es h r p = absurd h
  all_run_more (t ∷ ts) (o ∷ os) [] es h r p = absurd r
  all_run_more (t ∷ ts) (o ∷ os) (d ∷ ds) [] h r p = absurd p
  all_run_more (t ∷ ts) (o ∷ os) (d ∷ ds) (e ∷ es) h r p =
      (run_more t o d e h.0 r.0 p.0 p.1, all_run_more ts os ds es h.1 r.1 p.2)

  pub all_answered_more : (ts us : List Tree) (os ds es : List ColumnView) → AreRun cs n us os
      → AllMean (RunsFrom cs n count) us ds → AreAnswered cs n ts os
      → AllMean (AnswersFrom cs n count) ts ds → ArePut os ds es
      → AreAnswered cs (n + count) ts es
  all_answered_more [] us [] [] [] h r a f p = tt
  all_answered_more [] us [] [] (e ∷ es) h r a f p = absurd p
  all_answered_more [] us [] (d ∷ ds) es h r a f p = absurd f
  all_answered_more [] us (o ∷ os) ds es h r a f p = absurd a
  all_answered_more (t ∷ ts) us [] ds es h r a f p = absurd a
  all_answered_more (t ∷ ts) us (o ∷ os) [] es h r a f p = absurd f
  all_answered_more (t ∷ ts) us (o ∷ os) (d ∷ ds) [] h r a f p = absurd p
  all_answered_more (t ∷ ts) [] (o ∷ os) (d ∷ ds) (e ∷ es) h r a f p = absurd h
  all_answered_more (t ∷ ts) (u ∷ us) (o ∷ os) (d ∷ ds) (e ∷ es) h r a f p = (
    answered_more t o d e h.0.count r.0.counted a.0 f.0 p.1,
    all_answered_more ts us os ds es h.1 r.1 a.1 f.1 p.2,
  )

  -- the columns take the rows of the chunk
  pub take_rows : (ts : List Tree) (os ds : List ColumnView) → AreRun cs n ts os
      → AllMean (RunsFrom cs n count) ts ds → 8 * (n / 8) ≡ n → AllMean TakesRows os ds
  take_rows [] [] [] h r whole = tt
  take_rows [] [] (d ∷ ds) h r whole = absurd r
  take_rows [] (o ∷ os) ds h r whole = absurd h
  take_rows (t ∷ ts) [] ds h r whole = absurd h
  take_rows (t ∷ ts) (o ∷ os) [] h r whole = absurd r
  take_rows (t ∷ ts) (o ∷ os) (d ∷ ds) h r whole = (
    record {
      dtype =
          let same : Some d.dtype ≡ Some o.dtype = sym r.0.dtype ∙ h.0.dtype in cc;
      whole = subst (λ (k : ℕ). 8 * (k / 8) ≡ k) (sym h.0.count) whole;
    },
    take_rows ts os ds h.1 r.1 whole,
  )

-- before the first chunk nothing is said
pub none_answered : (cs : List ColumnView) (ts us : List Tree) (os : List ColumnView)
    → AllMean (Rewrites meaning) ts us → AreRun cs 0 us os → AreAnswered cs 0 ts os
none_answered cs [] [] [] w h = tt
none_answered cs [] [] (o ∷ os) w h = absurd h
none_answered cs [] (u ∷ us) os w h = absurd w
none_answered cs (t ∷ ts) [] os w h = absurd w
none_answered cs (t ∷ ts) (u ∷ us) [] w h = absurd h
none_answered cs (t ∷ ts) (u ∷ us) (o ∷ os) w h = (
  record {
    fit = λ some. absurd (omega (arith, some));
    kept = λ i v lt is. absurd (omega (arith, lt));
  },
  none_answered cs ts us os w.1 h.1,
)

-- after the last chunk all is
pub all_answered : (cs : List ColumnView) (n : ℕ) → other_length n cs ≡ None → 0 < n
    → (ts us : List Tree) (os : List ColumnView) → AllMean (Rewrites meaning) ts us
    → AreRun cs n us os → AreAnswered cs n ts os → AnswersTrees cs n ts os
all_answered cs n even some [] [] [] w h a = tt
all_answered cs n even some [] [] (o ∷ os) w h a = absurd h
all_answered cs n even some [] (u ∷ us) os w h a = absurd w
all_answered cs n even some (t ∷ ts) [] os w h a = absurd w
all_answered cs n even some (t ∷ ts) (u ∷ us) [] w h a = absurd h
all_answered cs n even some (t ∷ ts) (u ∷ us) (o ∷ os) w h a = (
  record {
    fit = a.0.fit some;
    lengths = even;
    dtype = sym w.0.dtype ∙ h.0.dtype;
    count = h.0.count;
    kept = a.0.kept;
  },
  all_answered cs n even some ts us os w.1 h.1 a.1,
)
