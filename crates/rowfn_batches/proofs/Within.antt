-- A batch's answers have a row for each row that is answered, and those are no more than it has.
use Rattle.std.proofs.Common.{◌≡◌, ℕ, zero, suc, ◌+◌, ◌*◌, ◌<◌, ◌≤◌, List, [], ◌∷◌, Option, length}
use Rattle.std.proofs.Common.{take, arith, Some, None, get_or, refl, sym, subst, ◌⊎◌, inl, inr}
use Rattle.std.specs.Prelude.{slice_get}
use Rattle.std.proofs.lemmas.List.{length-map}
use Rattle.std.proofs.lemmas.Option.{slice_get_within, slice_get_cases, slice_get-get_or}
use Rattle.std.proofs.lemmas.Option.{get_or_from_slice_get}
use Rattle.vortex_program.specs.declared.answer.Answer.{Answer}
use Rattle.std.proofs.Common.{mul-le-mul_left, mul_comm, lt_of_not-le}
use Rattle.std.proofs.Math.Logic.{∥∥₁_elim}
use Rattle.std.proofs.Props.{props}
use Rattle.std.proofs.lemmas.List.{length-take}
use Rattle.vortex_columns.specs.ColumnView.{ColumnView}
use Rattle.vortex_expressions.specs.Items.{Tree}
use Rattle.vortex_program.specs.Running.{AnswersTrees}
use Rattle.rowfn_batches.specs.declared.request.Request.{Request}
use Rattle.rowfn_batches.specs.Fields.{Field}
use Rattle.rowfn_batches.specs.declared.errors.StreamError.{StreamError}
use Rattle.rowfn_batches.specs.declared.showing.Shown.TheVariants as shown
use Rattle.rowfn_batches.specs.Showing.{lone_column}
use Rattle.rowfn_batches.specs.BatchAnswers.{AreValues, AreAnswers, EndsAnswers, with_them, at_fault}
use Rattle.rowfn_batches.specs.BatchAnswers.{width_of, trees_asked, answers_asked, first_fields}
use Rattle.rowfn_batches.specs.BatchAnswers.{EndsShown, with_all, at_no_text, AnswersOrLacks}
use Rattle.rowfn_batches.proofs.ShownRows.{shown_long, lacks_below}
use Rattle.rowfn_batches.specs.BatchAnswers.{EndsFitting, with_batch, at_misfit, EndsBatch}
use Rattle.rowfn_batches.specs.Outputs.{HaveRows}

all_have : (cs : List ColumnView) (n : ℕ) (ts : List Tree) (answers : List ColumnView)
    → AnswersTrees cs n ts answers → HaveRows n answers
all_have cs n [] [] h k d lt = absurd (omega (arith, lt))
all_have cs n [] (c ∷ answers) h k d lt = absurd h
all_have cs n (t ∷ ts) [] h k d lt = absurd h
all_have cs n (t ∷ ts) (c ∷ answers) h zero d lt = omega (arith, h.0.count)
all_have cs n (t ∷ ts) (c ∷ answers) h (suc k) d lt =
    all_have cs n ts answers h.1 k d (omega (arith, lt))

-- a field of a row among those of so many rows
below_row : (w count n column l : ℕ) → n * w + column < l → l ≤ w * count → n < count
below_row w count n column l h most =
    let same : n * w ≡ w * n = mul_comm n w in
    lt_of_not-le (λ le. let up : w * count ≤ w * n = mul-le-mul_left w le in omega arith)

-- as many columns as trees
all_counted : (cs : List ColumnView) (n : ℕ) (ts : List Tree) (values : List ColumnView)
    → AnswersTrees cs n ts values → length ts ≡ length values
all_counted cs n [] [] h = refl
all_counted cs n [] (c ∷ values) h = absurd h
all_counted cs n (t ∷ ts) [] h = absurd h
all_counted cs n (t ∷ ts) (c ∷ values) h =
    omega (arith, all_counted cs n ts values h.1)

module _ (x : Request) (fs : List Field) where
  pub have_values : (n : ℕ) (values : List ColumnView) → AreValues x fs n values
      → HaveRows n values
  have_values n values a =
      λ k d lt. ∥∥₁_elim a.mean (search props)
      (λ m. all_have a.columns n (trees_asked x) values m k d lt)

  pub value_long : (n : ℕ) (values : List ColumnView) → AreValues x fs n values → (k : ℕ)
      (v : ColumnView) → slice_get values k ≡ Some v → n ≤ length v.rows
  value_long n values a k v there =
      subst (λ (c : ColumnView). n ≤ length c.rows) (get_or_from_slice_get values k v v there)
      (have_values n values a k v (slice_get_within values k v there))

  -- each column is shown of an answer's values
  long_at : (n : ℕ) (answers : List ColumnView) (a : AreAnswers x fs n answers) (k : ℕ)
      (s : ColumnView) → slice_get answers k ≡ Some s → length (answers_asked x) ≡ length a.values
      → n ≤ length s.rows
  long_at n answers a k s there counted =
      let below = slice_get_within answers k s there in
      by_answer below (slice_get_cases (answers_asked x) k).1
    where
      by_value : (b : Answer) → slice_get (answers_asked x) k ≡ Some b
          → ((v : ColumnView) × (k < length a.values) × (slice_get a.values k ≡ Some v)
          × (get_or a.values k v ≡ v)) ⊎ ((length a.values ≤ k) × (slice_get a.values k ≡ None))
          → k < length answers → n ≤ length s.rows
      by_value b written (inl (v, in_values, found, same)) below =
          shown_long (width_of x) (first_fields x fs n) n b.kind (lone_column (width_of x) b.tree) v s
          (a.shows.each k b v s written found there)
          (subst (λ (c : ColumnView). n ≤ length c.rows) same
          (have_values n a.values a.are k v in_values))
      by_value b written (inr past) below =
          absurd (omega (arith, past.0, below, a.shows.count))

      by_answer : k < length answers
          → ((b : Answer) × (k < length (answers_asked x))
          × (slice_get (answers_asked x) k ≡ Some b) × (get_or (answers_asked x) k b ≡ b))
          ⊎ ((length (answers_asked x) ≤ k) × (slice_get (answers_asked x) k ≡ None))
          → n ≤ length s.rows
      by_answer below (inl (b, within, written, same)) =
          by_value b written (slice_get_cases a.values k).1 below
      by_answer below (inr past) =
          absurd (omega (arith, past.0, below, counted, a.shows.count))

  pub have_rows : (n : ℕ) (answers : List ColumnView) → AreAnswers x fs n answers
      → HaveRows n answers
  have_rows n answers a =
      λ k d lt. ∥∥₁_elim a.are.mean (search props)
      (λ m.
      long_at n answers a k (get_or answers k d) (slice_get-get_or answers k d lt)
      (omega (
        arith,
        length-map (answers_asked x) (λ (b : Answer). b.tree),
        all_counted a.are.columns n (trees_asked x) a.values m,
      )))

  pub within_shown : (number : ℕ → ℕ) (fit : ℕ) (other : Option StreamError) (n : ℕ)
      (e : Option StreamError)
      → EndsShown x fs number fit other n e → n ≤ fit
  within_shown number fit other n e (with_all is ended) = omega (arith, is)
  within_shown number fit other n e (at_no_text m k values a told most is are lacks tells) =
      omega (
        arith,
        most,
        lacks_below (width_of x) (first_fields x fs m) m a.kind (lone_column (width_of x) a.tree)
            lacks.value n lacks.lacks,
      )

  -- a row has no text, and what ends the rows before it ends these
  module _ (number : ℕ → ℕ) (fit : ℕ) (other : Option StreamError) (m row : ℕ)
      (error : StreamError) (most : m ≤ fit)
      (stop : AnswersOrLacks x fs number m (shown.NoText row error)) where
    pub stop_below : row < m
    stop_below =
        lacks_below (width_of x) (first_fields x fs m) m stop.2.kind
        (lone_column (width_of x) stop.2.tree) stop.4.value row stop.4.lacks

    pub stopped_here : EndsShown x fs number fit other row (Some error)
    stopped_here =
        at_no_text m stop.0 stop.1 stop.2 error most refl stop.3 stop.4 stop.5

    pub stopped_before : (n : ℕ) (e : Option StreamError)
        → EndsShown x fs number row (Some error) n e → EndsShown x fs number fit other n e
    stopped_before n e (with_all is ended) =
        subst (λ (i : ℕ). EndsShown x fs number fit other i e) (sym is)
        (subst (λ (o : Option StreamError). EndsShown x fs number fit other row o) (sym ended)
        stopped_here)
    stopped_before n e (at_no_text l k values a told less is are lacks tells) =
        at_no_text l k values a told (omega (arith, less, stop_below, most)) is are lacks tells

  within_answers : (number : ℕ → ℕ) (fit : ℕ) (other : Option StreamError) (n : ℕ)
      (e : Option StreamError)
      → EndsAnswers x fs number fit other n e → n ≤ fit
  within_answers number fit other n e (with_them is ended) = omega (arith, is)
  within_answers number fit other n e (at_fault columns k fault told is first faulty tells) =
      ∥∥₁_elim faulty (search props) (λ h. omega (arith, is, h.below))

  within_fitting : (places : List ℕ) (number : ℕ → ℕ) (count : ℕ) (behind : Option StreamError)
      (n : ℕ)
      (e : Option StreamError) → EndsFitting x fs places number count behind n e → n ≤ count
  within_fitting places number count behind n e (with_batch is ended) = omega (arith, is)
  within_fitting places number count behind n e (at_misfit column told is misfit tells) =
      let width = width_of x in
      let below = below_row width count n column (length (take (width * count) fs))
      misfit.within (omega (arith, length-take (width * count) fs)) in
      omega (arith, below)

  pub within_batch : (places : List ℕ) (number : ℕ → ℕ) (count : ℕ) (behind : Option StreamError)
      (n : ℕ)
      (e : Option StreamError) → EndsBatch x fs places number count behind n e → n ≤ count
  within_batch places number count behind n e (fit, other, fitting, (faultless, ended, ends, shows)) =
      omega (
        arith,
        within_fitting places number count behind fit other fitting,
        within_answers number fit other faultless ended ends,
        within_shown number faultless ended n e shows,
      )
