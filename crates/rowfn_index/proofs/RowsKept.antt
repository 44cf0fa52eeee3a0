-- The rows that are kept of a chunk, by what is done with it.
use Rattle.std.proofs.Common.{◌≡◌, ◌+◌, ◌<◌, ◌≤◌, ◌∷◌, [], ℕ, zero, suc, List, Bool, true, false, refl, sym, ap, subst, ◌∙◌, arith, zero-add}
use Rattle.std.specs.Prelude.{Option, Some, None, filter, slice_get, ◌&&◌}
use Rattle.std.proofs.Common.{cond}
use Rattle.std.specs.List.{range_with_len}
use Rattle.vortex_types.specs.Values.{truth}
use Rattle.vortex_columns.specs.ColumnView.{ColumnView}
use Rattle.vortex_interface.specs.Outcomes.{Outcome, gives, faults, GivesValue}
use Rattle.vortex_interface.specs.Meaning.{Meaning}
use Rattle.vortex_interface.specs.Trees.{Tree}
use Rattle.vortex_interface.specs.Eval.{eval, Settled}
use Rattle.vortex_ranges.specs.Described.{DescribeAll}
use Rattle.vortex_pruning.specs.declared.groups.FieldStatistics.{FieldStatistics}
use Rattle.vortex_pruning.specs.declared.pruned.Pruned.{Pruned}
use Rattle.vortex_pruning.specs.declared.pruned.Verdict.{Verdict}
use Rattle.vortex_pruning.specs.declared.pruned.Verdict.TheVariants.{Unknown, NoneTrue, AllTrue}
use Rattle.vortex_pruning.specs.Groups.{PruneAll, AllFrom, statistics_in}
use Rattle.vortex_pruning.specs.Pruning.{Prunes, TellsRows, SaysOf, IsTrueOutcome, is_true}
use Rattle.rowfn_index.specs.declared.chunk.Chunk.{Chunk}
use Rattle.rowfn_index.specs.declared.steps.Action.{Action}
use Rattle.rowfn_index.specs.declared.steps.Action.TheVariants.{Run, Skip, Copy}
use Rattle.rowfn_index.specs.Steps.{action_by, action_of, action_where, action_at}
use Rattle.rowfn_index.specs.Kept.{true_rows, rows_by, KeepsChunk, KeepsRows}

-- of numbers from a on none or all pass a test
filter_none : (p : ℕ → Bool) (a n : ℕ) → ((i : ℕ) → i < a + n → p i ≡ false)
    → filter p (range_with_len a n) ≡ []
filter_none p a zero h = refl
filter_none p a (suc n) h =
    let rest : List ℕ = filter p (range_with_len (a + 1) n) in
    ap (λ (b : Bool). cond b (a ∷ rest) rest) (h a (omega arith))
    ∙ filter_none p (a + 1) n (λ i lt. h i (omega (arith, lt)))

filter_every : (p : ℕ → Bool) (a n : ℕ) → ((i : ℕ) → i < a + n → p i ≡ true)
    → filter p (range_with_len a n) ≡ range_with_len a n
filter_every p a zero h = refl
filter_every p a (suc n) h =
    let rest : List ℕ = filter p (range_with_len (a + 1) n) in
    ap (λ (b : Bool). cond b (a ∷ rest) rest) (h a (omega arith))
    ∙ ap (λ (xs : List ℕ). a ∷ xs) (filter_every p (a + 1) n (λ i lt. h i (omega (arith, lt))))

-- of items that are so at their places, those at one place
at_place : {A B : Type 0} (P : ℕ → A → B → Type 0) (s : ℕ) (xs : List A) (ys : List B) (k : ℕ) (x : A)
    (y : B) → AllFrom P s xs ys → slice_get xs k ≡ Some x → slice_get ys k ≡ Some y → P (s + k) x y
at_place P s [] ys k x y h e f = cc
at_place P s (a ∷ more) [] k x y h e f = cc
at_place P s (a ∷ more) (b ∷ bs) zero x y h e f =
    let same_x : a ≡ x = cc in
    let same_y : b ≡ y = cc in
    let here : s ≡ s + zero = omega arith in
    subst (λ (n : ℕ). P n x y) here (subst (λ (w : _). P s x w) same_y (subst (λ (v : _). P s v b) same_x h.0))
at_place P s (a ∷ more) (b ∷ bs) (suc k) x y h e f =
    let same : suc s + k ≡ s + suc k = omega arith in
    subst (λ (n : ℕ). P n x y) same (at_place P (suc s) more bs k x y h.1 e f)

untrue : (o : Outcome) → ¬ IsTrueOutcome o → is_true o ≡ false
untrue (gives (truth true)) h = absurd (h refl)
untrue (gives (truth false)) h = refl
untrue o h = refl

value_of_true : (o : Outcome) → IsTrueOutcome o → GivesValue o
value_of_true (gives v) h = tt
value_of_true (faults f) h = cc

module _ {V O : Type 0} (m : Meaning V O) (t : Tree V O) (cs : List ColumnView) (n : ℕ) where
  run : KeepsChunk m t cs n Run
  run = record { rows = refl; skipped = λ e. cc; copied = λ e. cc }

  chosen : (v : Verdict) (f c : Bool) → ((i : ℕ) → i < n → SaysOf v (eval m cs t i))
      → (f ≡ true → Settled m cs n t) → KeepsChunk m t cs n (action_by v f c)
  chosen Unknown f c says none = run
  chosen NoneTrue true c says none =
      record {
        rows = sym (filter_none (λ i. is_true (eval m cs t i)) 0 n
            (λ i lt. untrue (eval m cs t i) (says i (omega (arith, lt)))));
        skipped = λ e. none refl;
        copied = λ e. cc;
      }
  chosen NoneTrue false c says none = run
  chosen AllTrue f true says none =
      record {
        rows = sym (filter_every (λ i. is_true (eval m cs t i)) 0 n
            (λ i lt. ap is_true (says i (omega (arith, lt)))));
        skipped = λ e. cc;
        copied = λ e i lt. value_of_true (eval m cs t i) (says i lt);
      }
  chosen AllTrue f false says none = run

  -- of a chunk of which this is known, if anything is
  where_known : (copies : Bool) (o : Option Pruned) (c : Option Chunk)
      → ((p : Pruned) → o ≡ Some p → TellsRows m cs n t p)
      → KeepsChunk m t cs n (action_where copies o c)
  where_known copies None c tells = run
  where_known copies (Some p) None tells = run
  where_known copies (Some p) (Some c) tells =
      let known : TellsRows m cs n t p = tells p refl in
      chosen p.verdict p.faultless (copies && c.whole) known.rows known.faultless

-- by what pruning says of each chunk
pub keeps_rows : {V O : Type 0} (m : Meaning V O) (t : Tree V O) (fs : List FieldStatistics)
    (ns : List ℕ) (ps : List Pruned) (chunks : List Chunk) (copies : Bool)
    → KeepsRows m t fs ns ps chunks copies
keeps_rows m t fs ns ps chunks copies pruned g n here cs described =
    where_known m t cs n copies (slice_get ps g) (slice_get chunks g)
    (λ p there.
    (subst (λ (k : ℕ). Prunes m n (statistics_in k n fs) t p) (zero-add g)
    (at_place (λ k size q. Prunes m size (statistics_in k size fs) t q) 0 ns ps g n p pruned here
    there)).tells cs described)
