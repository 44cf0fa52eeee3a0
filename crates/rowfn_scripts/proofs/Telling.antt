-- The lines of a script make one session, and print one text.
use Rattle.std.proofs.Common.{◌≡◌, ◌≢◌, ◌⊎◌, inl, inr, ℕ, zero, suc, ◌<◌, ◌≤◌, Option, Some, None}
use Rattle.std.proofs.Common.{List, [], ◌∷◌, ◌++◌, length, refl, sym, ap, subst, ◌∙◌, arith}
use Rattle.std.proofs.Common.{append_assoc}
use Rattle.std.specs.Prelude.{⊤}
use Rattle.std.proofs.lemmas.List.{append-nil}
use Rattle.vortex_errors.specs.declared.error.VortexError.{VortexError}
use Rattle.vortex_errors.specs.declared.error.VortexError.TheVariants.{OutOfMemory}
use Rattle.vortex_types.specs.LogicalTypes.{find_field}
use Rattle.vortex_interface.specs.Meaning.{Meaning}
use Rattle.vortex_interface.specs.Rules.{Rules}
use Rattle.vortex_interface.specs.Shipped.{shipped_called}
use Rattle.vortex_interface.specs.Trees.{Tree}
use Rattle.rowfn_lines.specs.Commands.{Command, nothing, malformed, rows, column, get, literal}
use Rattle.rowfn_lines.specs.Commands.{call, show, optimize, run, run_after}
use Rattle.rowfn_lines.specs.Lines.{lines_of}
use Rattle.rowfn_scripts.specs.declared.ending.End.{End}
use Rattle.rowfn_scripts.specs.declared.ending.End.TheVariants.{Done, Refused, Malformed}
use Rattle.rowfn_scripts.specs.Sessions.{SessionView, Step, goes_on, refuses, is_malformed, fresh}
use Rattle.rowfn_scripts.specs.Sessions.{after_rows, with_column, with_leaf, with_literal}
use Rattle.rowfn_scripts.specs.Sessions.{with_call, ShowsTop, prints, refused, RunsTop}
use Rattle.rowfn_scripts.specs.Sessions.{OptimizesTop, prints_after, refused_after, RunsAfterTop}
use Rattle.rowfn_scripts.specs.Sessions.{StepsTo, column_line}
use Rattle.rowfn_scripts.specs.Scripts.{Reaches, begins, one_more, command_at, EndsAt, IsOutcome}
use Rattle.rowfn_scripts.specs.Fitting.{AllShown, Fits}
use Rattle.rowfn_scripts.proofs.AfterRules.{AreSound}
use Rattle.rowfn_scripts.proofs.Fitting.{reached_fits}
use Rattle.rowfn_scripts.proofs.Steps.{of_rows, after, of_column, of_leaf, of_call}
use Rattle.rowfn_scripts.proofs.Shown.{shows_text}
use Rattle.rowfn_scripts.proofs.OneStep.{one_step}

abbrev Grows : List ℕ → List ℕ → Type 0
Grows before after = (rest : List ℕ) × (after ≡ before ++ rest)

stays : (before after : List ℕ) → after ≡ before → Grows before after
stays before after e = ([], e ∙ sym (append-nil before))

grows_on : (a b c : List ℕ) → Grows a b → Grows b c → Grows a c
grows_on a b c g h =
    (g.0 ++ h.0, h.1 ∙ ap (λ (x : List ℕ). x ++ h.0) g.1 ∙ append_assoc a g.0 h.0)

-- no line takes back what was printed
module _ {V O : Type 0} (m : Meaning V O) (rs : Rules V O) (s : SessionView V O) where
  abbrev PrintsOn : Step V O → Type 0
  PrintsOn (goes_on t) = Grows s.printed t.printed
  PrintsOn (refuses e) = ⊤
  PrintsOn is_malformed = ⊤

  by_step : (r a : Step V O) → r ≡ a → PrintsOn a → PrintsOn r
  by_step r a e h = subst PrintsOn (sym e) h

  same : Grows s.printed s.printed
  same = stays s.printed s.printed refl

  after_count : (f : ℕ → Step V O) → ((n : ℕ) → PrintsOn (f n))
      → PrintsOn (after_rows s.row_count f)
  after_count f h = after m s PrintsOn tt (λ e k. tt) s.row_count f (λ n k. h n)

  run_grows : (r : Option ℕ) (stack : List (Tree V O)) (a : Step V O) → RunsTop m r stack s a
      → PrintsOn a
  run_grows None stack a e = by_step a is_malformed e tt
  run_grows (Some n) [] a e = by_step a is_malformed e tt
  run_grows (Some n) (x ∷ stack) a (refused d h e) = by_step a (refuses d) e tt
  run_grows (Some n) (x ∷ stack) a (prints c h e) = by_step a _ e (column_line c, refl)

  run_after_grows : (limit : ℕ) (r : Option ℕ) (stack : List (Tree V O)) (a : Step V O)
      → RunsAfterTop m rs limit r stack s a → PrintsOn a
  run_after_grows limit None stack a e = by_step a is_malformed e tt
  run_after_grows limit (Some n) [] a e = by_step a is_malformed e tt
  run_after_grows limit (Some n) (x ∷ stack) a (refused_after d h e) = by_step a (refuses d) e tt
  run_after_grows limit (Some n) (x ∷ stack) a (prints_after c h e) =
      by_step a _ e (column_line c, refl)

  optimize_grows : (r : Option ℕ) (stack : List (Tree V O)) (a : Step V O)
      → OptimizesTop m rs r stack s a → PrintsOn a
  optimize_grows None stack a e = by_step a is_malformed e tt
  optimize_grows (Some n) [] a e = by_step a is_malformed e tt
  optimize_grows (Some n) (x ∷ stack) a o = by_step a _ o.is (_, refl)

  show_grows : (r : Option ℕ) (stack : List (Tree V O)) (a : Step V O) → AllShown stack
      → ShowsTop r stack s a → PrintsOn a
  show_grows None stack a h e = by_step a is_malformed e tt
  show_grows (Some n) [] a h e = by_step a is_malformed e tt
  show_grows (Some n) (x ∷ stack) a h e = by_step a _ (shows_text s x a h.0 e) (_, refl)

  grows : AllShown s.stack → (k : Command) (r : Step V O) → StepsTo m rs k s r → PrintsOn r
  grows h nothing r e = by_step r _ e same
  grows h malformed r e = by_step r _ e tt
  grows h (rows n) r e =
      by_step r _ e (of_rows m s PrintsOn tt (λ d k. tt) n s.row_count (λ k. same))
  grows h (column name c) r e =
      by_step r _ e (after_count (with_column name c s)
      (λ n. of_column m s PrintsOn tt (λ d k. tt) name c n (λ k. same)))
  grows h (get name) r e =
      by_step r _ e (after_count (λ n. with_leaf name s (find_field name s.fields))
      (λ n. of_leaf m s PrintsOn tt (λ d k. tt) name (find_field name s.fields) (λ p k. same)))
  grows h (literal l) r e = by_step r _ e (after_count (λ n. with_literal l s) (λ n. same))
  grows h (call words chosen) r e =
      by_step r _ e (after_count (λ n. with_call m s (shipped_called words chosen))
      (λ n. of_call m s PrintsOn tt (λ d k. tt) (shipped_called words chosen) (λ f p k t. same)))
  grows h show r e = show_grows s.row_count s.stack r h e
  grows h optimize r e = optimize_grows s.row_count s.stack r e
  grows h run r e = run_grows s.row_count s.stack r e
  grows h (run_after limit) r e = run_after_grows limit s.row_count s.stack r e

last_or_before : (a b : ℕ) → a ≤ suc b → (a ≤ b) ⊎ (a ≡ suc b)
last_or_before a b h = grind arith

none_before : (a : ℕ) → a ≤ 0 → a ≡ 0
none_before a h = omega arith

module _ {V O : Type 0} (m : Meaning V O) (rs : Rules V O) (laws : AreSound m rs)
    (lines : List (List ℕ)) where
  abbrev Before : ℕ → SessionView V O → Type 0
  Before zero t = t ≡ fresh
  Before (suc n) t =
      (s : SessionView V O) × Reaches m rs lines n s × (n < length lines)
      × StepsTo m rs (command_at lines n) s (goes_on t)

  before : (k : ℕ) (u : SessionView V O) → Reaches m rs lines k u → Before k u
  before k u begins = refl
  before k u (one_more n s t reached lt e) = (s, reached, lt, e)

  pub one_session : (n : ℕ) (s t : SessionView V O) → Reaches m rs lines n s
      → Reaches m rs lines n t
      → s ≡ t
  one_session zero s t a b = before zero s a ∙ sym (before zero t b)
  one_session (suc n) s t a b =
      let p = before (suc n) s a in
      let q = before (suc n) t b in
      let same = one_session n q.0 p.0 q.1 p.1 in
      let step =
      subst (λ (x : SessionView V O). StepsTo m rs (command_at lines n) x (goes_on t)) same q.3 in
      let one =
      one_step m rs laws p.0 (reached_fits m rs laws lines n p.0 p.1) (command_at lines n)
      (goes_on s) (goes_on t) p.3 step in
      cc

  earlier_by : (b a : ℕ) (t : SessionView V O) (reached : Reaches m rs lines (suc b) t)
      → (a ≤ b
      → (s : SessionView V O) × Reaches m rs lines a s
      × Grows s.printed (before (suc b) t reached).0.printed)
      → (a ≤ b) ⊎ (a ≡ suc b)
      → (s : SessionView V O) × Reaches m rs lines a s × Grows s.printed t.printed
  earlier_by b a t reached sooner (inr q) =
      (t, subst (λ (n : ℕ). Reaches m rs lines n t) (sym q) reached, stays t.printed t.printed refl)
  earlier_by b a t reached sooner (inl k) =
      let p = before (suc b) t reached in
      let r = sooner k in (
        r.0,
        r.1,
        grows_on r.0.printed p.0.printed t.printed r.2
            (grows m rs p.0 (reached_fits m rs laws lines b p.0 p.1).shown (command_at lines b)
            (goes_on t) p.3),
      )

  -- the session some lines earlier
  earlier : (b a : ℕ) (t : SessionView V O) → a ≤ b → Reaches m rs lines b t
      → (s : SessionView V O) × Reaches m rs lines a s × Grows s.printed t.printed
  earlier zero a t h reached = (
    t,
    subst (λ (n : ℕ). Reaches m rs lines n t) (sym (none_before a h)) reached,
    stays t.printed t.printed refl,
  )
  earlier (suc b) a t h reached =
      let p = before (suc b) t reached in
      earlier_by b a t reached (λ k. earlier b a p.0 k p.1) (last_or_before a b h)

  -- the line after them, if there are more
  next : (b a : ℕ) (t : SessionView V O) → a < b → Reaches m rs lines b t
      → (s u : SessionView V O) × Reaches m rs lines a s × (a < length lines)
      × StepsTo m rs (command_at lines a) s (goes_on u)
  next b a t h reached =
      let r = earlier b (suc a) t h reached in
      let p = before (suc a) r.0 r.1 in
      (p.0, r.0, p.1, p.2, p.3)

  abbrev pub Refuses : ℕ → SessionView V O → VortexError → Type 0
  Refuses n s e = (n < length lines) × StepsTo m rs (command_at lines n) s (refuses e)

  pub of_refused : (n : ℕ) (s : SessionView V O) (e : VortexError)
      → Refused e ≢ Refused OutOfMemory → EndsAt m rs lines n s (Refused e) → Refuses n s e
  of_refused n s OutOfMemory memory ends = absurd (memory refl)
  of_refused n s e memory ends = ends

  -- where a script ends, unless memory ran out, no line continues
  no_more : (n : ℕ) (s t : SessionView V O) → Fits m s → (last : End)
      → last ≢ Refused OutOfMemory → EndsAt m rs lines n s last → n < length lines
      → StepsTo m rs (command_at lines n) s (goes_on t) → ⊥
  no_more n s t fits Done memory ends lt step = omega arith
  no_more n s t fits (Refused e) memory ends lt step =
      let one =
      one_step m rs laws s fits (command_at lines n) (goes_on t) (refuses e) step
      (of_refused n s e memory ends).1 in
      cc
  no_more n s t fits (Malformed k) memory ends lt step =
      let one =
      one_step m rs laws s fits (command_at lines n) (goes_on t) is_malformed step ends.1 in
      cc

  pub ends_no_sooner : (a b : ℕ) (s t : SessionView V O) (last : End)
      → (last ≡ Refused OutOfMemory → ⊥) → Reaches m rs lines a s → Reaches m rs lines b t
      → EndsAt m rs lines b t last → b < a → ⊥
  ends_no_sooner a b s t last memory reached whole ends h =
      let r = next a b s h reached in
      let same = one_session b r.0 t r.2 whole in
      no_more b t r.1 (reached_fits m rs laws lines b t whole) last memory ends r.3
      (subst (λ (x : SessionView V O). StepsTo m rs (command_at lines b) x (goes_on r.1)) same r.4)

pub sooner_or_not : (a b : ℕ) → (b < a) ⊎ (a ≤ b)
sooner_or_not a b = grind arith

pub prints_a_beginning : {V O : Type 0} (m : Meaning V O) (rs : Rules V O) → AreSound m rs
    → (script out whole : List ℕ) (ending last : End)
    → IsOutcome m rs script out ending → IsOutcome m rs script whole last
    → (last ≡ Refused OutOfMemory → ⊥)
    → (rest : List ℕ) × (whole ≡ out ++ rest)
prints_a_beginning m rs laws script out whole ending last g h memory =
    by (sooner_or_not g.read h.read)
  where
    by : (h.read < g.read) ⊎ (g.read ≤ h.read) → (rest : List ℕ) × (whole ≡ out ++ rest)
    by (inl k) =
        absurd (ends_no_sooner m rs laws (lines_of script) g.read h.read g.session h.session last
        memory g.reached h.reached h.ends k)
    by (inr k) =
        let r = earlier m rs laws (lines_of script) h.read g.read h.session k h.reached in
        let same = one_session m rs laws (lines_of script) g.read r.0 g.session r.1 g.reached in (
          r.2.0,
          h.printed ∙ r.2.1
              ∙ ap (λ (b : List ℕ). b ++ r.2.0)
              (ap (λ (s : SessionView _ _). s.printed) same ∙ sym g.printed),
        )
