-- A script has one outcome if memory suffices: the session and the line that ends it determine the
-- ending.
use Rattle.std.proofs.Common.{◌≡◌, ◌≢◌, ◌⊎◌, inl, inr, ℕ, ◌<◌, ◌≤◌, List, length, refl, sym, ap}
use Rattle.std.proofs.Common.{subst, ◌∙◌, arith}
use Rattle.vortex_errors.specs.declared.error.VortexError.TheVariants.{OutOfMemory}
use Rattle.vortex_interface.specs.Meaning.{Meaning}
use Rattle.vortex_interface.specs.Rules.{Rules}
use Rattle.rowfn_lines.specs.Lines.{lines_of}
use Rattle.rowfn_scripts.specs.declared.ending.End.{End}
use Rattle.rowfn_scripts.specs.declared.ending.End.TheVariants.{Done, Refused, Malformed}
use Rattle.rowfn_scripts.specs.Sessions.{SessionView, refuses, is_malformed}
use Rattle.rowfn_scripts.specs.Scripts.{Reaches, command_at, EndsAt}
use Rattle.rowfn_scripts.specs.Fitting.{Fits}
use Rattle.rowfn_scripts.specs.Telling.{FullOutcomesAreOne}
use Rattle.rowfn_scripts.proofs.AfterRules.{AreSound}
use Rattle.rowfn_scripts.proofs.Fitting.{reached_fits}
use Rattle.rowfn_scripts.proofs.OneStep.{one_step}
use Rattle.rowfn_scripts.proofs.Telling.{of_refused, one_session, ends_no_sooner, sooner_or_not}

module _ {V O : Type 0} (m : Meaning V O) (rs : Rules V O) (laws : AreSound m rs)
    (lines : List (List ℕ)) where
  -- the lines are over or not
  over : (n : ℕ) → n ≡ length lines → n < length lines → ⊥
  over n e h = omega arith

  one_ending : (n : ℕ) (s : SessionView V O) → Fits m s → (a b : End)
      → a ≢ Refused OutOfMemory → b ≢ Refused OutOfMemory
      → EndsAt m rs lines n s a → EndsAt m rs lines n s b → a ≡ b
  one_ending n s h Done Done p q x y = refl
  one_ending n s h Done (Refused d) p q x y =
      absurd (over n x (of_refused m rs laws lines n s d q y).0)
  one_ending n s h Done (Malformed l) p q x y = absurd (over n x y.0)
  one_ending n s h (Refused e) Done p q x y =
      absurd (over n y (of_refused m rs laws lines n s e p x).0)
  one_ending n s h (Refused e) (Refused d) p q x y =
      let one =
      one_step m rs laws s h (command_at lines n) (refuses e) (refuses d)
      (of_refused m rs laws lines n s e p x).1 (of_refused m rs laws lines n s d q y).1 in
      cc
  one_ending n s h (Refused e) (Malformed l) p q x y =
      let one =
      one_step m rs laws s h (command_at lines n) (refuses e) is_malformed
      (of_refused m rs laws lines n s e p x).1 y.1 in
      cc
  one_ending n s h (Malformed k) Done p q x y = absurd (over n y x.0)
  one_ending n s h (Malformed k) (Refused d) p q x y =
      let one =
      one_step m rs laws s h (command_at lines n) is_malformed (refuses d) x.1
      (of_refused m rs laws lines n s d q y).1 in
      cc
  one_ending n s h (Malformed k) (Malformed l) p q x y = ap Malformed (x.2 ∙ sym y.2)

  same_place : (a b : ℕ) (s t : SessionView V O) (first last : End)
      → first ≢ Refused OutOfMemory → last ≢ Refused OutOfMemory
      → Reaches m rs lines a s → Reaches m rs lines b t → EndsAt m rs lines a s first
      → EndsAt m rs lines b t last
      → a ≡ b
  same_place a b s t first last p q r u x y = by (sooner_or_not a b) (sooner_or_not b a)
    where
      by : (b < a) ⊎ (a ≤ b) → (a < b) ⊎ (b ≤ a) → a ≡ b
      by (inl lt) h = absurd (ends_no_sooner m rs laws lines a b s t last q r u y lt)
      by (inr le) (inl lt) = absurd (ends_no_sooner m rs laws lines b a t s first p u r x lt)
      by (inr le) (inr ge) = omega arith

  one_end : (a b : ℕ) (s t : SessionView V O) (first last : End)
      → first ≢ Refused OutOfMemory → last ≢ Refused OutOfMemory
      → Reaches m rs lines a s → Reaches m rs lines b t → EndsAt m rs lines a s first
      → EndsAt m rs lines b t last
      → (s ≡ t) × (first ≡ last)
  one_end a b s t first last p q r u x y =
      let place = same_place a b s t first last p q r u x y in
      let there = subst (λ (k : ℕ). Reaches m rs lines k t) (sym place) u in
      let same = one_session m rs laws lines a s t r there in
      let ends = subst (λ (k : ℕ). EndsAt m rs lines k t last) (sym place) y in
      let ends_here = subst (λ (v : SessionView V O). EndsAt m rs lines a v last) (sym same) ends in
      (same, one_ending a s (reached_fits m rs laws lines a s r) first last p q x ends_here)

pub full_outcomes_are_one : {V O : Type 0} (m : Meaning V O) (rs : Rules V O) → AreSound m rs
    → FullOutcomesAreOne m rs
full_outcomes_are_one m rs laws script out other ending last g h =
    let a = g.outcome in
    let b = h.outcome in
    let lines = lines_of script in
    let one =
    one_end m rs laws lines a.read b.read a.session b.session ending last g.memory h.memory
    a.reached b.reached a.ends b.ends in
    (a.printed ∙ ap (λ (s : SessionView _ _). s.printed) one.0 ∙ sym b.printed, one.1)
