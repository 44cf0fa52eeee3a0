-- The steps of a tree, up to an index.
use Rattle.std.proofs.Common.{◌≡◌, ℕ, suc, ◌+◌, ◌<◌, ◌≤◌, List, [], ◌∷◌, length, map, drop, get_or}
use Rattle.std.proofs.Common.{ap, sym, ◌∙◌, subst, arith, refl}
use Rattle.std.proofs.Math.Seq.{drop-cons}
use Rattle.std.proofs.lemmas.List.{drop_all}
use Rattle.vortex_syntax.specs.declared.step.Step as written
use Rattle.vortex_syntax.specs.Postfix.{step_in}
use Rattle.vortex_expressions.specs.declared.refusal.BindStop.{BindStop}
use Rattle.vortex_expressions.specs.Outcomes.{Outcome, answers, and_then}
use Rattle.vortex_expressions.specs.Items.{Item}
use Rattle.vortex_expressions.specs.Calls.{Names}
use Rattle.vortex_expressions.specs.Stacks.{run, stepped, left_as}
use Rattle.vortex_expressions.specs.Answering.{StopsBy}
use Rattle.vortex_expressions.proofs.Stopping.{stops_first}

module _ (columns : Names) (steps : List written.Step) where
  abbrev Behind : ℕ → List Item → Outcome (List Item)
  Behind n st = run columns (map step_in (drop n steps)) st

  abbrev pub SoFar : ℕ → List Item → Type 0
  SoFar n st = run columns (map step_in steps) [] ≡ Behind n st

  one_more : (n : ℕ) (s : written.Step) (st : List Item) → n < length steps
      → Behind n st
      ≡ and_then (stepped columns (step_in (get_or steps n s)) st)
      (run columns (map step_in (drop (n + 1) steps)))
  unfolding run
  one_more n s st lt =
      ap (λ ys. run columns (map step_in ys) st)
      (drop-cons steps n s lt
      ∙ ap (λ m. get_or steps n s ∷ drop m steps) (let e : suc n ≡ n + 1 = omega arith in e))

  pub goes_on : (n : ℕ) (s : written.Step) (st new : List Item) → n < length steps
      → stepped columns (step_in (get_or steps n s)) st ≡ answers new → SoFar n st
      → SoFar (n + 1) new
  goes_on n s st new lt h so_far =
      so_far ∙ one_more n s st lt
      ∙ ap (λ o. and_then o (run columns (map step_in (drop (n + 1) steps)))) h

  pub stops : (n : ℕ) (s : written.Step) (st : List Item) (e : BindStop) → n < length steps
      → StopsBy (stepped columns (step_in (get_or steps n s)) st) e → SoFar n st
      → StopsBy (run columns (map step_in steps) []) e
  stops n s st e lt h so_far =
      subst (λ o. StopsBy o e) (sym (so_far ∙ one_more n s st lt))
      (stops_first (stepped columns (step_in (get_or steps n s)) st)
      (run columns (map step_in (drop (n + 1) steps))) e h)

  pub ends : (n : ℕ) (st : List Item) → length steps ≤ n → SoFar n st
      → run columns (map step_in steps) [] ≡ answers st
  unfolding run
  ends n st le so_far =
      so_far ∙ ap (λ ys. run columns (map step_in ys) st) (drop_all n steps le)

-- the end of the only item is that of what is left
pub left_then : {A : Type 0} (last : Item → Outcome A) (st : List Item)
    → left_as last st ≡ and_then (left_as answers st) last
left_then last [] = refl
left_then last (i ∷ []) = refl
left_then last (i ∷ j ∷ st) = refl
