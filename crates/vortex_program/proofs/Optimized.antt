-- What rules made of the answers so far, and of one answer more.
use Rattle.std.proofs.Common.{◌≡◌, ◌<◌, ◌≤◌, ◌∙◌, ℕ, List, [], ◌∷◌, ◌++◌, Bool, true, false, refl}
use Rattle.std.proofs.Common.{sym, subst, zero, suc, arith, length, take, get_or, inl, inr, None}
use Rattle.std.specs.Prelude.{◌↔◌, IsTrue}
use Rattle.vortex_interface.specs.Rewrites.{Rewrites}
use Rattle.vortex_interface.specs.Driver.{step, Runs}
use Rattle.vortex_interface.specs.Weights.{weight_told}
use Rattle.vortex_interface.specs.ValidityRules.{default_rules}
use Rattle.vortex_rewriting.specs.Runs.{expression_step}
use Rattle.vortex_expressions.specs.Items.{Tree, meaning}
use Rattle.vortex_program.specs.declared.answer.Answer as bound
use Rattle.vortex_program.specs.Programs.{IsOptimized, IsRunOf, AreOptimized}

-- what a run that is over, or has taken all its steps, leads to
pub optimized_by : (t u : Tree) (steps limit : ℕ) (done : Bool) → limit ≡ weight_told meaning t
    → Runs (expression_step meaning (default_rules meaning)) steps t u → steps ≤ limit
    → (IsTrue done ↔ (step (expression_step meaning (default_rules meaning)) u ≡ None))
    → (done ≡ false → steps ≡ limit) → Rewrites meaning t u → IsOptimized t u
optimized_by t u steps limit true most run within over stopped kept = record {
  run = (steps, omega (arith, most, within), run, inl (over.0 refl));
  kept = kept;
}
optimized_by t u steps limit false most run within over stopped kept = record {
  run = (steps, omega (arith, most, within), run, inr (stopped refl ∙ most));
  kept = kept;
}

pub optimized_more : (xs os : List bound.Answer) (k j : ℕ) (x o : bound.Answer) → j ≡ suc k
    → k < length xs → x ≡ get_or xs k x → AreOptimized (take k xs) os
    → IsRunOf x o → AreOptimized (take j xs) (os ++ o ∷ [])
optimized_more xs os k j x o next lt at h r =
    subst (λ (n : ℕ). AreOptimized (take n xs) (os ++ o ∷ [])) (sym next) (go xs os k lt at h)
  where
    go : (ys ps : List bound.Answer) (l : ℕ) → l < length ys → x ≡ get_or ys l x
        → AreOptimized (take l ys) ps → AreOptimized (take (suc l) ys) (ps ++ o ∷ [])
    go [] ps l below at h = absurd (omega (arith, below))
    go (y ∷ ys) [] zero below at h =
        (subst (λ (z : bound.Answer). IsRunOf z o) at r, tt)
    go (y ∷ ys) (p ∷ ps) zero below at h = absurd h
    go (y ∷ ys) [] (suc l) below at h = absurd h
    go (y ∷ ys) (p ∷ ps) (suc l) below at h = (h.0, go ys ps l (omega (arith, below)) at h.1)
