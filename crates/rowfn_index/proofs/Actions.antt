-- Steps, chunk by chunk.
use Rattle.std.proofs.Common.{◌≡◌, ◌+◌, ◌++◌, ◌∷◌, [], ℕ, List, refl, sym, ap, ◌∙◌, append_assoc}
use Rattle.std.specs.Prelude.{replicate}
use Rattle.std.proofs.lemmas.List.{replicate-append-replicate, append-nil}
use Rattle.std.proofs.lemmas.Grind.{flat_map-append}
use Rattle.rowfn_index.specs.declared.steps.Action.{Action}
use Rattle.rowfn_index.specs.declared.steps.Step.{Step}
use Rattle.rowfn_index.specs.Steps.{step_actions, expanded}

abbrev pub step : Action → ℕ → Step
step a n = record { action = a; count = n }

-- the last step, and what is before it
pub expanded-append_one : (ss : List Step) (s : Step)
    → expanded (ss ++ (s ∷ [])) ≡ expanded ss ++ step_actions s
expanded-append_one ss s =
    flat_map-append step_actions ss (s ∷ [])
    ∙ ap (λ (xs : List Action). expanded ss ++ xs) (append-nil (step_actions s))

-- one chunk more in a step of its own
pub expanded-new : (ss : List Step) (a : Action)
    → expanded (ss ++ (step a 1 ∷ [])) ≡ expanded ss ++ (a ∷ [])
expanded-new ss a = expanded-append_one ss (step a 1)

-- or in the last step
pub expanded-more : (ss : List Step) (a : Action) (n : ℕ)
    → expanded (ss ++ (step a (n + 1) ∷ [])) ≡ expanded (ss ++ (step a n ∷ [])) ++ (a ∷ [])
expanded-more ss a n =
    expanded-append_one ss (step a (n + 1))
    ∙ (ap (λ (xs : List Action). expanded ss ++ xs) (sym (replicate-append-replicate n 1 a))
    ∙ (sym (append_assoc (expanded ss) (replicate n a) (a ∷ []))
    ∙ ap (λ (xs : List Action). xs ++ (a ∷ [])) (sym (expanded-append_one ss (step a n)))))

-- a step that is pushed
pub pushed_new : (old new : List Step) (a : Action) → new ≡ old ++ (step a 1 ∷ [])
    → expanded new ≡ expanded old ++ (a ∷ [])
pushed_new old new a e = ap expanded e ∙ expanded-new old a

-- a step in the place of the last one, with one chunk more
pub pushed_more : (rest old new : List Step) (last : Step) (a : Action)
    → old ≡ rest ++ (last ∷ []) → last.action ≡ a
    → new ≡ rest ++ (step a (last.count + 1) ∷ []) → expanded new ≡ expanded old ++ (a ∷ [])
pushed_more rest old new last a was same is =
    let last_is : last ≡ step a last.count = ap (λ (x : Action). step x last.count) same in
    ap expanded is
    ∙ (expanded-more rest a last.count
    ∙ ap (λ (xs : List Step). expanded xs ++ (a ∷ []))
    (sym (was ∙ ap (λ (s : Step). rest ++ (s ∷ [])) last_is)))
