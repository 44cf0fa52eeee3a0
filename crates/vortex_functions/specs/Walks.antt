-- The results of a walk for a node's children, each paired with the child.
use Rattle.std.specs.Prelude.{◌≡◌, List, [], ◌∷◌, ⊤}

abbrev pub AllMean : {A P : Type 0} → (A → P → Type 0) → List A → List P → Type 0
AllMean means [] [] = ⊤
AllMean means (t ∷ ts) (o ∷ os) = means t o × AllMean means ts os
AllMean means [] (o ∷ os) = ⊥
AllMean means (t ∷ ts) [] = ⊥

abbrev pub IsCopy : {A : Type 0} → A → A → Type 0
IsCopy t copy = copy ≡ t
