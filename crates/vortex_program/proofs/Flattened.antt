-- Names of all elements.
use Rattle.std.proofs.Common.{◌≡◌, ◌++◌, List, [], ◌∷◌, refl, ap, map}
use Rattle.std.specs.List.{flat_map}

pub flat_of_map : {A B C : Type 0} (f : B → List C) (g : A → B) (xs : List A)
    → flat_map (λ x. f (g x)) xs ≡ flat_map f (map g xs)
flat_of_map f g [] = refl
flat_of_map f g (x ∷ xs) = ap (λ ys. f (g x) ++ ys) (flat_of_map f g xs)
