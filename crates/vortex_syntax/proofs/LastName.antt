-- A bare name as the last step.
use Rattle.std.proofs.Common.{◌≡◌, ℕ, List, [], ◌∷◌, ◌++◌, Some, ap, ◌∙◌}
use Rattle.std.proofs.lemmas.List.{reverse-append, reverse-reverse}
use Rattle.vortex_syntax.specs.Tokens.{name}
use Rattle.vortex_syntax.specs.Postfix.{Step, operand, last_name, name_back}

pub name_last : (xs : List Step) (w : List ℕ)
    → last_name (xs ++ (operand (name w) ∷ [])) ≡ Some (xs, w)
unfolding last_name
name_last xs w = ap name_back (reverse-append xs (operand (name w) ∷ []))
    ∙ ap (λ ys. Some (ys, w)) (reverse-reverse xs)
