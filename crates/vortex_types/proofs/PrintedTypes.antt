-- A text that is written in three pieces.
use Rattle.std.proofs.Common.{◌≡◌, ℕ, List, ◌++◌, ap, ◌∙◌, append_assoc}

pub three_pieces : (a b c d x y z : List ℕ) → b ≡ a ++ x → c ≡ b ++ y → d ≡ c ++ z
    → d ≡ a ++ (x ++ y ++ z)
three_pieces a b c d x y z e f g =
    g
    ∙ ap (λ (w : List ℕ). w ++ z) (f ∙ ap (λ (w : List ℕ). w ++ y) e ∙ append_assoc a x y)
    ∙ append_assoc a (x ++ y) z
