-- Texts that are added one after the other.
use Rattle.std.proofs.Common.{◌≡◌, ◌∙◌, ◌++◌, ◌∷◌, [], ℕ, List, Result, Ok, Err, ap, append_assoc}
use Rattle.std.proofs.Common.{is_ok, if◌then◌else◌}
use Rattle.std.specs.Prelude.{OnOk, codes, decimal}
use Rattle.rowfn_batches.specs.Explaining.{tree_head, weight_end}

-- one text after two
two : (a b c x y : List ℕ) → b ≡ a ++ x → c ≡ b ++ y → c ≡ a ++ (x ++ y)
two a b c x y first second =
    second ∙ ap (λ t. t ++ y) first ∙ append_assoc a x y

-- a tree's head is added text by text
pub head_added : {E : Type 0} (r : Result (Unit {0}) E)
    (o a b c d e f g title words printed : List ℕ) → a ≡ o ++ codes "  " → b ≡ a ++ title
    → c ≡ b ++ codes ": " → d ≡ c ++ words → e ≡ d ++ (10 ∷ codes "    printed ")
    → f ≡ e ++ printed
    → g ≡ (if is_ok r then f ++ (10 ∷ codes "    type ") else f)
    → OnOk r (g ≡ o ++ tree_head title words printed)
head_added (Err x) o a b c d e f g title words printed p q s t u v w = tt
head_added (Ok x) o a b c d e f g title words printed p q s t u v w =
    two o a g _ _ p (two a b g _ _ q (two b c g _ _ s (two c d g _ _ t (two d e g _ _ u
    (two e f g _ _ v w)))))

pub weight_added : {E : Type 0} (r : Result (Unit {0}) E) (o a b c number : List ℕ) (weight : ℕ)
    → a ≡ o ++ codes ", weight " → b ≡ a ++ number → number ≡ decimal weight
    → c ≡ (if is_ok r then b ++ (10 ∷ []) else b)
    → OnOk r (c ≡ o ++ weight_end weight)
weight_added (Err x) o a b c number weight p q is s = tt
weight_added (Ok x) o a b c number weight p q is s =
    two o a c _ _ p (two a b c _ _ (q ∙ ap (λ n. a ++ n) is) s)

-- three texts
pub three : (o a b c x y z : List ℕ) → a ≡ o ++ x → b ≡ a ++ y → c ≡ b ++ z
    → c ≡ o ++ (x ++ (y ++ z))
three o a b c x y z p q s = two o a c x (y ++ z) p (two a b c y z q s)

pub twice : (a b c x y : List ℕ) → b ≡ a ++ x → c ≡ b ++ y → c ≡ a ++ (x ++ y)
twice a b c x y first second = two a b c x y first second
