-- Texts joined one by one.
use Rattle.std.proofs.Common.{◌≡◌, ℕ, zero, suc, ◌+◌, ◌<◌, List, [], ◌∷◌, ◌++◌, length, take}
use Rattle.std.proofs.Common.{get_or, sym, ap, ◌∙◌, arith, append_assoc, add-one}
use Rattle.std.specs.List.{flat_map}
use Rattle.std.proofs.Math.Seq.{take-suc}
use Rattle.std.proofs.lemmas.Grind.{flat_map-append}
use Rattle.std.proofs.lemmas.List.{append-nil}
use Rattle.vortex_types.specs.Texts.{joined, separator_before}

joined_step : (sep : List ℕ) (texts : List (List ℕ)) (k : ℕ) (t : List ℕ) → k < length texts
    → t ≡ get_or texts k t
    → joined sep (take (suc k) texts) ≡ (joined sep (take k texts) ++ separator_before sep k) ++ t
joined_step sep [] k t h e = absurd (omega arith)
joined_step sep (x ∷ xs) zero t h e = append-nil x ∙ sym e
joined_step sep (x ∷ xs) (suc k) t h e =
    ap (λ (ys : List ℕ). x ++ ys) taken
    ∙ sym (append_assoc x (flat_map each (take k xs)) (sep ++ t))
    ∙ sym (append_assoc (x ++ flat_map each (take k xs)) sep t)
  where
    each : List ℕ → List ℕ
    each y = sep ++ y

    taken : flat_map each (take (suc k) xs) ≡ flat_map each (take k xs) ++ (sep ++ t)
    taken =
        ap (λ (ys : List (List ℕ)). flat_map each ys) (take-suc xs k t (omega arith))
        ∙ flat_map-append each (take k xs) (get_or xs k t ∷ [])
        ∙ ap (λ (ys : List ℕ). flat_map each (take k xs) ++ ys)
        (append-nil (sep ++ get_or xs k t) ∙ ap (λ (ys : List ℕ). sep ++ ys) (sym e))

-- one iteration of a loop that writes a separator and a text
pub joined_more : (sep : List ℕ) (texts : List (List ℕ)) (k : ℕ) (t old now more last : List ℕ)
    → k < length texts → t ≡ get_or texts k t → now ≡ old ++ joined sep (take k texts)
    → more ≡ now ++ separator_before sep k → last ≡ more ++ t
    → last ≡ old ++ joined sep (take (k + 1) texts)
joined_more sep texts k t old now more last h e a b c =
    c
    ∙ ap (λ (ys : List ℕ). ys ++ t)
    (b
    ∙ ap (λ (ys : List ℕ). ys ++ separator_before sep k) a
    ∙ append_assoc old (joined sep (take k texts)) (separator_before sep k))
    ∙ append_assoc old (joined sep (take k texts) ++ separator_before sep k) t
    ∙ ap (λ (ys : List ℕ). old ++ ys) (sym (joined_step sep texts k t h e))
    ∙ ap (λ (n : ℕ). old ++ joined sep (take n texts)) (sym (add-one k))
