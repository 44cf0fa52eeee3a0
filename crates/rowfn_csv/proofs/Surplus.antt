-- The fields of a record past a width.
use Rattle.std.proofs.Common.{◌≡◌, ◌||◌, Bool, true, false, ℕ, zero, suc, List, [], ◌∷◌, ◌+◌}
use Rattle.std.proofs.Common.{Option, refl, sym, ap, ◌∙◌, length, ◌≤◌, add-one, arith}
use Rattle.std.specs.Option.{option_map_or}
use Rattle.csv.specs.Records.{field_at}
use Rattle.rowfn_csv.specs.Records.{is_filled, has_surplus}

-- the field at a place, and those past it
pub surplus_at : (texts : List (List ℕ)) (i : ℕ)
    → has_surplus texts i
    ≡ (option_map_or is_filled (field_at texts i) false || has_surplus texts (suc i))
unfolding field_at
surplus_at [] zero = refl
surplus_at [] (suc i) = refl
surplus_at (x ∷ xs) zero = refl
surplus_at (x ∷ xs) (suc i) = surplus_at xs i

-- no field is past the end
pub none_past : (texts : List (List ℕ)) (i : ℕ) → length texts ≤ i → has_surplus texts i ≡ false
none_past [] zero h = refl
none_past [] (suc i) h = refl
none_past (x ∷ xs) zero h = absurd (omega arith)
none_past (x ∷ xs) (suc i) h = none_past xs i (omega arith)

module _ (texts : List (List ℕ)) (i : ℕ) (field : Option (List ℕ)) (here : field ≡ field_at texts i)
    (filled : Bool) (is : filled ≡ option_map_or is_filled field false)
  where
    rest : has_surplus texts i ≡ (filled || has_surplus texts (suc i))
    rest =
        surplus_at texts i
        ∙ ap (λ (b : Bool). b || has_surplus texts (suc i))
        (sym (is ∙ ap (λ (o : Option (List ℕ)). option_map_or is_filled o false) here))

    -- a field that is not empty, and one that is
    pub filled_at : filled ≡ true → has_surplus texts i ≡ true
    filled_at e = rest ∙ ap (λ (b : Bool). b || has_surplus texts (suc i)) e

    pub empty_at : filled ≡ false → has_surplus texts (i + 1) ≡ has_surplus texts i
    empty_at e =
        ap (has_surplus texts) (add-one i)
        ∙ sym (rest ∙ ap (λ (b : Bool). b || has_surplus texts (suc i)) e)
