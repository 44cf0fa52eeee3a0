-- The item at an index of a call's inputs.
use Rattle.std.proofs.Common.{◌≡◌, ℕ, ◌<◌, List, length, map, All, get_or, subst, sym, ◌∙◌, ap}
use Rattle.std.proofs.Common.{arith}
use Rattle.std.proofs.lemmas.List.{get_or-map, length-map}
use Rattle.std.specs.Cow.{cow_value}
use Rattle.std.specs.declared.borrow.Cow.{Cow}
use Rattle.vortex_columns.specs.ColumnView.{ColumnView}

pub count_here : (xs : List (Cow ColumnView)) (n i : ℕ) (x : Cow ColumnView) (c : ColumnView)
    → All (λ d. length d.rows ≡ n) (map cow_value xs) → i < length xs → x ≡ get_or xs i x
    → c ≡ cow_value x → length c.rows ≡ n
count_here xs n i x c all h e q =
    let here : get_or (map cow_value xs) i c ≡ c =
    get_or-map cow_value xs i x c h ∙ ap cow_value (sym e) ∙ sym q in
    subst (λ (d : ColumnView). length d.rows ≡ n) here
    (all i c (omega (arith, length-map xs (cow_value {X = ColumnView}))))
