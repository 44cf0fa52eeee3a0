-- Columns that are gathered one by one.
use Rattle.std.proofs.Common.{◌≡◌, ℕ, Bool, true, List, [], ◌∷◌, map, None, refl, ap}
use Rattle.std.proofs.Common.{if◌then◌else◌, is_some, ◌||◌}
use Rattle.std.specs.List.{list_any}
use Rattle.vortex_types.specs.LogicalTypes.{find_field}
use Rattle.rowfn_queries.specs.ColumnTypes.{KindedType}
use Rattle.rowfn_queries.specs.Columns.{Columns, with_new, with_last}

-- where a column has a name, none is added; else it comes behind the others
pub new_found : (cs : Columns) (name : List ℕ) (t : KindedType)
    → is_some (find_field name cs.fields) ≡ true → with_new cs name t ≡ cs
new_found cs name t h = ap (λ b. if b then cs else with_last cs name t) h

pub new_added : (cs : Columns) (name : List ℕ) (t : KindedType) → find_field name cs.fields ≡ None
    → with_new cs name t ≡ with_last cs name t
new_added cs name t h = ap (λ o. if is_some o then cs else with_last cs name t) h

-- whether some name is among those
pub any_map : {A B : Type 0} (p : B → Bool) (f : A → B) (xs : List A)
    → list_any (λ x. p (f x)) xs ≡ list_any p (map f xs)
any_map p f [] = refl
any_map p f (x ∷ xs) = ap (λ b. p (f x) || b) (any_map p f xs)
