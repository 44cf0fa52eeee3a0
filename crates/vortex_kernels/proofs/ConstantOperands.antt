-- Rows calculated with a constant.
use Rattle.std.proofs.Common.{◌≡◌, ◌∙◌, ℕ, ℤ, pos, ◌<◌, List, length, map, get_or, sym, ap}
use Rattle.std.specs.Prelude.{slice_index_or}
use Rattle.std.proofs.lemmas.List.{get_or-map}

-- the number of what is read from a list
pub number_read : {A : Type 0} (f : A → ℤ) (xs : List A) (i : ℕ) (x : A) → i < length xs
    → x ≡ get_or xs i x → f x ≡ slice_index_or (map f xs) i (pos 0)
number_read f xs i x lt is = ap f is ∙ sym (get_or-map f xs i x (pos 0) lt)
