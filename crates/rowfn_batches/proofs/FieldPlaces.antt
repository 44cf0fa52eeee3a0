-- Where a field stands, and lists that are made element by element.
use Rattle.std.proofs.Common.{◌≡◌, ℕ, zero, suc, ◌+◌, ◌*◌, ◌/◌, ◌%◌, ◌<◌, ◌≤◌, List, [], ◌∷◌, ◌++◌}
use Rattle.std.proofs.Common.{map}
use Rattle.std.proofs.Common.{sym, subst, ◌∙◌, arith, length, mul_comm, lt_of_not-le}
use Rattle.std.specs.List.{range_with_len}
use Rattle.std.proofs.lemmas.List.{map-append}
use Rattle.std.proofs.lemmas.List.FromFn.{map-range_with_len_more}
use Rattle.std.proofs.lemmas.Nat.{div-add-mod'}
use Rattle.std.proofs.Math.Nat.{mul-le-mul_left, mod-lt}
use Rattle.std.proofs.Common.{get_or, Bor, Option, None}
use Rattle.std.proofs.lemmas.List.{get_or-map}
use Rattle.vortex_types.specs.LogicalTypes.{Fields, field_count}
pub use Rattle.vortex_cells.proofs.Apart.{place_within}
use Rattle.vortex_logical.specs.declared.kind.Kind.{Kind}
use Rattle.rowfn_batches.specs.Fields.{Field, field_in}
use Rattle.rowfn_batches.specs.Batches.{field_at, IsFirstMisfit, IsMisfit}

-- a field that is borrowed
pub field_is : (fs : List (Option (Bor (List ℕ)))) (k : ℕ) (d : Option (Bor (List ℕ)))
    → k < length fs → field_in (get_or fs k d) ≡ field_at (map field_in fs) k
field_is fs k d within = sym (get_or-map field_in fs k d None within)

-- the first of a row lies within the fields of the rows
pub row_within : (w n i j l : ℕ) → l ≡ w * n → i < n → j < w → i * w < l
row_within w n i j l even below within = omega (arith, place_within w n i j l even below within)

-- and so does each other field of a row of which there is one
pub place_beside : (w n i j k l : ℕ) → l ≡ w * n → i * w + j < l → k < w → i * w + k < l
place_beside w n i j k l even there within =
    let turned : i * w ≡ w * i = mul_comm i w in
    let row : i < n =
    lt_of_not-le (λ le. let up : w * n ≤ w * i = mul-le-mul_left w le in omega (arith, there)) in
    place_within w n i k l even row within

-- where there is a field there is a column
pub some_column : (w n k l : ℕ) → l ≡ w * n → k < l → 0 < w
some_column w n k l even below =
    let some : 0 < w * n = omega arith in pos_left w n some
  where
    pos_left : (w n : ℕ) → 0 < w * n → 0 < w
    pos_left zero n h = omega (arith, h)
    pos_left (suc w) n h = omega arith

-- a list that is made by a function of the place, and one element more
pub made_more : {A B : Type 0} (g : A → B) (f : ℕ → B) (xs : List A) (x : A) (i : ℕ)
    → map g xs ≡ map f (range_with_len 0 i) → g x ≡ f i
    → map g (xs ++ x ∷ []) ≡ map f (range_with_len 0 (i + 1))
made_more g f xs x i h e =
    map-append g xs (x ∷ [])
    ∙ (λ j. h j ++ e j ∷ [])
    ∙ sym (map-range_with_len_more f 0 i i (omega arith))

-- a row and a column of a place
pub misfit_there : (ds : Fields) (ks : List Kind) (fs : List Field) (k : ℕ) → 0 < field_count ds
    → IsFirstMisfit ds ks fs k → IsMisfit ds ks fs (k / field_count ds) (k % field_count ds)
misfit_there ds ks fs k some h =
    record {
      below = mod-lt k some;
      first = subst (IsFirstMisfit ds ks fs) (sym (div-add-mod' k (field_count ds))) h;
    }
