-- The position of the cell of a row and a column.
use Rattle.std.proofs.Common.{◌≡◌, ◌∙◌, ℕ, suc, ◌+◌, ◌*◌, ◌<◌, ◌≤◌, Bor, Option, None, List, map, length}
use Rattle.std.proofs.Common.{get_or, ap, arith}
use Rattle.std.proofs.Math.Nat.{mul-le-mul_left}
use Rattle.std.specs.List.{range_with_len}
use Rattle.std.proofs.lemmas.List.{get_or-map}
use Rattle.std.proofs.lemmas.List.FromFn.{get_or-range_with_len}
use Rattle.vortex_cells.specs.Cells.{cell_in, cell_apart}

-- a position in a row is within the cells of the rows
pub place_within : (w n i j l : ℕ) → l ≡ w * n → i < n → j < w → i * w + j < l
place_within w n i j l even below within =
    let row : w * suc i ≤ w * n = mul-le-mul_left w (omega arith) in
    omega (arith, row)

-- the cell of a row is the one that is read there
pub cell_there : (cs : List (Option (Bor (List ℕ)))) (w n i j : ℕ) (d : Option (Bor (List ℕ)))
    → length cs ≡ w * n → i < n → j < w
    → cell_apart (map cell_in cs) w j (get_or (range_with_len 0 n) i 0)
    ≡ cell_in (get_or cs (i * w + j) d)
cell_there cs w n i j d even below within =
    let plain : 0 + i ≡ i = omega arith in
    ap (cell_apart (map cell_in cs) w j) (get_or-range_with_len 0 n i 0 below ∙ plain)
    ∙ get_or-map cell_in cs (i * w + j) d None (place_within w n i j (length cs) even below within)
