-- How many rows are tried where parts of a batch are.
use Rattle.std.proofs.Common.{◌≡◌, ℕ, ◌+◌, ◌*◌, ◌-◌, ◌<◌, ◌≤◌, ◌^◌, arith, min, Option, Some, None}
use Rattle.rowfn_batches.specs.Parts.{next_row, next_count}

-- each part leads on
pub leads_on : (len next tried : ℕ) (place : Option ℕ) → next < len → len < 2 ^ 64 → 0 < tried
    → len - next_row len next tried place < len - next
leads_on len next tried None below fits some = omega arith
leads_on len next tried (Some place) below fits some = omega arith

-- rows from one on were tried, up to another: no more than twice as many, and as many more may be
pub record IsSpent (len first next count total : ℕ) : Type 0 where
  pub some : 0 < count
  pub most : total ≤ 2 * (min next len - first)
  pub left : next < len → total + count ≤ 2 * (next - first) + 1

-- one part more is
pub spent_more : (len first next count tried total : ℕ) (place : Option ℕ) → first ≤ next
    → next < len → len < 2 ^ 63 → tried ≡ min (len - next) count
    → IsSpent len first next count total
    → IsSpent len first (next_row len next tried place) (next_count count place) (total + tried)
spent_more len first next count tried total None behind below fits is spent = record {
  some = omega (arith, spent.some);
  most = omega (arith, spent.some, spent.left below);
  left = λ more. omega (arith, spent.some, spent.left below);
}
spent_more len first next count tried total (Some place) behind below fits is spent = record {
  some = omega arith;
  most = omega (arith, spent.some, spent.left below);
  left = λ more. omega (arith, spent.some, spent.left below);
}

pub behind_more : (len first next tried : ℕ) (place : Option ℕ) → first ≤ next → next < len
    → len < 2 ^ 63 → first ≤ next_row len next tried place
behind_more len first next tried None behind below fits = omega arith
behind_more len first next tried (Some place) behind below fits = omega arith
