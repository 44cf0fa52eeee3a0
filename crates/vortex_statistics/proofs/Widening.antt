-- One more row among the extremes.
use Rattle.std.proofs.Common.{◌≡◌, ◌<◌, ◌+◌, ℕ, Bool, true, false, refl, sym, subst}
use Rattle.std.proofs.Common.{if◌then◌else◌}
use Rattle.std.specs.Ordering.{is_gt}
use borrow.Author.Count.{below_more}
use Rattle.vortex_types.specs.Values.{Value}
use Rattle.vortex_types.specs.Order.{compare_values}
use Rattle.vortex_statistics.specs.StatisticsView.{is_at_most}
use Rattle.vortex_statistics.specs.Extremes.{AreExtremes, IsCounted, lower_row, higher_row}
use Rattle.vortex_statistics.proofs.ValueOrder.{at_most_trans, at_most_itself, at_most_above, le_of_gt}

-- the first k rows that count are on the right side of a row that counts
pub record IsLeast (n k : ℕ) (counts : ℕ → Bool) (value : ℕ → Value) (low : ℕ) : Type 0 where
  pub low_row : IsCounted n counts low
  pub above : (i : ℕ) → i < k → counts i ≡ true → is_at_most (value low) (value i) ≡ true

pub record IsGreatest (n k : ℕ) (counts : ℕ → Bool) (value : ℕ → Value) (high : ℕ) : Type 0 where
  pub high_row : IsCounted n counts high
  pub below : (i : ℕ) → i < k → counts i ≡ true → is_at_most (value i) (value high) ≡ true

lower_by : (n k : ℕ) (counts : ℕ → Bool) (value : ℕ → Value) (low : ℕ) (b : Bool)
    → is_gt (compare_values (value low) (value k)) ≡ b → IsCounted n counts k
    → IsLeast n k counts value low → IsLeast n (k + 1) counts value (if b then k else low)
lower_by n k counts value low true e c p =
    record {
      low_row = c;
      above =
          below_more (λ i. counts i ≡ true → is_at_most (value k) (value i) ≡ true) k
          (λ i lt h.
          at_most_trans (value k) (value low) (value i) (at_most_above (value low) (value k) e)
          (p.above i lt h))
          (λ h. at_most_itself (value k));
    }
lower_by n k counts value low false e c p =
    record {
      low_row = p.low_row;
      above =
          below_more (λ i. counts i ≡ true → is_at_most (value low) (value i) ≡ true) k p.above
          (λ h. le_of_gt (compare_values (value low) (value k)) e);
    }

higher_by : (n k : ℕ) (counts : ℕ → Bool) (value : ℕ → Value) (high : ℕ) (b : Bool)
    → is_gt (compare_values (value k) (value high)) ≡ b → IsCounted n counts k
    → IsGreatest n k counts value high → IsGreatest n (k + 1) counts value (if b then k else high)
higher_by n k counts value high true e c p =
    record {
      high_row = c;
      below =
          below_more (λ i. counts i ≡ true → is_at_most (value i) (value k) ≡ true) k
          (λ i lt h.
          at_most_trans (value i) (value high) (value k) (p.below i lt h)
          (at_most_above (value k) (value high) e))
          (λ h. at_most_itself (value k));
    }
higher_by n k counts value high false e c p =
    record {
      high_row = p.high_row;
      below =
          below_more (λ i. counts i ≡ true → is_at_most (value i) (value high) ≡ true) k p.below
          (λ h. le_of_gt (compare_values (value k) (value high)) e);
    }

pub widened : (n k : ℕ) (counts : ℕ → Bool) (value : ℕ → Value) (low high : ℕ)
    → IsCounted n counts k → AreExtremes n k counts value low high
    → AreExtremes n (k + 1) counts value (lower_row value low k) (higher_row value high k)
widened n k counts value low high c p =
    let low' : IsLeast n (k + 1) counts value (lower_row value low k) =
    lower_by n k counts value low _ refl c (record { low_row = p.low_row; above = p.above })
    in
    let high' : IsGreatest n (k + 1) counts value (higher_row value high k) =
    higher_by n k counts value high _ refl c (record { high_row = p.high_row; below = p.below })
    in
    record {
      low_row = low'.low_row;
      high_row = high'.high_row;
      above = low'.above;
      below = high'.below;
    }

-- a row that does not count
pub passed : (n k : ℕ) (counts : ℕ → Bool) (value : ℕ → Value) (low high : ℕ) → counts k ≡ false
    → AreExtremes n k counts value low high → AreExtremes n (k + 1) counts value low high
passed n k counts value low high e p =
    record {
      low_row = p.low_row;
      high_row = p.high_row;
      above =
          below_more (λ i. counts i ≡ true → is_at_most (value low) (value i) ≡ true) k p.above
          (λ h. cc);
      below =
          below_more (λ i. counts i ≡ true → is_at_most (value i) (value high) ≡ true) k p.below
          (λ h. cc);
    }

pub at_rows : (n k : ℕ) (counts : ℕ → Bool) (value : ℕ → Value) (low high low' high' : ℕ)
    → low' ≡ low → high' ≡ high → AreExtremes n k counts value low high
    → AreExtremes n k counts value low' high'
at_rows n k counts value low high low' high' e f p =
    subst (λ l. AreExtremes n k counts value l high') (sym e)
    (subst (λ h. AreExtremes n k counts value low h) (sym f) p)
