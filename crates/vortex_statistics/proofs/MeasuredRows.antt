-- The statistics of a column describe its rows, and do not contradict themselves.
use Rattle.std.proofs.Common.{◌≡◌, ◌<◌, ◌≤◌, ◌&&◌, ◌||◌, ℕ, Bool, true, false, not, List, refl, ap, sym}
use Rattle.std.proofs.Common.{subst, length, arith}
use Rattle.std.specs.Prelude.{Option, Some, None, IfSome, count_by, nat_eq, nat_le}
use Rattle.std.specs.Prelude.{slice_index_or}
use Rattle.std.proofs.lemmas.List.{get_or_default}
use Rattle.std.proofs.lemmas.List.Sums.{count_by-le-length}
use Rattle.std.proofs.lemmas.Bool.Decides.{nat_tests}
use Rattle.vortex_types.specs.LogicalTypes.{LogicalType, is_nullable}
use Rattle.vortex_types.specs.Values.{Value, null, is_null}
use Rattle.vortex_types.proofs.NullValues.{not_null}
use Rattle.vortex_columns.specs.ColumnView.{ColumnView, row, AreTyped}
use Rattle.vortex_statistics.specs.StatisticsView.{EndView, IsEndOf, AreConsistent}
use Rattle.vortex_statistics.specs.StatisticsView.{is_at_most, is_attained}
use Rattle.vortex_statistics.specs.StatisticsView.{counts_agree, is_all_null}
use Rattle.vortex_statistics.specs.Describes.{Describes, is_bounded, IsLowEnd}
use Rattle.vortex_statistics.specs.Describes.{IsHighEnd}
use Rattle.vortex_statistics.specs.Extremes.{AreExtremeRows}
use Rattle.vortex_statistics.specs.Measured.{HasValues, IsTold, Measures, AreEndsOf, end_at, measured}
use Rattle.vortex_statistics.proofs.AllNull.{AreNull, counted}
use Rattle.vortex_statistics.proofs.Counting.{none_null}

-- the default of a read within the list does not matter
same_there : (vs : List Value) (k : ℕ) (d : Value) → k < length vs
    → slice_index_or vs k d ≡ row vs k
same_there vs k d lt = get_or_default vs k d null lt

not_null_by : (b : Bool) → not b ≡ true → b ≡ false
not_null_by true h = cc
not_null_by false h = refl

left_of : (a b : Bool) → (a && b) ≡ true → a ≡ true
left_of true b h = refl
left_of false b h = h

least_end : (c : ColumnView) (i j : ℕ) → AreExtremeRows c.rows i j
    → IsLowEnd false c.rows (end_at c i)
least_end c i j x =
    record {
      outermost = λ k d lt h.
          let there = same_there c.rows k d lt in
          let bounded : is_bounded false (row c.rows k) ≡ true =
          subst (λ v. is_bounded false v ≡ true) there h
          in
          subst (λ v. is_at_most (row c.rows i) v ≡ true) (sym there)
          (x.above k lt (left_of _ true bounded));
      found = λ h. (i, x.low_row.within, same_there c.rows i (row c.rows i) x.low_row.within);
    }

greatest_end : (c : ColumnView) (i j : ℕ) → AreExtremeRows c.rows i j
    → IsHighEnd false c.rows (end_at c j)
greatest_end c i j x =
    record {
      outermost = λ k d lt h.
          let there = same_there c.rows k d lt in
          let bounded : is_bounded false (row c.rows k) ≡ true =
          subst (λ v. is_bounded false v ≡ true) there h
          in
          subst (λ v. is_at_most v (row c.rows j) ≡ true) (sym there)
          (x.below k lt (left_of _ true bounded));
      found = λ h. (j, x.high_row.within, same_there c.rows j (row c.rows j) x.high_row.within);
    }

pub found_ends : (c : ColumnView) (i j : ℕ) → AreTyped c.dtype c.rows → HasValues c
    → AreExtremeRows c.rows i j → AreEndsOf c (Some (end_at c i)) (Some (end_at c j))
found_ends c i j typed has x =
    record {
      low_told = (has, refl);
      high_told = (has, refl);
      low_end = (
        record {
          valid = not_null_by _ x.low_row.counted;
          typed = typed i null x.low_row.within;
        },
        least_end c i j x,
      );
      high_end = (
        record {
          valid = not_null_by _ x.high_row.counted;
          typed = typed j null x.high_row.within;
        },
        greatest_end c i j x,
      );
      ordered = x.below i x.low_row.within x.low_row.counted;
    }

pub no_ends : (c : ColumnView) → ¬ HasValues c → AreEndsOf c None None
no_ends c none =
    record { low_told = none; high_told = none; low_end = tt; high_end = tt; ordered = refl }

nulls_by : (b : Bool) (k : ℕ) → (b ≡ false → 0 ≡ k) → (b || nat_eq k 0) ≡ true
nulls_by true k h = refl
nulls_by false k h = subst (λ n. nat_eq n 0 ≡ true) (h refl) refl

both_by : (a : Bool) (k n : ℕ) → a ≡ true → k ≤ n → (a && nat_le k n) ≡ true
both_by true k n e le = grind (arith, nat_tests)
both_by false k n e le = cc

measured_counts : (c : ColumnView) → AreTyped c.dtype c.rows
    → counts_agree (is_nullable c.dtype) (Some (length c.rows)) (Some (count_by is_null c.rows))
    ≡ true
measured_counts c typed =
    both_by _ (count_by is_null c.rows) (length c.rows)
    (nulls_by (is_nullable c.dtype) (count_by is_null c.rows)
    (λ e.
    none_null c.rows
    (λ i lt. sym (ap not (not_null c.dtype (row c.rows i) (typed i null lt) e)))))
    (count_by-le-length is_null c.rows)

-- an end is known only where a row is not null
told_none : (c : ColumnView) (e : Option EndView) → IsTold c e → AreNull c.rows
    → is_attained e ≡ false
told_none c None t n = refl
told_none c (Some e) t n =
    let (i, lt, valid) = t.0.value in
    absurd (unlike (is_null (row c.rows i)) valid (n.each i null lt))
  where
    unlike : (b : Bool) → b ≡ false → b ≡ true → ⊥
    unlike b h k = cc

neither : (a b : Bool) → a ≡ false → b ≡ false → (a || b) ≡ false
neither a b e f = (λ i. e i || f i)

not_both : (x y : Bool) → (y ≡ true → x ≡ false) → (x && y) ≡ false
not_both true true h = h refl
not_both true false h = refl
not_both false y h = refl

parts_of : (t : LogicalType) (P : EndView → Type 0) (e : Option EndView)
    → IfSome e (λ e. IsEndOf t e × P e) → IfSome e (IsEndOf t) × IfSome e P
parts_of t P None h = (tt, tt)
parts_of t P (Some e) h = h

pub measured_consistent : (c : ColumnView) (low high : Option EndView) → AreTyped c.dtype c.rows
    → AreEndsOf c low high → AreConsistent (measured c low high)
measured_consistent c low high typed e =
    record {
      counts = measured_counts c typed;
      low = (parts_of c.dtype (IsLowEnd false c.rows) low e.low_end).0;
      high = (parts_of c.dtype (IsHighEnd false c.rows) high e.high_end).0;
      ordered = e.ordered;
      attained =
          not_both _ (is_all_null (Some (length c.rows)) (Some (count_by is_null c.rows)))
          (λ h.
          let nulls =
          counted (Some (length c.rows)) (Some (count_by is_null c.rows)) c.rows h refl refl
          in
          neither _ _ (told_none c low e.low_told nulls) (told_none c high e.high_told nulls));
    }

pub measured_describes : (c : ColumnView) (low high : Option EndView) → AreTyped c.dtype c.rows
    → AreEndsOf c low high → Describes (measured c low high) c.rows
measured_describes c low high typed e =
    record {
      typed = typed;
      rows = refl;
      nulls = refl;
      low = (parts_of c.dtype (IsLowEnd false c.rows) low e.low_end).1;
      high = (parts_of c.dtype (IsHighEnd false c.rows) high e.high_end).1;
    }

pub measures : (c : ColumnView) (low high : Option EndView) → AreEndsOf c low high
    → Measures c (measured c low high)
measures c low high e =
    record {
      dtype = refl;
      rows = refl;
      nulls = refl;
      low = e.low_told;
      high = e.high_told;
      skips_nan = refl;
    }

pub ends_at : (c : ColumnView) (i j : ℕ) (l h : Option EndView) → AreTyped c.dtype c.rows
    → HasValues c → AreExtremeRows c.rows i j → l ≡ Some (end_at c i) → h ≡ Some (end_at c j)
    → AreEndsOf c l h
ends_at c i j l h typed has x e f =
    subst (λ k. AreEndsOf c k h) (sym e)
    (subst (λ k. AreEndsOf c (Some (end_at c i)) k) (sym f) (found_ends c i j typed has x))
