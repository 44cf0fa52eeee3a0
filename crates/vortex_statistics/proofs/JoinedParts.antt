-- Joined statistics do not contradict themselves.
use Rattle.std.proofs.Common.{◌≡◌, ◌+◌, ◌&&◌, ◌||◌, ℕ, Bool, true, false}
use Rattle.std.proofs.Common.{refl, sym, subst, arith, if◌then◌else◌}
use Rattle.std.specs.Prelude.{Option, Some, None, IfSome, nat_lt, nat_le, nat_eq}
use Rattle.std.specs.declared.cmp.Ordering.{Ordering}
use Rattle.std.specs.declared.cmp.Ordering.TheVariants.{Less, Equal, Greater}
use Rattle.std.proofs.lemmas.Bool.Decides.{nat_tests}
use Rattle.vortex_types.specs.LogicalTypes.{LogicalType, is_nullable}
use Rattle.vortex_types.specs.Order.{compare_values}
use Rattle.vortex_statistics.specs.StatisticsView.{EndView, StatisticsView, is_at_most}
use Rattle.vortex_statistics.specs.StatisticsView.{is_all_null, counts_agree, are_in_order}
use Rattle.vortex_statistics.specs.StatisticsView.{is_attained, IsEndOf, AreConsistent}
use Rattle.vortex_statistics.specs.Joined.{sum_of, lower_by, lower_end, higher_end}
use Rattle.vortex_statistics.specs.Joined.{joined_end, joined}
use Rattle.vortex_statistics.proofs.ValueOrder.{at_most_trans, at_most_itself, at_most_greater}

-- counts
no_rows : (n : Bool) (m k : ℕ) → ((n || nat_eq k 0) && nat_le k m) ≡ true → (n || nat_eq k 0) ≡ true
no_rows n m k h = grind (arith, nat_tests)

summed_nulls : (n : Bool) (j k : ℕ) → (n || nat_eq j 0) ≡ true → (n || nat_eq k 0) ≡ true
    → (n || nat_eq (j + k) 0) ≡ true
summed_nulls true j k p q = refl
summed_nulls false j k p q = grind (arith, nat_tests)

within_rows : (n : Bool) (x y j k : ℕ) → ((n || nat_eq j 0) && nat_le j x) ≡ true
    → ((n || nat_eq k 0) && nat_le k y) ≡ true
    → ((n || nat_eq (j + k) 0) && nat_le (j + k) (x + y)) ≡ true
within_rows true x y j k p q = grind (arith, nat_tests)
within_rows false x y j k p q = grind (arith, nat_tests)

some_rows : (t n : Bool) (m k : ℕ) → ((n || nat_eq k 0) && nat_le k m) ≡ true
    → counts_agree n (if t then Some m else None) (Some k) ≡ true
some_rows true n m k h = h
some_rows false n m k h = no_rows n m k h

some_nulls : (t n : Bool) (rows : Option ℕ) (k : ℕ) → counts_agree n rows (Some k) ≡ true
    → counts_agree n rows (if t then Some k else None) ≡ true
some_nulls true n rows k h = h
some_nulls false n rows k h = refl

counted : (n : Bool) (rows : Option ℕ) (k : ℕ) → counts_agree n rows (Some k) ≡ true
    → (n || nat_eq k 0) ≡ true
counted n None k h = h
counted n (Some m) k h = no_rows n m k h

counts_under : (n : Bool) (x y : Option ℕ) (j k : ℕ) → counts_agree n x (Some j) ≡ true
    → counts_agree n y (Some k) ≡ true → counts_agree n (sum_of x y) (Some (j + k)) ≡ true
counts_under n (Some x) (Some y) j k p q =
    some_rows (nat_lt (x + y) 18446744073709551616) n (x + y) (j + k) (within_rows n x y j k p q)
counts_under n (Some x) None j k p q =
    summed_nulls n j k (counted n (Some x) j p) (counted n None k q)
counts_under n None y j k p q = summed_nulls n j k (counted n None j p) (counted n y k q)

counts_joined : (n : Bool) (x y j k : Option ℕ) → counts_agree n x j ≡ true
    → counts_agree n y k ≡ true → counts_agree n (sum_of x y) (sum_of j k) ≡ true
counts_joined n x y (Some j) (Some k) p q =
    some_nulls (nat_lt (j + k) 18446744073709551616) n (sum_of x y) (j + k)
    (counts_under n x y j k p q)
counts_joined n x y (Some j) None p q = refl
counts_joined n x y None k p q = refl

-- a sum of rows that are all null is one of two such counts
both_equal : (n : Bool) (x y j k : ℕ) → ((n || nat_eq j 0) && nat_le j x) ≡ true
    → ((n || nat_eq k 0) && nat_le k y) ≡ true → nat_eq (x + y) (j + k) ≡ true
    → (nat_eq x j ≡ true) × (nat_eq y k ≡ true)
both_equal true x y j k p q h = (grind (arith, nat_tests), grind (arith, nat_tests))
both_equal false x y j k p q h = (grind (arith, nat_tests), grind (arith, nat_tests))

both_zero : (x y : ℕ) → nat_eq (x + y) 0 ≡ true → (nat_eq x 0 ≡ true) × (nat_eq y 0 ≡ true)
both_zero x y h = (grind (arith, nat_tests), grind (arith, nat_tests))

-- where there are no rows, whatever the nulls
empty : (n : Bool) (x : ℕ) (k : Option ℕ) → counts_agree n (Some x) k ≡ true → nat_eq x 0 ≡ true
    → is_all_null (Some x) k ≡ true
empty n x None p h = h
empty true x (Some k) p h = grind (arith, nat_tests)
empty false x (Some k) p h = grind (arith, nat_tests)

pub record BothNull (x y j k : Option ℕ) : Type 0 where
  pub left : is_all_null x j ≡ true
  pub right : is_all_null y k ≡ true

emptied : (n : Bool) (x y : ℕ) (j k : Option ℕ) → counts_agree n (Some x) j ≡ true
    → counts_agree n (Some y) k ≡ true → nat_eq (x + y) 0 ≡ true
    → BothNull (Some x) (Some y) j k
emptied n x y j k p q h =
    record {
      left = empty n x j p (both_zero x y h).0;
      right = empty n y k q (both_zero x y h).1;
    }

null_under : (t n : Bool) (x y j k : ℕ) → counts_agree n (Some x) (Some j) ≡ true
    → counts_agree n (Some y) (Some k) ≡ true
    → is_all_null (Some (x + y)) (if t then Some (j + k) else None) ≡ true
    → BothNull (Some x) (Some y) (Some j) (Some k)
null_under true n x y j k p q h =
    record { left = (both_equal n x y j k p q h).0; right = (both_equal n x y j k p q h).1 }
null_under false n x y j k p q h = emptied n x y (Some j) (Some k) p q h

null_rows : (t n : Bool) (x y : ℕ) (j k : Option ℕ) → counts_agree n (Some x) j ≡ true
    → counts_agree n (Some y) k ≡ true
    → is_all_null (if t then Some (x + y) else None) (sum_of j k) ≡ true
    → BothNull (Some x) (Some y) j k
null_rows false n x y j k p q h = cc
null_rows true n x y (Some j) (Some k) p q h =
    null_under (nat_lt (j + k) 18446744073709551616) n x y j k p q h
null_rows true n x y (Some j) None p q h = emptied n x y (Some j) None p q h
null_rows true n x y None k p q h = emptied n x y None k p q h

null_joined : (n : Bool) (x y j k : Option ℕ) → counts_agree n x j ≡ true
    → counts_agree n y k ≡ true → is_all_null (sum_of x y) (sum_of j k) ≡ true
    → BothNull x y j k
null_joined n (Some x) (Some y) j k p q h =
    null_rows (nat_lt (x + y) 18446744073709551616) n x y j k p q h
null_joined n (Some x) None j k p q h = cc
null_joined n None y j k p q h = cc

-- ends
typed_by : (t : LogicalType) (o : Ordering) (a b : EndView) → IsEndOf t a → IsEndOf t b
    → IsEndOf t (lower_by o a b)
typed_by t Less a b p q = p
typed_by t Equal a b p q = record { valid = p.valid; typed = p.typed }
typed_by t Greater a b p q = q

pub record KeepsType (f : EndView → EndView → EndView) : Type 0 where
  pub typed : (t : LogicalType) (a b : EndView) → IsEndOf t a → IsEndOf t b → IsEndOf t (f a b)

low_keeps : KeepsType lower_end
low_keeps = record { typed = λ t a b. typed_by t (compare_values a.value b.value) a b }

high_keeps : KeepsType higher_end
high_keeps = record { typed = λ t a b. typed_by t (compare_values b.value a.value) a b }

end_typed : (f : EndView → EndView → EndView) (t : LogicalType) (m n : Bool) (a b : Option EndView)
    → KeepsType f → IfSome a (IsEndOf t) → IfSome b (IsEndOf t)
    → IfSome (joined_end f m n a b) (IsEndOf t)
end_typed f t true n a b k p q = q
end_typed f t false true a b k p q = p
end_typed f t false false None b k p q = tt
end_typed f t false false (Some a) None k p q = tt
end_typed f t false false (Some a) (Some b) k p q = k.typed t a b p q

lower_by_first : (o : Ordering) (a b : EndView) → compare_values a.value b.value ≡ o
    → is_at_most (lower_by o a b).value a.value ≡ true
lower_by_first Less a b e = at_most_itself a.value
lower_by_first Equal a b e = at_most_itself a.value
lower_by_first Greater a b e = at_most_greater a.value b.value e

higher_by_first : (o : Ordering) (a b : EndView) → compare_values b.value a.value ≡ o
    → is_at_most a.value (lower_by o a b).value ≡ true
higher_by_first Less a b e = at_most_itself a.value
higher_by_first Equal a b e = at_most_itself a.value
higher_by_first Greater a b e = at_most_greater b.value a.value e

ordered_both : (a b c d : EndView) → is_at_most a.value c.value ≡ true
    → is_at_most (lower_end a b).value (higher_end c d).value ≡ true
ordered_both a b c d h =
    at_most_trans (lower_end a b).value a.value (higher_end c d).value
    (lower_by_first (compare_values a.value b.value) a b refl)
    (at_most_trans a.value c.value (higher_end c d).value h
    (higher_by_first (compare_values d.value c.value) c d refl))

no_high : (low : Option EndView) → are_in_order low None ≡ true
no_high None = refl
no_high (Some e) = refl

ends_ordered : (m n : Bool) (a b c d : Option EndView) → are_in_order a c ≡ true
    → are_in_order b d ≡ true
    → are_in_order (joined_end lower_end m n a b) (joined_end higher_end m n c d) ≡ true
ends_ordered true n a b c d p q = q
ends_ordered false true a b c d p q = p
ends_ordered false false None b c d p q = refl
ends_ordered false false (Some a) None c d p q = refl
ends_ordered false false (Some a) (Some b) None d p q = refl
ends_ordered false false (Some a) (Some b) (Some c) None p q = refl
ends_ordered false false (Some a) (Some b) (Some c) (Some d) p q = ordered_both a b c d p

not_both : (x y : Bool) → (y ≡ true → x ≡ false) → (x && y) ≡ false
not_both true true h = h refl
not_both true false h = refl
not_both false y h = refl

one_not : (x y : Bool) → (x && y) ≡ false → y ≡ true → x ≡ false
one_not true true h e = h
one_not true false h e = cc
one_not false y h e = refl

-- of columns whose rows are all null, the ends of the second
attained_by : (m n : Bool) (a b c d : Option EndView) → m ≡ true
    → (is_attained b || is_attained d) ≡ false
    → (is_attained (joined_end lower_end m n a b) || is_attained (joined_end higher_end m n c d))
    ≡ false
attained_by true n a b c d e h = h
attained_by false n a b c d e h = cc

pub joined_consistent : (a b : StatisticsView) → a.dtype ≡ b.dtype → AreConsistent a
    → AreConsistent b → AreConsistent (joined a b)
joined_consistent a b same p q =
    let m = is_all_null a.rows a.nulls in
    let n = is_all_null b.rows b.nulls in
    let right : counts_agree (is_nullable a.dtype) b.rows b.nulls ≡ true =
    subst (λ t. counts_agree (is_nullable t) b.rows b.nulls ≡ true) (sym same) q.counts
    in
    record {
      counts =
          counts_joined (is_nullable a.dtype) a.rows b.rows a.nulls b.nulls p.counts right;
      low =
          end_typed lower_end a.dtype m n a.low b.low low_keeps p.low
          (subst (λ t. IfSome b.low (IsEndOf t)) (sym same) q.low);
      high =
          end_typed higher_end a.dtype m n a.high b.high high_keeps p.high
          (subst (λ t. IfSome b.high (IsEndOf t)) (sym same) q.high);
      ordered = ends_ordered m n a.low b.low a.high b.high p.ordered q.ordered;
      attained =
          not_both _ (is_all_null (sum_of a.rows b.rows) (sum_of a.nulls b.nulls))
          (λ h.
          let null =
          null_joined (is_nullable a.dtype) a.rows b.rows a.nulls b.nulls p.counts right h
          in
          attained_by m n a.low b.low a.high b.high null.left (one_not _ n q.attained null.right));
    }
