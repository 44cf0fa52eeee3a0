-- Joined statistics describe the rows of both columns.
use Rattle.std.proofs.Common.{◌≡◌, ◌+◌, ◌++◌, ◌&&◌, ◌||◌, ℕ, Bool, true, false, not, List}
use Rattle.std.proofs.Common.{refl, ap, sym, subst, length, arith, if◌then◌else◌}
use Rattle.std.specs.Prelude.{Option, Some, None, IfSome, Contains, count_by, nat_lt}
use Rattle.std.specs.Prelude.{slice_index_or}
use Rattle.std.specs.declared.cmp.Ordering.{Ordering}
use Rattle.std.specs.declared.cmp.Ordering.TheVariants.{Less, Equal, Greater}
use Rattle.std.specs.Ordering.{is_le}
use Rattle.std.proofs.lemmas.List.{length-append}
use Rattle.std.proofs.lemmas.List.Elements.{All-append, Contains-append_left}
use Rattle.std.proofs.lemmas.List.Elements.{Contains-append_right}
use Rattle.std.proofs.lemmas.List.Sums.{sum_by-append}
use Rattle.vortex_types.specs.Values.{Value, is_null}
use Rattle.vortex_types.specs.Typing.{HasType}
use Rattle.vortex_types.specs.Order.{compare_values}
use Rattle.vortex_types.specs.OrderLaws.{equals_are_same}
use Rattle.vortex_columns.specs.ColumnView.{AreTyped}
use Rattle.vortex_statistics.specs.StatisticsView.{EndView, StatisticsView, is_at_most}
use Rattle.vortex_statistics.specs.StatisticsView.{is_all_null}
use Rattle.vortex_statistics.specs.Describes.{is_nan, is_at_least, AreBehind, IsBehind}
use Rattle.vortex_statistics.specs.Describes.{IsEnd}
use Rattle.vortex_statistics.specs.Joined.{sum_of, lower_by, lower_end, higher_end}
use Rattle.vortex_statistics.specs.Joined.{joined_end, joined, DescribesBoth}
use Rattle.vortex_statistics.proofs.ValueOrder.{at_most_trans, at_most_greater}
use Rattle.vortex_statistics.proofs.AllNull.{AreNull, all_null, nulls_behind}

-- ends that leave NaN out speak of fewer values
fewer_left : (n x a b : Bool) → (not n && not (x && (a || b))) ≡ true → (not n && not (x && a)) ≡ true
fewer_left true x a b h = cc
fewer_left false true true b h = cc
fewer_left false true false b h = refl
fewer_left false false a b h = refl

fewer_right : (n x a b : Bool) → (not n && not (x && (a || b))) ≡ true
    → (not n && not (x && b)) ≡ true
fewer_right true x a b h = cc
fewer_right false true true b h = cc
fewer_right false true false true h = cc
fewer_right false true false false h = refl
fewer_right false false a b h = refl

weaker_left : (order : Value → Value → Bool) (a b : Bool) (vs : List Value) (e : EndView)
    → IsEnd order a vs e → IsEnd order (a || b) vs e
weaker_left order a b vs e p =
    record {
      outermost = λ k d lt h.
          p.outermost k d lt
          (fewer_left (is_null (slice_index_or vs k d)) (is_nan (slice_index_or vs k d)) a b h);
      found = p.found;
    }

weaker_right : (order : Value → Value → Bool) (a b : Bool) (vs : List Value) (e : EndView)
    → IsEnd order b vs e → IsEnd order (a || b) vs e
weaker_right order a b vs e p =
    record {
      outermost = λ k d lt h.
          p.outermost k d lt
          (fewer_right (is_null (slice_index_or vs k d)) (is_nan (slice_index_or vs k d)) a b h);
      found = p.found;
    }

-- an order of values, of which a comparison chooses the first
pub record Chooses (order : Value → Value → Bool) (v w : Value) (o : Ordering) : Type 0 where
  pub trans : (a b c : Value) → order a b ≡ true → order b c ≡ true → order a c ≡ true
  pub less : o ≡ Less → order v w ≡ true
  pub equal : o ≡ Equal → v ≡ w
  pub greater : o ≡ Greater → order w v ≡ true

further : (order : Value → Value → Bool) (s : Bool) (v w : Value) (vs : List Value)
    → ((a b c : Value) → order a b ≡ true → order b c ≡ true → order a c ≡ true)
    → order v w ≡ true → AreBehind order s w vs → AreBehind order s v vs
further order s v w vs trans h p = λ k d lt q. trans v w (slice_index_or vs k d) h (p k d lt q)

found_either : (a b : Bool) (v : Value) (xs ys : List Value) → (a ≡ true → Contains xs v)
    → (b ≡ true → Contains ys v) → (a || b) ≡ true → Contains (xs ++ ys) v
found_either true b v xs ys p q h = Contains-append_left xs ys v (p refl)
found_either false b v xs ys p q h = Contains-append_right xs ys v (q h)

outer_end : (order : Value → Value → Bool) (s : Bool) (xs ys : List Value) (a b : EndView)
    (o : Ordering) → Chooses order a.value b.value o → IsEnd order s xs a → IsEnd order s ys b
    → IsEnd order s (xs ++ ys) (lower_by o a b)
outer_end order s xs ys a b Less c p q =
    record {
      outermost =
          All-append (IsBehind order s a.value) xs ys p.outermost
          (further order s a.value b.value ys c.trans (c.less refl) q.outermost);
      found = λ h. Contains-append_left xs ys a.value (p.found h);
    }
outer_end order s xs ys a b Equal c p q =
    let same : b.value ≡ a.value = sym (c.equal refl) in
    record {
      outermost =
          All-append (IsBehind order s a.value) xs ys p.outermost
          (subst (λ v. AreBehind order s v ys) same q.outermost);
      found =
          found_either a.attained b.attained a.value xs ys p.found
          (λ h. subst (λ v. Contains ys v) same (q.found h));
    }
outer_end order s xs ys a b Greater c p q =
    record {
      outermost =
          All-append (IsBehind order s b.value) xs ys
          (further order s b.value a.value xs c.trans (c.greater refl) p.outermost) q.outermost;
      found = λ h. Contains-append_right xs ys b.value (q.found h);
    }

-- an end that each pair of ends of both columns gives
pub record Joins (order : Value → Value → Bool) (f : EndView → EndView → EndView) : Type 0 where
  pub both : (s : Bool) (xs ys : List Value) (a b : EndView) → IsEnd order s xs a
      → IsEnd order s ys b → IsEnd order s (xs ++ ys) (f a b)

pub low_joins : Joins is_at_most lower_end
low_joins =
    record {
      both = λ s xs ys a b.
          outer_end is_at_most s xs ys a b (compare_values a.value b.value)
          (record {
            trans = at_most_trans;
            less = λ h. ap is_le h;
            equal = λ h. equals_are_same.same a.value b.value h;
            greater = λ h. at_most_greater a.value b.value h;
          });
    }

pub high_joins : Joins is_at_least higher_end
high_joins =
    record {
      both = λ s xs ys a b.
          outer_end is_at_least s xs ys a b (compare_values b.value a.value)
          (record {
            trans = λ u v w h k. at_most_trans w v u k h;
            less = λ h. ap is_le h;
            equal = λ h. sym (equals_are_same.same b.value a.value h);
            greater = λ h. at_most_greater b.value a.value h;
          });
    }

after_nulls : (order : Value → Value → Bool) (s : Bool) (xs ys : List Value) (e : EndView)
    → AreNull xs → IsEnd order s ys e → IsEnd order s (xs ++ ys) e
after_nulls order s xs ys e n p =
    record {
      outermost = All-append (IsBehind order s e.value) xs ys (nulls_behind order s e.value xs n) p.outermost;
      found = λ h. Contains-append_right xs ys e.value (p.found h);
    }

before_nulls : (order : Value → Value → Bool) (s : Bool) (xs ys : List Value) (e : EndView)
    → AreNull ys → IsEnd order s xs e → IsEnd order s (xs ++ ys) e
before_nulls order s xs ys e n p =
    record {
      outermost = All-append (IsBehind order s e.value) xs ys p.outermost (nulls_behind order s e.value ys n);
      found = λ h. Contains-append_left xs ys e.value (p.found h);
    }

end_joined : (order : Value → Value → Bool) (f : EndView → EndView → EndView) (s : Bool)
    (xs ys : List Value) (m n : Bool) (a b : Option EndView) → Joins order f
    → (m ≡ true → AreNull xs) → (n ≡ true → AreNull ys) → IfSome a (IsEnd order s xs)
    → IfSome b (IsEnd order s ys) → IfSome (joined_end f m n a b) (IsEnd order s (xs ++ ys))
end_joined order f s xs ys true n a None j p q h k = tt
end_joined order f s xs ys true n a (Some b) j p q h k = after_nulls order s xs ys b (p refl) k
end_joined order f s xs ys false true None b j p q h k = tt
end_joined order f s xs ys false true (Some a) b j p q h k =
    before_nulls order s xs ys a (q refl) h
end_joined order f s xs ys false false None b j p q h k = tt
end_joined order f s xs ys false false (Some a) None j p q h k = tt
end_joined order f s xs ys false false (Some a) (Some b) j p q h k = j.both s xs ys a b h k

in_bounds : (b : Bool) (m n : ℕ) (P : ℕ → Type 0) → P (m + n)
    → IfSome (if b then Some (m + n) else None) P
in_bounds true m n P p = p
in_bounds false m n P p = tt

summed : (a b : Option ℕ) (x y z : ℕ) → z ≡ x + y → IfSome a (λ n. x ≡ n)
    → IfSome b (λ n. y ≡ n) → IfSome (sum_of a b) (λ n. z ≡ n)
summed (Some m) (Some n) x y z e p q =
    in_bounds (nat_lt (m + n) 18446744073709551616) m n (λ k. z ≡ k) (omega (arith, e, p, q))
summed (Some m) None x y z e p q = tt
summed None b x y z e p q = tt

each_left : (order : Value → Value → Bool) (s t : Bool) (vs : List Value) (e : Option EndView)
    → IfSome e (IsEnd order s vs) → IfSome e (IsEnd order (s || t) vs)
each_left order s t vs None p = tt
each_left order s t vs (Some e) p = weaker_left order s t vs e p

each_right : (order : Value → Value → Bool) (s t : Bool) (vs : List Value) (e : Option EndView)
    → IfSome e (IsEnd order t vs) → IfSome e (IsEnd order (s || t) vs)
each_right order s t vs None p = tt
each_right order s t vs (Some e) p = weaker_right order s t vs e p

pub joined_describes : (a b : StatisticsView) → a.dtype ≡ b.dtype → DescribesBoth a b (joined a b)
joined_describes a b same xs ys p q =
    let left = λ (h : is_all_null a.rows a.nulls ≡ true). all_null a xs p h in
    let right = λ (h : is_all_null b.rows b.nulls ≡ true). all_null b ys q h in
    record {
      typed =
          All-append (HasType a.dtype) xs ys p.typed
          (subst (λ t. AreTyped t ys) (sym same) q.typed);
      rows = summed a.rows b.rows (length xs) (length ys) _ (length-append xs ys) p.rows q.rows;
      nulls =
          summed a.nulls b.nulls (count_by is_null xs) (count_by is_null ys) _
          (sum_by-append _ xs ys) p.nulls q.nulls;
      low =
          end_joined is_at_most lower_end (a.skips_nan || b.skips_nan) xs ys
          (is_all_null a.rows a.nulls) (is_all_null b.rows b.nulls) a.low b.low low_joins left right
          (each_left is_at_most a.skips_nan b.skips_nan xs a.low p.low)
          (each_right is_at_most a.skips_nan b.skips_nan ys b.low q.low);
      high =
          end_joined is_at_least higher_end (a.skips_nan || b.skips_nan) xs ys
          (is_all_null a.rows a.nulls) (is_all_null b.rows b.nulls) a.high b.high high_joins left
          right (each_left is_at_least a.skips_nan b.skips_nan xs a.high p.high)
          (each_right is_at_least a.skips_nan b.skips_nan ys b.high q.high);
    }
