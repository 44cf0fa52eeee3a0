-- The order of values is total: antisymmetric, transitive, and compatible with equality; values
-- equal in the order are the same.
use Rattle.std.specs.Prelude.{◌≡◌, Bool, true, false, refl}
use Rattle.std.proofs.Common.{sym, ap, ◌∙◌}
use Rattle.std.specs.declared.cmp.Ordering.{Ordering}
use Rattle.std.specs.declared.cmp.Ordering.TheVariants.{Less, Equal, Greater}
use Rattle.std.specs.Ordering.{ordering_then, ordering_reverse}
use Rattle.std.specs.Cmp.{IsTotalOrder, nat_cmp_total, int_cmp_total, bool_cmp_total, then_flip}
use Rattle.std.proofs.lemmas.Cmp.{nat_list_cmp_total}
use Rattle.std.specs.FinMap.{nat_cmp-IsAntisymmetric, int_cmp-IsAntisymmetric}
use Rattle.std.specs.FinMap.{slice_cmp-IsAntisymmetric}
use Rattle.vortex_types.specs.Values.{Value, null, truth, number, text, bytes, list, Values}
use Rattle.vortex_types.specs.Values.{no_values, value}
use Rattle.vortex_types.specs.Order.{kind_rank, compare_values, compare_lists}

mutual
  antisymmetric : (v w : Value) → compare_values v w ≡ ordering_reverse (compare_values w v)
  antisymmetric (truth a) (truth b) = bool_cmp_total.antisymm a b
  antisymmetric (number a) (number b) = int_cmp_total.antisymm a b
  antisymmetric (text a) (text b) = nat_list_cmp_total.antisymm a b
  antisymmetric (bytes a) (bytes b) = nat_list_cmp_total.antisymm a b
  antisymmetric (list a) (list b) = lists_antisymmetric a b
  antisymmetric null null = refl
  antisymmetric null (truth b) = refl
  antisymmetric null (number b) = refl
  antisymmetric null (text b) = refl
  antisymmetric null (bytes b) = refl
  antisymmetric null (list b) = refl
  antisymmetric v w = nat_cmp_total.antisymm (kind_rank v) (kind_rank w)

  lists_antisymmetric : (vs ws : Values)
      → compare_lists vs ws ≡ ordering_reverse (compare_lists ws vs)
  lists_antisymmetric no_values no_values = refl
  lists_antisymmetric no_values (value w ws) = refl
  lists_antisymmetric (value v vs) no_values = refl
  lists_antisymmetric (value v vs) (value w ws) =
      (λ i. ordering_then (antisymmetric v w i) (lists_antisymmetric vs ws i))
      ∙ then_flip (compare_values w v) (compare_lists ws vs)

-- the first of two orders decides, else the second; values equal in both compare alike
then_alike : (a b c p q s : Ordering) → (a ≡ Equal → b ≡ c) → (p ≡ Equal → q ≡ s)
    → ordering_then a p ≡ Equal → ordering_then b q ≡ ordering_then c s
then_alike Less b c p q s f g e = cc
then_alike Equal b c p q s f g e = λ i. ordering_then (f refl i) (g e i)
then_alike Greater b c p q s f g e = cc

mutual
  alike : (v w x : Value) → compare_values v w ≡ Equal → compare_values v x ≡ compare_values w x
  alike (truth a) (truth b) (truth c) e = bool_cmp_total.congr a b c e
  alike (number a) (number b) (number c) e = int_cmp_total.congr a b c e
  alike (text a) (text b) (text c) e = nat_list_cmp_total.congr a b c e
  alike (bytes a) (bytes b) (bytes c) e = nat_list_cmp_total.congr a b c e
  alike (list a) (list b) (list c) e = lists_alike a b c e
  alike null null x e = refl
  alike v w x e = cc

  lists_alike : (vs ws xs : Values) → compare_lists vs ws ≡ Equal
      → compare_lists vs xs ≡ compare_lists ws xs
  lists_alike no_values no_values xs e = refl
  lists_alike no_values (value w ws) xs e = cc
  lists_alike (value v vs) no_values xs e = cc
  lists_alike (value v vs) (value w ws) no_values e = refl
  lists_alike (value v vs) (value w ws) (value x xs) e =
      then_alike (compare_values v w) (compare_values v x) (compare_values w x)
      (compare_lists vs ws) (compare_lists vs xs) (compare_lists ws xs) (alike v w x)
      (lists_alike vs ws xs) e

-- the same on the other side
alike_right : (v w x : Value) → compare_values w x ≡ Equal → compare_values v w ≡ compare_values v x
alike_right v w x e =
    antisymmetric v w ∙ ap ordering_reverse (alike w x v e) ∙ sym (antisymmetric v x)

then_chain : (a b c p q s : Ordering) → (a ≡ Less → b ≡ Less → c ≡ Less) → (a ≡ Equal → c ≡ b)
    → (b ≡ Equal → c ≡ a) → (p ≡ Less → q ≡ Less → s ≡ Less) → ordering_then a p ≡ Less
    → ordering_then b q ≡ Less → ordering_then c s ≡ Less
then_chain Less Less c p q s f g h k d e = ap (λ o. ordering_then o s) (f refl refl)
then_chain Less Equal c p q s f g h k d e = ap (λ o. ordering_then o s) (h refl)
then_chain Less Greater c p q s f g h k d e = cc
then_chain Equal Less c p q s f g h k d e = ap (λ o. ordering_then o s) (g refl)
then_chain Equal Equal c p q s f g h k d e = ap (λ o. ordering_then o s) (g refl) ∙ k d e
then_chain Equal Greater c p q s f g h k d e = cc
then_chain Greater b c p q s f g h k d e = cc

below_null : (v : Value) → compare_values v null ≡ Less → ⊥
below_null null e = cc
below_null (truth a) e = cc
below_null (number a) e = cc
below_null (text a) e = cc
below_null (bytes a) e = cc
below_null (list a) e = cc

-- each pair of kinds is spelled out as far as the order needs it
mutual
  transitive : (v w x : Value) → compare_values v w ≡ Less → compare_values w x ≡ Less
      → compare_values v x ≡ Less
  transitive (truth a) (truth b) (truth c) d e = bool_cmp_total.trans a b c d e
  transitive (number a) (number b) (number c) d e = int_cmp_total.trans a b c d e
  transitive (text a) (text b) (text c) d e = nat_list_cmp_total.trans a b c d e
  transitive (bytes a) (bytes b) (bytes c) d e = nat_list_cmp_total.trans a b c d e
  transitive (list a) (list b) (list c) d e = lists_transitive a b c d e
  transitive null w null d e = absurd (below_null w e)
  transitive null w (truth c) d e = refl
  transitive null w (number c) d e = refl
  transitive null w (text c) d e = refl
  transitive null w (bytes c) d e = refl
  transitive null w (list c) d e = refl
  transitive (truth a) (number b) null d e = absurd (below_null (number b) e)
  transitive (truth a) (text b) null d e = absurd (below_null (text b) e)
  transitive (truth a) (bytes b) null d e = absurd (below_null (bytes b) e)
  transitive (truth a) (list b) null d e = absurd (below_null (list b) e)
  transitive (number a) (text b) null d e = absurd (below_null (text b) e)
  transitive (number a) (bytes b) null d e = absurd (below_null (bytes b) e)
  transitive (number a) (list b) null d e = absurd (below_null (list b) e)
  transitive (text a) (bytes b) null d e = absurd (below_null (bytes b) e)
  transitive (text a) (list b) null d e = absurd (below_null (list b) e)
  transitive (bytes a) (list b) null d e = absurd (below_null (list b) e)
  transitive v w x d e = cc

  lists_transitive : (vs ws xs : Values) → compare_lists vs ws ≡ Less → compare_lists ws xs ≡ Less
      → compare_lists vs xs ≡ Less
  lists_transitive no_values no_values xs d e = cc
  lists_transitive no_values (value w ws) no_values d e = cc
  lists_transitive no_values (value w ws) (value x xs) d e = refl
  lists_transitive (value v vs) no_values xs d e = cc
  lists_transitive (value v vs) (value w ws) no_values d e = cc
  lists_transitive (value v vs) (value w ws) (value x xs) d e =
      then_chain (compare_values v w) (compare_values w x) (compare_values v x)
      (compare_lists vs ws) (compare_lists ws xs) (compare_lists vs xs) (transitive v w x)
      (λ q. alike v w x q) (λ q. sym (alike_right v w x q)) (lists_transitive vs ws xs) d e

pub compare_values_total : IsTotalOrder compare_values
compare_values_total = record { antisymm = antisymmetric; trans = transitive; congr = alike }

-- two values are equal in the order exactly where they are the same value
pub record EqualsAreSame : Type 0 where
  pub same : (v w : Value) → compare_values v w ≡ Equal → v ≡ w
  pub equal : (v : Value) → compare_values v v ≡ Equal

-- two orders, one after the other, are Equal only where both are
then_first : (a b : Ordering) → ordering_then a b ≡ Equal → a ≡ Equal
then_first Less b e = cc
then_first Equal b e = refl
then_first Greater b e = cc

then_second : (a b : Ordering) → ordering_then a b ≡ Equal → b ≡ Equal
then_second Less b e = cc
then_second Equal b e = e
then_second Greater b e = cc

same_truth : (a b : Bool) → compare_values (truth a) (truth b) ≡ Equal → a ≡ b
same_truth true true e = refl
same_truth true false e = cc
same_truth false true e = cc
same_truth false false e = refl

mutual
  same_values : (v w : Value) → compare_values v w ≡ Equal → v ≡ w
  same_values (truth a) (truth b) e = ap truth (same_truth a b e)
  same_values (number a) (number b) e = ap number (int_cmp-IsAntisymmetric a b e)
  same_values (text a) (text b) e =
      ap text (slice_cmp-IsAntisymmetric nat_cmp-IsAntisymmetric a b e)
  same_values (bytes a) (bytes b) e =
      ap bytes (slice_cmp-IsAntisymmetric nat_cmp-IsAntisymmetric a b e)
  same_values (list a) (list b) e = ap list (same_lists a b e)
  same_values null null e = refl
  same_values v w e = cc

  same_lists : (vs ws : Values) → compare_lists vs ws ≡ Equal → vs ≡ ws
  same_lists no_values no_values e = refl
  same_lists no_values (value w ws) e = cc
  same_lists (value v vs) no_values e = cc
  same_lists (value v vs) (value w ws) e =
      λ i.
      value (same_values v w (then_first (compare_values v w) (compare_lists vs ws) e) i)
      (same_lists vs ws (then_second (compare_values v w) (compare_lists vs ws) e) i)

-- only Equal is its own reverse
own_reverse : (o : Ordering) → o ≡ ordering_reverse o → o ≡ Equal
own_reverse Less e = cc
own_reverse Equal e = refl
own_reverse Greater e = cc

pub equals_are_same : EqualsAreSame
equals_are_same = record {
  same = same_values;
  equal = λ v. own_reverse (compare_values v v) (antisymmetric v v);
}
