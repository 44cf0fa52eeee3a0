-- The exact result of stored integers means the sum, the difference or the product.
use Rattle.std.proofs.Common.{◌≡◌, ◌∙◌, ◌+◌, ◌-◌, ℕ, ℤ, true, refl, ap, sym, subst, arith}
use Rattle.std.specs.Prelude.{Some, None, Bool, false, min, max, nat_le, ◌+ℤ◌, ◌-ℤ◌, ◌*ℤ◌, if◌then◌else◌}
use Rattle.std.proofs.lemmas.Int.{ints}
use Rattle.vortex_errors.specs.declared.error.NumericOperator.{NumericOperator}
use Rattle.vortex_errors.specs.declared.error.NumericOperator.TheVariants.{Add, Sub, Mul, Div}
use Rattle.vortex_types.specs.declared.dtype.PType.{PType}
use Rattle.vortex_types.specs.declared.dtype.PType.TheVariants.{I32}
use Rattle.vortex_types.specs.TypeEquality.{ptype_eq}
use Rattle.vortex_operators.specs.Arithmetic.{exact_result}
use Rattle.vortex_logical.specs.declared.kind.Kind.TheVariants.{Date, Decimal}
use Rattle.vortex_logical.specs.declared.operand.Operand.{Operand}
use Rattle.vortex_logical.specs.declared.operand.Operand.TheVariants.{Whole, Of}
use Rattle.vortex_logical.specs.Digits.{Digits, digits_of}
use Rattle.vortex_logical.specs.CommonKinds.{sum_digits, product_digits, decimal_operand, whole_digits}
use Rattle.vortex_logical.specs.Decimals.{shifted}
use Rattle.vortex_logical.specs.StandsFor.{Meaning, number, day, Day, NumbersDay}
use Rattle.vortex_lowering.specs.Operands.{OperandMeans, lacking}
use Rattle.vortex_lowering.specs.Results.{result_operand, are_computed, met_scale, IsValueOf, IsDaysAfter, stored_of}
use Rattle.vortex_lowering.proofs.StoredComparisons.{longer, longer_is, NumberAt, whole_number, decimal_number}

-- the exact result is the stored integer of the value, which it means
abbrev pub StandsForResult : NumericOperator → Operand → ℤ → ℤ → Meaning → Type 0
StandsForResult o c y z r = (exact_result o y z ≡ Some (stored_of r)) × OperandMeans c (stored_of r) r

some_operand : (a c : Operand) → Some a ≡ Some c → a ≡ c
some_operand a c e = cc

-- y * 10 ^ k is m * 10 ^ (u - s)
longer_number : (a b k s t : ℕ) (y m : ℤ) → y ≡ m → s ≡ a → t ≡ b → k ≡ max a b - a → longer k y ≡ shifted m (max s t - s)
longer_number a b k s t y m e f g h =
    (λ i. longer (h i) (e i)) ∙ sym (longer_is (max a b - a) m) ∙ (λ i. shifted m (max (sym f i) (sym g i) - sym f i))

longer_second : (a b k s t : ℕ) (z n : ℤ) → z ≡ n → s ≡ a → t ≡ b → k ≡ max a b - b → longer k z ≡ shifted n (max s t - t)
longer_second a b k s t z n e f g h =
    (λ i. longer (h i) (e i)) ∙ sym (longer_is (max a b - b) n) ∙ (λ i. shifted n (max (sym f i) (sym g i) - sym g i))

of_number : (o : NumericOperator) (c : Operand) (y z x : ℤ) (s : ℕ) (r : Meaning) → r ≡ number x s
    → exact_result o y z ≡ Some x → OperandMeans c x (number x s) → StandsForResult o c y z r
of_number o c y z x s r q e h = subst (λ v. StandsForResult o c y z v) (sym q) (e, h)

-- the operand means numbers of that scale
abbrev HasScale : Operand → ℕ → Type 0
HasScale c s = (x : ℤ) → OperandMeans c x (number x s)

module _ (a b : ℕ) (c : Operand) (y z : ℤ) where
  added : (k j : ℕ) → k ≡ max a b - a → j ≡ max a b - b → HasScale c (max a b)
      → (v w r : Meaning) → NumberAt a y v → NumberAt b z w → IsValueOf Add v w r
      → StandsForResult Add c (longer k y) (longer j z) r
  added k j e f means (number m s) (number n t) r h g q =
      of_number Add c (longer k y) (longer j z) _ (max s t) r q
      (λ i. Some (longer_number a b k s t y m h.0 h.1 g.1 e i +ℤ longer_second a b j s t z n g.0 h.1 g.1 f i))
      (subst (λ u. HasScale c u) (λ i. max (sym h.1 i) (sym g.1 i)) means _)
  added k j e f means (number m s) w r h g q = absurd g
  added k j e f means v w r h g q = absurd h

  subtracted : (k j : ℕ) → k ≡ max a b - a → j ≡ max a b - b → HasScale c (max a b)
      → (v w r : Meaning) → NumberAt a y v → NumberAt b z w → IsValueOf Sub v w r
      → StandsForResult Sub c (longer k y) (longer j z) r
  subtracted k j e f means (number m s) (number n t) r h g q =
      of_number Sub c (longer k y) (longer j z) _ (max s t) r q
      (λ i. Some (longer_number a b k s t y m h.0 h.1 g.1 e i -ℤ longer_second a b j s t z n g.0 h.1 g.1 f i))
      (subst (λ u. HasScale c u) (λ i. max (sym h.1 i) (sym g.1 i)) means _)
  subtracted k j e f means (number m s) w r h g q = absurd g
  subtracted k j e f means v w r h g q = absurd h

  multiplied : (k j : ℕ) → k ≡ 0 → j ≡ 0 → HasScale c (a + b)
      → (v w r : Meaning) → NumberAt a y v → NumberAt b z w → IsValueOf Mul v w r
      → StandsForResult Mul c (longer k y) (longer j z) r
  multiplied k j e f means (number m s) (number n t) r h g q =
      of_number Mul c (longer k y) (longer j z) _ (s + t) r q
      (λ i. Some (longer (e i) (h.0 i) *ℤ longer (f i) (g.0 i)))
      (subst (λ u. HasScale c u) (λ i. sym h.1 i + sym g.1 i) means _)
  multiplied k j e f means (number m s) w r h g q = absurd g
  multiplied k j e f means v w r h g q = absurd h

of_whole : (p q : PType) (c : Operand) → ptype_eq p q ≡ true → (if ptype_eq p q then Some (Whole p) else None) ≡ Some c → Whole p ≡ c
of_whole p q c r e = some_operand (Whole p) c ((λ i. if sym r i then Some (Whole p) else None) ∙ e)

whole_scale : (p q : PType) (c : Operand) → ptype_eq p q ≡ true → (if ptype_eq p q then Some (Whole p) else None) ≡ Some c → HasScale c 0
whole_scale p q c r e = subst (λ d. HasScale d 0) (of_whole p q c r e) (λ x. (refl, refl))

decimal_scale : (g : Digits) (c : Operand) → Some (Of (Decimal g)) ≡ Some c → HasScale c g.scale
decimal_scale g c e = subst (λ d. HasScale d g.scale) (some_operand (Of (Decimal g)) c e) (λ x. (refl, refl))

product_scale : (d e : Digits) (c : Operand) → decimal_operand (product_digits d e) ≡ Some c → HasScale c (d.scale + e.scale)
product_scale d e c h = by (nat_le (d.scale + e.scale) 18) h
  where
    by : (b : Bool) → decimal_operand (if b then Some (digits_of (min 18 (d.precision + e.precision)) (d.scale + e.scale)) else None) ≡ Some c
        → HasScale c (d.scale + e.scale)
    by true h = decimal_scale (digits_of (min 18 (d.precision + e.precision)) (d.scale + e.scale)) c h
    by false h = cc

nothing_less : (u : ℕ) → u ≡ u - 0
nothing_less u = omega arith

none_lacks : (s : ℕ) → 0 - s ≡ 0
none_lacks s = omega arith

same_day : (y z : ℤ) (d : Day) → NumbersDay y d → NumbersDay z d → y ≡ z
same_day y z d h g = sym h.number ∙ g.number

back : (y n : ℤ) → (y +ℤ n) -ℤ n ≡ y
back y n = grind (arith, ints)

between_days : (y n : ℤ) → (y +ℤ n) -ℤ y ≡ n
between_days y n = grind (arith, ints)

turned_sum : (y n : ℤ) → n +ℤ y ≡ y +ℤ n
turned_sum y n = grind (arith, ints)

day_after : (y z : ℤ) (p : PType) (d e : Day) (w : Meaning) (c : Operand) → Some (Of Date) ≡ Some c → NumbersDay y d
    → OperandMeans (Whole p) z w → (n : ℤ) (s : ℕ) → w ≡ number n s → IsDaysAfter d n e
    → (y +ℤ z ≡ stored_of (day e)) × OperandMeans c (stored_of (day e)) (day e)
day_after y z p d e w c k h g n s is q =
    let whole = subst (λ v. OperandMeans (Whole p) z v) is g in (
      (λ i. same_day y q.0 d h q.1 i +ℤ whole.0 i) ∙ sym q.2.number,
      subst (λ b. OperandMeans b (stored_of (day e)) (day e)) (some_operand (Of Date) c k)
          (record { calendar = q.2.calendar; number = refl }),
    )

pub computed_value : (o : NumericOperator) (a b c : Operand) → are_computed o a b ≡ true → result_operand o a b ≡ Some c
    → (y z : ℤ) (v w r : Meaning) → OperandMeans a y v → OperandMeans b z w → IsValueOf o v w r
    → StandsForResult o c (longer (lacking (met_scale o a b) a) y) (longer (lacking (met_scale o a b) b) z) r
computed_value Add (Whole p) (Whole q) c l e y z v w r h g k =
    added 0 0 c y z 0 0 refl refl (whole_scale p q c l e) v w r (whole_number p y v h) (whole_number q z w g) k
computed_value Sub (Whole p) (Whole q) c l e y z v w r h g k =
    subtracted 0 0 c y z 0 0 refl refl (whole_scale p q c l e) v w r (whole_number p y v h) (whole_number q z w g) k
computed_value Mul (Whole p) (Whole q) c l e y z v w r h g k =
    multiplied 0 0 c y z 0 0 refl refl (whole_scale p q c l e) v w r (whole_number p y v h) (whole_number q z w g) k
computed_value Add (Of (Decimal d)) (Of (Decimal f)) c l e y z v w r h g k =
    added d.scale f.scale c y z (max d.scale f.scale - d.scale) (max d.scale f.scale - f.scale) refl refl
    (decimal_scale (sum_digits d f) c e) v w r (decimal_number d y v h) (decimal_number f z w g) k
computed_value Sub (Of (Decimal d)) (Of (Decimal f)) c l e y z v w r h g k =
    subtracted d.scale f.scale c y z (max d.scale f.scale - d.scale) (max d.scale f.scale - f.scale) refl refl
    (decimal_scale (sum_digits d f) c e) v w r (decimal_number d y v h) (decimal_number f z w g) k
computed_value Mul (Of (Decimal d)) (Of (Decimal f)) c l e y z v w r h g k =
    multiplied d.scale f.scale c y z (0 - d.scale) (0 - f.scale) (none_lacks d.scale) (none_lacks f.scale)
    (product_scale d f c e) v w r (decimal_number d y v h) (decimal_number f z w g) k
computed_value Add (Of (Decimal d)) (Whole p) c l e y z v w r h g k =
    added d.scale 0 c y z (max d.scale 0 - d.scale) (max d.scale 0) refl (nothing_less (max d.scale 0))
    (decimal_scale (sum_digits d (digits_of (whole_digits p) 0)) c e) v w r (decimal_number d y v h) (whole_number p z w g) k
computed_value Sub (Of (Decimal d)) (Whole p) c l e y z v w r h g k =
    subtracted d.scale 0 c y z (max d.scale 0 - d.scale) (max d.scale 0) refl (nothing_less (max d.scale 0))
    (decimal_scale (sum_digits d (digits_of (whole_digits p) 0)) c e) v w r (decimal_number d y v h) (whole_number p z w g) k
computed_value Mul (Of (Decimal d)) (Whole p) c l e y z v w r h g k =
    multiplied d.scale 0 c y z (0 - d.scale) 0 (none_lacks d.scale) refl
    (product_scale d (digits_of (whole_digits p) 0) c e) v w r (decimal_number d y v h) (whole_number p z w g) k
computed_value Add (Whole p) (Of (Decimal f)) c l e y z v w r h g k =
    added 0 f.scale c y z (max 0 f.scale) (max 0 f.scale - f.scale) (nothing_less (max 0 f.scale)) refl
    (decimal_scale (sum_digits (digits_of (whole_digits p) 0) f) c e) v w r (whole_number p y v h) (decimal_number f z w g) k
computed_value Sub (Whole p) (Of (Decimal f)) c l e y z v w r h g k =
    subtracted 0 f.scale c y z (max 0 f.scale) (max 0 f.scale - f.scale) (nothing_less (max 0 f.scale)) refl
    (decimal_scale (sum_digits (digits_of (whole_digits p) 0) f) c e) v w r (whole_number p y v h) (decimal_number f z w g) k
computed_value Mul (Whole p) (Of (Decimal f)) c l e y z v w r h g k =
    multiplied 0 f.scale c y z 0 (0 - f.scale) refl (none_lacks f.scale)
    (product_scale (digits_of (whole_digits p) 0) f c e) v w r (whole_number p y v h) (decimal_number f z w g) k
computed_value Add (Of Date) (Whole p) c l e y z (day d) (number n s) (day f) h g k =
    let done = day_after y z p d f (number n s) c e h g n s refl k in
    (ap (λ x. Some x) done.0, done.1)
computed_value Add (Of Date) (Whole p) c l e y z (day d) (number n s) r h g k = absurd k
computed_value Add (Of Date) (Whole p) c l e y z (day d) w r h g k = absurd g
computed_value Add (Of Date) (Whole p) c l e y z v w r h g k = absurd h
computed_value Add (Whole p) (Of Date) c l e y z (number n s) (day d) (day f) h g k =
    let done = day_after z y p d f (number n s) c e g h n s refl k in
    (ap (λ x. Some x) (turned_sum z y ∙ done.0), done.1)
computed_value Add (Whole p) (Of Date) c l e y z (number n s) (day d) r h g k = absurd k
computed_value Add (Whole p) (Of Date) c l e y z (number n s) w r h g k = absurd g
computed_value Add (Whole p) (Of Date) c l e y z v w r h g k = absurd h
computed_value Sub (Of Date) (Whole p) c l e y z (day d) (number n s) (day f) h g k = (
  ap (λ x. Some x) ((λ i. same_day y (k.0 +ℤ n) d h k.2 i -ℤ g.0 i) ∙ back k.0 n ∙ sym k.1.number),
  subst (λ b. OperandMeans b (stored_of (day f)) (day f)) (some_operand (Of Date) c e)
      (record { calendar = k.1.calendar; number = refl }),
)
computed_value Sub (Of Date) (Whole p) c l e y z (day d) (number n s) r h g k = absurd k
computed_value Sub (Of Date) (Whole p) c l e y z (day d) w r h g k = absurd g
computed_value Sub (Of Date) (Whole p) c l e y z v w r h g k = absurd h
computed_value Sub (Of Date) (Of Date) c l e y z (day d) (day f) (number n s) h g k = (
  ap (λ x. Some x) ((λ i. same_day y (k.0.0 +ℤ n) d h k.0.2 i -ℤ same_day z k.0.0 f g k.0.1 i) ∙ between_days k.0.0 n),
  subst (λ b. OperandMeans b n (number n s)) (some_operand (Whole I32) c e) (refl, k.1),
)
computed_value Sub (Of Date) (Of Date) c l e y z (day d) (day f) r h g k = absurd k
computed_value Sub (Of Date) (Of Date) c l e y z (day d) w r h g k = absurd g
computed_value Sub (Of Date) (Of Date) c l e y z v w r h g k = absurd h
computed_value Div a b c l e y z v w r h g k = cc
computed_value o a b c l e y z v w r h g k = cc
