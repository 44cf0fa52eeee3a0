-- The integers that stand for floats are in their order.
use Rattle.std.proofs.Common.{◌≡◌, ◌⊎◌, inl, inr, ℕ, zero, suc, ◌+◌, ◌-◌, ◌/◌, ◌%◌, ◌^◌, ◌<◌, ◌≤◌}
use Rattle.std.proofs.Common.{Bool, true, false, cond, T, leb, ltb, refl, sym, ap, ◌∙◌, arith, subst}
use Rattle.std.proofs.Common.{ℤ, pos, ◌*◌}
use Rattle.std.specs.Prelude.{not, neg_ℤ, ◌<ℤ◌}
use Rattle.std.specs.Ordering.{int_cmp, nan_last_cmp}
use Rattle.std.specs.declared.cmp.Ordering.{Ordering}
use Rattle.std.specs.declared.cmp.Ordering.TheVariants.{Less, Equal, Greater}
use Rattle.std.proofs.lemmas.Int.{ints}
use Rattle.std.proofs.lemmas.Float.{le_of_lt, le_left, le_right, lt_trans, lt_irrefl, eq-not_lt, eq_flip}
use lib.Pow.{pow_pos}
use lib.Ieee.{Float, nan, inf, fin, Format, binary32, binary64, fits, lt, eq, is_nan, of_bits, of_fields, low, to_bits, hid, ones, top}
use lib.Ieee.Bits.{is_true, is_false, of_bits-to_bits, to_bits-lt, nan_bits_is, nan_bits_above}
use lib.Ieee.Exact.{HasValue}
use borrow.Author.Differences.{below_in, neg_is}
use Rattle.vortex_logical.specs.FloatKeys.{key_of_bits, key_of_float, KeysAreOrdered, sign_weight}
use Rattle.vortex_logical.specs.FloatKeys.{float_of_key, KeysAreReadBack}
use Rattle.vortex_logical.proofs.FloatEquality.{eq_self}
use Rattle.vortex_logical.proofs.FloatValueOrder.{lt_pos, lt_neg, lt_mixed, eq_zero, below_inf, above_inf, inf_lt}
use Rattle.vortex_logical.proofs.FloatPatterns.{field_value, field_inf, field_below, pattern_units, pattern_lt, infinite}

abbrev units_one : Format → ℕ
units_one fmt = 2 ^ low fmt

units_pos : (fmt : Format) → 0 < units_one fmt
units_pos fmt = pow_pos (low fmt)

-- the pattern of a NaN
abbrev nan_pattern : Format → ℕ
nan_pattern binary32 = 2143289344
nan_pattern binary64 = 9221120237041090560

weight_is : (fmt : Format) → top fmt ≡ sign_weight fmt
weight_is binary32 = refl
weight_is binary64 = refl

bits_lt : (fmt : Format) (x : Float) → T (fits fmt x) → to_bits fmt x < 2 * sign_weight fmt
bits_lt fmt x f = subst (λ n. to_bits fmt x < 2 * n) (weight_is fmt) (to_bits-lt fmt x f)

infinite_pos : (fmt : Format) → 0 < infinite fmt
infinite_pos binary32 = omega arith
infinite_pos binary64 = omega arith

nan_above : (fmt : Format) → infinite fmt < nan_pattern fmt
nan_above binary32 = omega arith
nan_above binary64 = omega arith

-- ---- what the order of floats says

abbrev placing : Bool → Bool → Bool → Bool → Ordering
placing a b l g = cond a (cond b Equal Greater) (cond b Less (cond l Less (cond g Greater Equal)))

no_lt : (x y : Float) → T (lt y x) → lt x y ≡ false
no_lt x y h = by (lt x y) refl
  where
    by : (b : Bool) → lt x y ≡ b → b ≡ false
    by false e = refl
    by true e = absurd (lt_irrefl x (lt_trans x y x (subst T (sym e) tt) h))

pub is_less : (x y : Float) → T (lt x y) → nan_last_cmp x y ≡ Less
is_less x y h =
    let le = le_of_lt x y h in
    λ i. placing (is_false (is_nan x) (le_left x y le) i) (is_false (is_nan y) (le_right x y le) i) (is_true (lt x y) h i) (lt y x)

pub is_greater : (x y : Float) → T (lt y x) → nan_last_cmp x y ≡ Greater
is_greater x y h =
    let le = le_of_lt y x h in
    λ i. placing (is_false (is_nan x) (le_right y x le) i) (is_false (is_nan y) (le_left y x le) i) (no_lt x y h i) (is_true (lt y x) h i)

not_so : (b : Bool) → ¬ (T b) → b ≡ false
not_so true n = absurd (n tt)
not_so false n = refl

pub is_level : (x y : Float) → is_nan x ≡ false → is_nan y ≡ false → T (eq x y) → nan_last_cmp x y ≡ Equal
is_level x y nx ny h =
    λ i. placing (nx i) (ny i) (not_so (lt x y) (eq-not_lt x y h) i) (not_so (lt y x) (eq-not_lt y x (eq_flip x y h)) i)

-- ---- a float by its sign and the pattern of its size

abbrev Placed : Format → Float → Bool → ℕ → Type 0
Placed fmt x s n =
    (x ≡ of_fields fmt s (n / hid fmt) (n % hid fmt))
    × (n ≤ infinite fmt)

value_at : (fmt : Format) (x : Float) (s : Bool) (n : ℕ) → Placed fmt x s n → n < infinite fmt
    → HasValue x s (pattern_units fmt n) (units_one fmt)
value_at fmt x s n p h =
    subst (λ v. HasValue v s (pattern_units fmt n) (units_one fmt)) (sym p.0)
    (field_value fmt s (n / hid fmt) (n % hid fmt) (field_below fmt n h))

inf_at : (fmt : Format) (x : Float) (s : Bool) (n : ℕ) → Placed fmt x s n → n ≡ infinite fmt → x ≡ inf s
inf_at fmt x s n p e =
    p.0 ∙ ap (λ n. of_fields fmt s (n / hid fmt) (n % hid fmt)) e ∙ field_inf fmt s

ends : (fmt : Format) (n : ℕ) → n ≤ infinite fmt → (n < infinite fmt) ⊎ (n ≡ infinite fmt)
ends fmt n h = grind arith

above : (fmt : Format) (x y : Float) (n m : ℕ) → Placed fmt x false n → Placed fmt y false m → n < m → T (lt x y)
above fmt x y n m p q h = by (ends fmt m q.1)
  where
    by : (m < infinite fmt) ⊎ (m ≡ infinite fmt) → T (lt x y)
    by (inl k) =
        lt_pos x y (pattern_units fmt n) (pattern_units fmt m) (units_one fmt) (units_pos fmt)
        (value_at fmt x false n p (omega (arith, h, k))) (value_at fmt y false m q k) (pattern_lt fmt n m h)
    by (inr e) =
        subst (λ v. T (lt x v)) (sym (inf_at fmt y false m q e))
        (below_inf x false (pattern_units fmt n) (units_one fmt) (value_at fmt x false n p (omega (arith, h, e))))

below : (fmt : Format) (x y : Float) (n m : ℕ) → Placed fmt x true n → Placed fmt y true m → m < n → T (lt x y)
below fmt x y n m p q h = by (ends fmt n p.1)
  where
    by : (n < infinite fmt) ⊎ (n ≡ infinite fmt) → T (lt x y)
    by (inl k) =
        lt_neg x y (pattern_units fmt n) (pattern_units fmt m) (units_one fmt) (units_pos fmt)
        (value_at fmt x true n p k) (value_at fmt y true m q (omega (arith, h, k))) (pattern_lt fmt m n h)
    by (inr e) =
        subst (λ v. T (lt v y)) (sym (inf_at fmt x true n p e))
        (above_inf y true (pattern_units fmt m) (units_one fmt) (value_at fmt y true m q (omega (arith, h, e))))

some_units : (fmt : Format) (n m : ℕ) → 0 < n + m → 0 < pattern_units fmt n + pattern_units fmt m
some_units fmt zero zero h = absurd (omega (arith, h))
some_units fmt (suc n) m h = omega (arith, pattern_lt fmt 0 (suc n) (omega arith))
some_units fmt zero (suc m) h = omega (arith, pattern_lt fmt 0 (suc m) (omega arith))

across : (fmt : Format) (x y : Float) (n m : ℕ) → Placed fmt x true n → Placed fmt y false m → 0 < n + m → T (lt x y)
across fmt x y n m p q h = by (ends fmt n p.1) (ends fmt m q.1)
  where
    by : (n < infinite fmt) ⊎ (n ≡ infinite fmt) → (m < infinite fmt) ⊎ (m ≡ infinite fmt)
        → T (lt x y)
    by (inl k) (inl l) =
        lt_mixed x y (pattern_units fmt n) (pattern_units fmt m) (units_one fmt) (value_at fmt x true n p k)
        (value_at fmt y false m q l) (some_units fmt n m h)
    by (inl k) (inr f) =
        subst (λ v. T (lt x v)) (sym (inf_at fmt y false m q f))
        (below_inf x true (pattern_units fmt n) (units_one fmt) (value_at fmt x true n p k))
    by (inr e) (inl l) =
        subst (λ v. T (lt v y)) (sym (inf_at fmt x true n p e))
        (above_inf y false (pattern_units fmt m) (units_one fmt) (value_at fmt y false m q l))
    by (inr e) (inr f) =
        subst (λ v. T (lt v y)) (sym (inf_at fmt x true n p e))
        (subst (λ v. T (lt (inf true) v)) (sym (inf_at fmt y false m q f)) inf_lt)

zero_at : (fmt : Format) (x : Float) (s : Bool) → Placed fmt x s 0 → HasValue x s 0 (units_one fmt)
zero_at binary32 x s p = value_at binary32 x s 0 p (infinite_pos binary32)
zero_at binary64 x s p = value_at binary64 x s 0 p (infinite_pos binary64)

zeros : (fmt : Format) (x y : Float) → Placed fmt x true 0 → Placed fmt y false 0 → T (eq x y)
zeros fmt x y p q =
    eq_zero x y (units_one fmt) (units_pos fmt) (zero_at fmt x true p) (zero_at fmt y false q)

same : (fmt : Format) (x y : Float) (s : Bool) (n m : ℕ) → Placed fmt x s n → Placed fmt y s m → n ≡ m → is_nan x ≡ false → T (eq x y)
same fmt x y s n m p q e nx =
    subst (λ v. T (eq x v))
    (p.0 ∙ ap (λ n. of_fields fmt s (n / hid fmt) (n % hid fmt)) e ∙ sym q.0)
    (subst T (sym (eq_self x ∙ ap not nx)) tt)

-- ---- the integers

abbrev pub keyed : Bool → ℕ → ℤ
keyed s n = cond s (neg_ℤ (pos n)) (pos n)

less : (u v : ℤ) → u <ℤ v → int_cmp u v ≡ Less
less u v h = grind (arith, ints)

greater : (u v : ℤ) → v <ℤ u → int_cmp u v ≡ Greater
greater u v h = grind (arith, ints)

level : (u v : ℤ) → u ≡ v → int_cmp u v ≡ Equal
level u v h = grind (arith, ints)

three : (n m : ℕ) → (n < m) ⊎ ((n ≡ m) ⊎ (m < n))
three n m = grind arith

some_or_none : (n m : ℕ) → (0 < n + m) ⊎ ((n ≡ 0) × (m ≡ 0))
some_or_none n m = grind arith

ordered : (fmt : Format) (s t : Bool) (n m : ℕ) (x y : Float) → Placed fmt x s n → Placed fmt y t m → is_nan x ≡ false → is_nan y ≡ false
    → int_cmp (keyed s n) (keyed t m) ≡ nan_last_cmp x y
ordered fmt false false n m x y p q nx ny = by (three n m)
  where
    by : (n < m) ⊎ ((n ≡ m) ⊎ (m < n)) → int_cmp (pos n) (pos m) ≡ nan_last_cmp x y
    by (inl h) = less (pos n) (pos m) (below_in (pos n) (pos m) (omega (arith, h))) ∙ sym (is_less x y (above fmt x y n m p q h))
    by (inr (inl e)) = level (pos n) (pos m) (ap (λ k. pos k) e) ∙ sym (is_level x y nx ny (same fmt x y false n m p q e nx))
    by (inr (inr h)) = greater (pos n) (pos m) (below_in (pos m) (pos n) (omega (arith, h))) ∙ sym (is_greater x y (above fmt y x m n q p h))
ordered fmt true true n m x y p q nx ny = by (three n m)
  where
    by : (n < m) ⊎ ((n ≡ m) ⊎ (m < n)) → int_cmp (neg_ℤ (pos n)) (neg_ℤ (pos m)) ≡ nan_last_cmp x y
    by (inl h) =
        greater (neg_ℤ (pos n)) (neg_ℤ (pos m))
        (below_in (neg_ℤ (pos m)) (neg_ℤ (pos n)) (omega (arith, neg_is (pos n), neg_is (pos m), h)))
        ∙ sym (is_greater x y (below fmt y x m n q p h))
    by (inr (inl e)) =
        level (neg_ℤ (pos n)) (neg_ℤ (pos m)) (ap (λ k. neg_ℤ (pos k)) e)
        ∙ sym (is_level x y nx ny (same fmt x y true n m p q e nx))
    by (inr (inr h)) =
        less (neg_ℤ (pos n)) (neg_ℤ (pos m))
        (below_in (neg_ℤ (pos n)) (neg_ℤ (pos m)) (omega (arith, neg_is (pos n), neg_is (pos m), h)))
        ∙ sym (is_less x y (below fmt x y n m p q h))
ordered fmt true false n m x y p q nx ny = by (some_or_none n m)
  where
    by : (0 < n + m) ⊎ ((n ≡ 0) × (m ≡ 0)) → int_cmp (neg_ℤ (pos n)) (pos m) ≡ nan_last_cmp x y
    by (inl h) =
        less (neg_ℤ (pos n)) (pos m) (below_in (neg_ℤ (pos n)) (pos m) (omega (arith, neg_is (pos n), h)))
        ∙ sym (is_less x y (across fmt x y n m p q h))
    by (inr z) =
        level (neg_ℤ (pos n)) (pos m) (ap (λ k. neg_ℤ (pos k)) z.0 ∙ ap (λ k. pos k) (sym z.1))
        ∙ sym (is_level x y nx ny (zeros fmt x y (subst (Placed fmt x true) z.0 p) (subst (Placed fmt y false) z.1 q)))
ordered fmt false true n m x y p q nx ny = by (some_or_none m n)
  where
    by : (0 < m + n) ⊎ ((m ≡ 0) × (n ≡ 0)) → int_cmp (pos n) (neg_ℤ (pos m)) ≡ nan_last_cmp x y
    by (inl h) =
        greater (pos n) (neg_ℤ (pos m)) (below_in (neg_ℤ (pos m)) (pos n) (omega (arith, neg_is (pos m), h)))
        ∙ sym (is_greater x y (across fmt y x m n q p h))
    by (inr z) =
        level (pos n) (neg_ℤ (pos m)) (ap (λ k. pos k) z.1 ∙ sym (ap (λ k. neg_ℤ (pos k)) z.0))
        ∙ sym
        (is_level x y nx ny
        (eq_flip y x (zeros fmt y x (subst (Placed fmt y true) z.0 q) (subst (Placed fmt x false) z.1 p))))

-- ---- from the bits of a float

abbrev bits_of : Format → Float → ℕ
bits_of fmt x = to_bits fmt x

of_bits_is : (fmt : Format) (b : ℕ)
    → of_bits fmt b
    ≡ of_fields fmt (leb (sign_weight fmt) b) (b % sign_weight fmt / hid fmt) (b % hid fmt)
unfolding of_bits
of_bits_is binary32 b = refl
of_bits_is binary64 b = refl

low_part : (fmt : Format) (b : ℕ) → b % hid fmt ≡ b % sign_weight fmt % hid fmt
low_part binary32 b = omega arith
low_part binary64 b = omega arith

above_is : (fmt : Format) (b : ℕ)
    → ltb (infinite fmt) (b % sign_weight fmt) ≡ ltb (ones fmt * hid fmt) (b % top fmt)
above_is binary32 b = refl
above_is binary64 b = refl

within : (a n : ℕ) → ltb a n ≡ false → n ≤ a
within a n e = grind arith

placed : (fmt : Format) (x : Float) → T (fits fmt x) → is_nan x ≡ false
    → Placed fmt x (leb (sign_weight fmt) (bits_of fmt x)) (bits_of fmt x % sign_weight fmt)
placed fmt x f nx =
    let b = bits_of fmt x in
    let back = of_bits-to_bits fmt x f in (
      sym back ∙ of_bits_is fmt b
          ∙ ap (λ t. of_fields fmt (leb (sign_weight fmt) b) (b % sign_weight fmt / hid fmt) t) (low_part fmt b),
      within (infinite fmt) (b % sign_weight fmt)
          (above_is fmt b ∙ sym (nan_bits_above fmt b) ∙ nan_bits_is fmt b ∙ ap is_nan back ∙ nx),
    )

size_is : (fmt : Format) (b : ℕ) → b < 2 * sign_weight fmt → leb (sign_weight fmt) b ≡ true
    → b - sign_weight fmt ≡ b % sign_weight fmt
size_is binary32 b h e = grind (arith, e, h)
size_is binary64 b h e = grind (arith, e, h)

unsigned_is : (fmt : Format) (b : ℕ) → leb (sign_weight fmt) b ≡ false → b ≡ b % sign_weight fmt
unsigned_is binary32 b e = grind (arith, e)
unsigned_is binary64 b e = grind (arith, e)

key_is : (fmt : Format) (b : ℕ) → b < 2 * sign_weight fmt
    → key_of_bits fmt b ≡ keyed (leb (sign_weight fmt) b) (b % sign_weight fmt)
key_is fmt b h = by (leb (sign_weight fmt) b) refl
  where
    by : (s : Bool) → leb (sign_weight fmt) b ≡ s
        → cond s (neg_ℤ (pos (b - sign_weight fmt))) (pos b) ≡ keyed s (b % sign_weight fmt)
    by true e = ap (λ n. neg_ℤ (pos n)) (size_is fmt b h e)
    by false e = ap (λ n. pos n) (unsigned_is fmt b e)

pub key_of : (fmt : Format) (x : Float) → T (fits fmt x)
    → key_of_float fmt x ≡ keyed (leb (sign_weight fmt) (bits_of fmt x)) (bits_of fmt x % sign_weight fmt)
key_of fmt x f = key_is fmt (bits_of fmt x) (bits_lt fmt x f)

nan_key : (fmt : Format) (x : Float) → is_nan x ≡ true → key_of_float fmt x ≡ pos (nan_pattern fmt)
unfolding is_nan to_bits
nan_key binary32 nan e = refl
nan_key binary64 nan e = refl
nan_key fmt (inf s) e = cc
nan_key fmt (fin s m k) e = cc

keyed_below : (fmt : Format) (s : Bool) (n : ℕ) → n ≤ infinite fmt → keyed s n <ℤ pos (nan_pattern fmt)
keyed_below fmt true n h =
    below_in (neg_ℤ (pos n)) (pos (nan_pattern fmt)) (omega (arith, neg_is (pos n), h, nan_above fmt))
keyed_below fmt false n h = below_in (pos n) (pos (nan_pattern fmt)) (omega (arith, h, nan_above fmt))

number_below : (fmt : Format) (x : Float) → T (fits fmt x) → is_nan x ≡ false → key_of_float fmt x <ℤ pos (nan_pattern fmt)
number_below fmt x f nx =
    subst (λ z. z <ℤ pos (nan_pattern fmt)) (sym (key_of fmt x f))
    (keyed_below fmt (leb (sign_weight fmt) (bits_of fmt x)) (bits_of fmt x % sign_weight fmt) (placed fmt x f nx).1)

pub keys_are_ordered : KeysAreOrdered
keys_are_ordered fmt x y f g = by (is_nan x) (is_nan y) refl refl
  where
    by : (a b : Bool) → is_nan x ≡ a → is_nan y ≡ b → int_cmp (key_of_float fmt x) (key_of_float fmt y) ≡ nan_last_cmp x y
    by true true p q =
        level (key_of_float fmt x) (key_of_float fmt y) (nan_key fmt x p ∙ sym (nan_key fmt y q))
        ∙ sym (λ i. placing (p i) (q i) (lt x y) (lt y x))
    by true false p q =
        ap (λ z. int_cmp z (key_of_float fmt y)) (nan_key fmt x p)
        ∙ greater (pos (nan_pattern fmt)) (key_of_float fmt y) (number_below fmt y g q)
        ∙ sym (λ i. placing (p i) (q i) (lt x y) (lt y x))
    by false true p q =
        ap (λ z. int_cmp (key_of_float fmt x) z) (nan_key fmt y q)
        ∙ less (key_of_float fmt x) (pos (nan_pattern fmt)) (number_below fmt x f p)
        ∙ sym (λ i. placing (p i) (q i) (lt x y) (lt y x))
    by false false p q =
        (λ i. int_cmp (key_of fmt x f i) (key_of fmt y g i))
        ∙ ordered fmt (leb (sign_weight fmt) (bits_of fmt x)) (leb (sign_weight fmt) (bits_of fmt y))
        (bits_of fmt x % sign_weight fmt) (bits_of fmt y % sign_weight fmt) x y (placed fmt x f p) (placed fmt y g q) p q

-- ---- and back

nan_level : (x : Float) → is_nan x ≡ true → nan_last_cmp x x ≡ Equal
nan_level x e = λ i. placing (e i) (e i) (lt x x) (lt x x)

self_level : (x : Float) → nan_last_cmp x x ≡ Equal
self_level x = by (is_nan x) refl
  where
    by : (a : Bool) → is_nan x ≡ a → nan_last_cmp x x ≡ Equal
    by true e = nan_level x e
    by false e = is_level x x e e (subst T (sym (eq_self x ∙ ap not e)) tt)

nan_bits_of : (fmt : Format) (x : Float) → is_nan x ≡ true → bits_of fmt x ≡ nan_pattern fmt
unfolding is_nan to_bits
nan_bits_of binary32 nan e = refl
nan_bits_of binary64 nan e = refl
nan_bits_of fmt (inf s) e = cc
nan_bits_of fmt (fin s m k) e = cc

nan_unsigned : (fmt : Format) → leb (sign_weight fmt) (nan_pattern fmt) ≡ false
nan_unsigned binary32 = refl
nan_unsigned binary64 = refl

signed_number : (fmt : Format) (x : Float) → leb (sign_weight fmt) (bits_of fmt x) ≡ true → is_nan x ≡ false
signed_number fmt x e = by (is_nan x) refl
  where
    by : (a : Bool) → is_nan x ≡ a → a ≡ false
    by false p = refl
    by true p = sym e ∙ ap (λ b. leb (sign_weight fmt) b) (nan_bits_of fmt x p) ∙ nan_unsigned fmt

zero_placed : (fmt : Format) → Placed fmt (of_bits fmt 0) false 0
zero_placed binary32 = (of_bits_is binary32 0, omega arith)
zero_placed binary64 = (of_bits_is binary64 0, omega arith)

zero_number : (fmt : Format) → is_nan (of_bits fmt 0) ≡ false
unfolding is_nan of_bits
zero_number binary32 = refl
zero_number binary64 = refl

size_zero : (fmt : Format) (b : ℕ) → b < (2 * sign_weight fmt) → leb (sign_weight fmt) b ≡ true → b - sign_weight fmt ≡ 0
    → b % sign_weight fmt ≡ 0
size_zero binary32 b h e z = grind (arith, e, z, h)
size_zero binary64 b h e z = grind (arith, e, z, h)

size_some : (fmt : Format) (b n : ℕ) → b < (2 * sign_weight fmt) → leb (sign_weight fmt) b ≡ true
    → b - sign_weight fmt ≡ suc n → (suc n + sign_weight fmt) % (2 * sign_weight fmt) ≡ b
size_some binary32 b n h e z = grind (arith, e, z, h)
size_some binary64 b n h e z = grind (arith, e, z, h)

back_by : (fmt : Format) (x : Float) → T (fits fmt x) → (s : Bool) (n : ℕ) → leb (sign_weight fmt) (bits_of fmt x) ≡ s
    → bits_of fmt x - sign_weight fmt ≡ n
    → nan_last_cmp (float_of_key fmt (cond s (neg_ℤ (pos n)) (pos (bits_of fmt x)))) x ≡ Equal
back_by fmt x f false n e h = ap (λ v. nan_last_cmp v x) (of_bits-to_bits fmt x f) ∙ self_level x
back_by fmt x f true (suc n) e h =
    ap (λ b. nan_last_cmp (of_bits fmt b) x) (size_some fmt (bits_of fmt x) n (bits_lt fmt x f) e h)
    ∙ ap (λ v. nan_last_cmp v x) (of_bits-to_bits fmt x f)
    ∙ self_level x
back_by fmt x f true zero e h =
    let nx = signed_number fmt x e in
    let here : Placed fmt x true 0 =
    subst (λ n. Placed fmt x true n) (size_zero fmt (bits_of fmt x) (bits_lt fmt x f) e h)
    (subst (λ s. Placed fmt x s (bits_of fmt x % sign_weight fmt)) e (placed fmt x f nx)) in
    is_level (of_bits fmt 0) x (zero_number fmt) nx
    (eq_flip x (of_bits fmt 0) (zeros fmt x (of_bits fmt 0) here (zero_placed fmt)))

pub keys_are_read_back : KeysAreReadBack
keys_are_read_back fmt x f =
    back_by fmt x f (leb (sign_weight fmt) (bits_of fmt x)) (bits_of fmt x - sign_weight fmt) refl refl
