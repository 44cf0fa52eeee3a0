-- Stored integers at one scale are in the order of what they mean.
use Rattle.std.proofs.Common.{◌≡◌, ◌∙◌, ℕ, ℤ, zero, suc, ◌-◌, ◌≤◌, arith, sym, subst, true, refl}
use Rattle.std.specs.Prelude.{◌<ℤ◌}
use Rattle.std.specs.Ordering.{int_cmp}
use Rattle.std.specs.declared.cmp.Ordering.{Ordering}
use Rattle.std.specs.declared.cmp.Ordering.TheVariants.{Less, Equal, Greater}
use Rattle.std.proofs.lemmas.Int.{ints}
use Rattle.vortex_types.specs.declared.dtype.PType.{PType}
use Rattle.vortex_logical.specs.declared.kind.Kind.{Kind}
use Rattle.vortex_logical.specs.declared.kind.Kind.TheVariants.{Plain, Date, Timestamp, Decimal, F64, F32}
use Rattle.vortex_logical.specs.declared.operand.Operand.{Operand}
use Rattle.vortex_logical.specs.declared.operand.Operand.TheVariants.{Whole, Of}
use Rattle.vortex_logical.specs.Digits.{Digits}
use Rattle.vortex_logical.specs.Decimals.{shifted, decimal_cmp, RescalingOrders}
use Rattle.vortex_logical.specs.StandsFor.{Meaning, number, StandsFor, StoredValuesAreOrdered}
use Rattle.vortex_lowering.specs.Operands.{OperandMeans, are_shipped, scale_of, lacking}
use Rattle.vortex_lowering.specs.Truths.{AreOrdered}

-- z * 10 ^ k, and z itself where k is zero
abbrev pub longer : ℕ → ℤ → ℤ
longer zero z = z
longer (suc k) z = shifted z (suc k)

is_less : (y z : ℤ) → y <ℤ z → int_cmp y z ≡ Less
is_less y z h = grind (arith, ints, h)

is_greater : (y z : ℤ) → z <ℤ y → int_cmp y z ≡ Greater
is_greater y z h = grind (arith, ints, h)

is_equal : (y z : ℤ) → y ≡ z → int_cmp y z ≡ Equal
is_equal y z h = grind (arith, ints, h)

turned : (y z : ℤ) → int_cmp y z ≡ Less → int_cmp z y ≡ Greater
turned y z h = grind (arith, ints, h)

by_ten_0 : (z : ℤ) → shifted z 0 ≡ z
by_ten_0 z = grind (arith, ints)

pub longer_is : (k : ℕ) (z : ℤ) → shifted z k ≡ longer k z
longer_is zero z = by_ten_0 z
longer_is (suc k) z = λ i. shifted z (suc k)

of_numbers : (m n : ℤ) (s t : ℕ) (c : Ordering) → AreOrdered (number m s) (number n t) c → decimal_cmp m s n t ≡ c
of_numbers m n s t Less e = e
of_numbers m n s t Equal e = is_equal (shifted m t) (shifted n s) e
of_numbers m n s t Greater e = turned (shifted n s) (shifted m t) e

-- the integer is the number, at that scale
abbrev pub NumberAt : ℕ → ℤ → Meaning → Type 0
NumberAt a y (number m s) = (y ≡ m) × (s ≡ a)
NumberAt a y v = ⊥

pub whole_number : (p : PType) (y : ℤ) (v : Meaning) → OperandMeans (Whole p) y v → NumberAt 0 y v
whole_number p y (number m s) h = h
whole_number p y v h = absurd h

pub decimal_number : (d : Digits) (y : ℤ) (v : Meaning) → OperandMeans (Of (Decimal d)) y v → NumberAt d.scale y v
decimal_number d y (number m s) h = h
decimal_number d y v h = absurd h

module _ (ordered : StoredValuesAreOrdered) (orders : RescalingOrders) where
  of_kind : (k : Kind) (y z : ℤ) (v w : Meaning) (c : Ordering) → StandsFor k y v → StandsFor k z w → AreOrdered v w c
      → int_cmp y z ≡ c
  of_kind k y z v w Less h g e = is_less y z ((ordered k y z v w h g).0 e)
  of_kind k y z v w Equal h g e = is_equal y z ((ordered k y z v w h g).1 e)
  of_kind k y z v w Greater h g e = is_greater y z ((ordered k z y w v g h).0 e)

  module _ (u : ℕ) where
    numbers : (m n : ℤ) (s t : ℕ) (c : Ordering) → s ≤ u → t ≤ u → AreOrdered (number m s) (number n t) c
        → int_cmp (longer (u - s) m) (longer (u - t) n) ≡ c
    numbers m n s t c l k e =
        (λ i. int_cmp (sym (longer_is (u - s) m) i) (sym (longer_is (u - t) n) i))
        ∙ orders m n s t u l k
        ∙ of_numbers m n s t c e

    -- the same of operands whose stored integers are those of the numbers
    of_scales : (y z m n : ℤ) (s t a b : ℕ) (c : Ordering) → a ≤ u → b ≤ u → y ≡ m → s ≡ a → z ≡ n → t ≡ b
        → AreOrdered (number m s) (number n t) c → int_cmp (longer (u - a) y) (longer (u - b) z) ≡ c
    of_scales y z m n s t a b c l k e f g h o =
        (λ i. int_cmp (longer (u - sym f i) (e i)) (longer (u - sym h i) (g i)))
        ∙ numbers m n s t c (subst (λ r. r ≤ u) (sym f) l) (subst (λ r. r ≤ u) (sym h) k) o

    of_two : (y z : ℤ) (v w : Meaning) (a b : ℕ) (c : Ordering) → a ≤ u → b ≤ u → NumberAt a y v → NumberAt b z w
        → AreOrdered v w c → int_cmp (longer (u - a) y) (longer (u - b) z) ≡ c
    of_two y z (number m s) (number n t) a b c l k h g o = of_scales y z m n s t a b c l k h.0 h.1 g.0 g.1 o
    of_two y z (number m s) w a b c l k h g o = absurd g
    of_two y z v w a b c l k h g o = absurd h

    nothing_less : u ≡ u - 0
    nothing_less = omega arith

    beside : (y z : ℤ) (v w : Meaning) (a b k j : ℕ) (c : Ordering) → k ≡ u - a → j ≡ u - b → a ≤ u → b ≤ u
        → NumberAt a y v → NumberAt b z w → AreOrdered v w c → int_cmp (longer k y) (longer j z) ≡ c
    beside y z v w a b k j c e f l r h g o =
        (λ i. int_cmp (longer (e i) y) (longer (f i) z)) ∙ of_two y z v w a b c l r h g o

    -- the stored integers of two operands, with the digits that they lack at a scale, are in the order of their values
    pub stored_comparison : (a b : Operand) → are_shipped a b ≡ true → scale_of a ≤ u → scale_of b ≤ u
        → (y z : ℤ) (v w : Meaning) (c : Ordering) → OperandMeans a y v → OperandMeans b z w → AreOrdered v w c
        → int_cmp (longer (lacking u a) y) (longer (lacking u b) z) ≡ c
    stored_comparison (Whole p) (Whole q) r l k y z v w c h g o =
        beside y z v w 0 0 u u c nothing_less nothing_less l k (whole_number p y v h) (whole_number q z w g) o
    stored_comparison (Of (Decimal d)) (Of (Decimal e)) r l k y z v w c h g o =
        of_two y z v w d.scale e.scale c l k (decimal_number d y v h) (decimal_number e z w g) o
    stored_comparison (Of (Decimal d)) (Whole p) r l k y z v w c h g o =
        beside y z v w d.scale 0 (u - d.scale) u c refl nothing_less l k (decimal_number d y v h) (whole_number p z w g) o
    stored_comparison (Whole p) (Of (Decimal e)) r l k y z v w c h g o =
        beside y z v w 0 e.scale u (u - e.scale) c nothing_less refl l k (whole_number p y v h) (decimal_number e z w g) o
    stored_comparison (Of Date) (Of Date) r l k y z v w c h g o = of_kind Date y z v w c h g o
    stored_comparison (Of Timestamp) (Of Timestamp) r l k y z v w c h g o = of_kind Timestamp y z v w c h g o
    stored_comparison (Of F64) (Of F64) r l k y z v w c h g o = of_kind F64 y z v w c h g o
    stored_comparison (Of F32) (Of F32) r l k y z v w c h g o = of_kind F32 y z v w c h g o
    stored_comparison (Of Plain) b r l k y z v w c h g o = absurd h
    stored_comparison a b r l k y z v w c h g o = cc
