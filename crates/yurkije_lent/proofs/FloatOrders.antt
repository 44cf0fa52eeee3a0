-- The processor's comparison of two floats that are no NaN, and the order of their keys.
use Rattle.std.proofs.Common.{◌≡◌, ◌⊎◌, inl, inr, Bool, true, false, cond, T, refl, sym, ap, ◌∙◌}
use Rattle.std.proofs.Common.{subst, ℕ, ℤ, of_z, w64, ◌<◌, ◌^◌, List, get_or}
use Rattle.std.specs.Prelude.{not}
use Rattle.std.specs.Int.{bit_not}
use Rattle.std.specs.Float.{Float, binary64, float_zero}
use Rattle.std.specs.Ordering.{int_cmp, nan_last_cmp, is_eq, is_lt, is_gt}
use Rattle.std.specs.declared.cmp.Ordering.{Ordering}
use Rattle.std.specs.declared.cmp.Ordering.TheVariants.{Less, Equal, Greater}
use Rattle.std.proofs.lemmas.Float.{lt_trans, lt_irrefl, eq-not_lt, eq_flip, le_of_not-lt, lt-or-eq}
use lib.Ieee.{lt, eq, is_nan, nan_bits}
use lib.Ieee.Bits.{nan_bits_is, of_bits-fits}
use Rattle.vortex_logical.specs.FloatKeys.{KeysAreOrdered}
use Rattle.vortex_bits.specs.Bits.{bit}
use Rattle.vortex_bits.proofs.WordLogic.{not_bit}
use Rattle.vortex_float_bits.specs.FloatBits.{float_of, wide_key}
use Rattle.vortex_operators.specs.OperatorValues.{holds}
use Rattle.vortex_operators.specs.declared.operators.CompareOperator.{CompareOperator}
use Rattle.vortex_operators.specs.declared.operators.CompareOperator.TheVariants.{Eq, NotEq, Gt}
use Rattle.vortex_operators.specs.declared.operators.CompareOperator.TheVariants.{Gte, Lt, Lte}

-- a number's pattern may be read
pub number_pattern : (z : ℤ) (b : ℕ) → b ≡ of_z w64 z → is_nan (float_of z) ≡ false
    → T (not (nan_bits binary64 b))
number_pattern z b e h =
    by (nan_bits binary64 b)
    (ap (λ k. nan_bits binary64 k) e ∙ nan_bits_is binary64 (of_z w64 z) ∙ h)
  where
    by : (c : Bool) → c ≡ false → T (not c)
    by false q = tt
    by true q = cc

-- the order of the keys
pub key_order : KeysAreOrdered → (a b : ℤ)
    → nan_last_cmp (float_of a) (float_of b) ≡ int_cmp (wide_key a) (wide_key b)
unfolding wide_key
key_order ordered a b =
    sym
    (ordered binary64 (float_of a) (float_of b) (of_bits-fits binary64 (of_z w64 a))
    (of_bits-fits binary64 (of_z w64 b)))

abbrev placing : Bool → Bool → Ordering
placing l g = cond l Less (cond g Greater Equal)

numbers : (x y : Float) → is_nan x ≡ false → is_nan y ≡ false
    → nan_last_cmp x y ≡ placing (lt x y) (lt y x)
numbers x y h k =
    λ i.
    cond (h i) (cond (is_nan y) Equal Greater) (cond (k i) Less (placing (lt x y) (lt y x)))

not_both : (x y : Float) → lt x y ≡ true → lt y x ≡ true → ⊥
not_both x y h k =
    lt_irrefl x (lt_trans x y x (subst T (sym h) tt) (subst T (sym k) tt))

-- less, greater and equal
pub less_is : (x y : Float) → is_nan x ≡ false → is_nan y ≡ false
    → lt x y ≡ is_lt (nan_last_cmp x y)
less_is x y h k = by (lt x y) (lt y x) ∙ ap is_lt (sym (numbers x y h k))
  where
    by : (l g : Bool) → l ≡ is_lt (placing l g)
    by true g = refl
    by false true = refl
    by false false = refl

pub greater_is : (x y : Float) → is_nan x ≡ false → is_nan y ≡ false
    → lt y x ≡ is_gt (nan_last_cmp x y)
greater_is x y h k = by (lt x y) (lt y x) refl refl ∙ ap is_gt (sym (numbers x y h k))
  where
    by : (l g : Bool) → lt x y ≡ l → lt y x ≡ g → g ≡ is_gt (placing l g)
    by true true p q = absurd (not_both x y p q)
    by true false p q = refl
    by false true p q = refl
    by false false p q = refl

holds_not : (b : Bool) → b ≡ false → T (not b)
holds_not false h = tt
holds_not true h = cc

is_so : (b : Bool) → T b → b ≡ true
is_so true h = refl
is_so false h = absurd h

never : (b : Bool) → ¬ (T b) → b ≡ false
never true h = absurd (h tt)
never false h = refl

pub equal_is : (x y : Float) → is_nan x ≡ false → is_nan y ≡ false
    → eq x y ≡ is_eq (nan_last_cmp x y)
equal_is x y h k = by (lt x y) (lt y x) refl refl ∙ ap is_eq (sym (numbers x y h k))
  where
    less : (z w : Float) → lt z w ≡ true → eq z w ≡ false
    less z w p = never (eq z w) (λ e. eq-not_lt z w e (subst T (sym p) tt))

    by : (l g : Bool) → lt x y ≡ l → lt y x ≡ g → eq x y ≡ is_eq (placing l g)
    by true g p q = less x y p
    by false true p q = never (eq x y) (λ e. eq-not_lt y x (eq_flip x y e) (subst T (sym q) tt))
    by false false p q =
        level
        (lt-or-eq x y
        (le_of_not-lt y x (holds_not (is_nan y) k) (holds_not (is_nan x) h) (holds_not (lt y x) q)))
      where
        level : T (lt x y) ⊎ T (eq x y) → eq x y ≡ true
        level (inl less) = absurd (subst T p less)
        level (inr same) = is_so (eq x y) same

-- the comparison that is true for some of the three orders
pub at_most : (op : CompareOperator) → holds op Equal ≡ true → holds op Less ≡ true
    → (o : Ordering) → not (is_gt o) ≡ holds op o
at_most Lte h k Less = refl
at_most Lte h k Equal = refl
at_most Lte h k Greater = refl
at_most Eq h k o = cc
at_most NotEq h k o = cc
at_most Gt h k o = cc
at_most Gte h k o = cc
at_most Lt h k o = cc

pub at_least : (op : CompareOperator) → holds op Equal ≡ true → holds op Greater ≡ true
    → (o : Ordering) → not (is_lt o) ≡ holds op o
at_least Gte h k Less = refl
at_least Gte h k Equal = refl
at_least Gte h k Greater = refl
at_least Eq h k o = cc
at_least NotEq h k o = cc
at_least Gt h k o = cc
at_least Lt h k o = cc
at_least Lte h k o = cc

pub level : (op : CompareOperator) → holds op Equal ≡ true → holds op Less ≡ false
    → holds op Greater ≡ false → (o : Ordering) → is_eq o ≡ holds op o
level Eq h k m o = refl
level NotEq h k m o = cc
level Gt h k m o = cc
level Gte h k m o = cc
level Lt h k m o = cc
level Lte h k m o = cc

pub unlike : (op : CompareOperator) → holds op Equal ≡ false → holds op Less ≡ true
    → holds op Greater ≡ true → (o : Ordering) → not (is_eq o) ≡ holds op o
unlike NotEq h k m Less = refl
unlike NotEq h k m Equal = refl
unlike NotEq h k m Greater = refl
unlike Eq h k m o = cc
unlike Gt h k m o = cc
unlike Gte h k m o = cc
unlike Lt h k m o = cc
unlike Lte h k m o = cc

pub below : (op : CompareOperator) → holds op Equal ≡ false → holds op Less ≡ true
    → holds op Greater ≡ false → (o : Ordering) → is_lt o ≡ holds op o
below Lt h k m o = refl
below Eq h k m o = cc
below NotEq h k m o = cc
below Gt h k m o = cc
below Gte h k m o = cc
below Lte h k m o = cc

pub above : (op : CompareOperator) → holds op Equal ≡ false → holds op Less ≡ false
    → (o : Ordering) → is_gt o ≡ holds op o
above Gt h k o = refl
above Eq h k o = cc
above NotEq h k o = cc
above Gte h k o = cc
above Lt h k o = cc
above Lte h k o = cc

-- of 64 floats that are no NaN
module _ (op : CompareOperator) (xs ys : List Float)
    (nx : (j : ℕ) → j < 64 → is_nan (get_or xs j float_zero) ≡ false)
    (ny : (j : ℕ) → j < 64 → is_nan (get_or ys j float_zero) ≡ false) (word : ℕ) where
  abbrev pub Told : (Float → Float → Bool) → Type 0
  Told t = (j : ℕ) → j < 64 → bit word j ≡ t (get_or xs j float_zero) (get_or ys j float_zero)

  abbrev pub Held : ℕ → Type 0
  Held w =
      (j : ℕ) → j < 64
      → bit w j ≡ holds op (nan_last_cmp (get_or xs j float_zero) (get_or ys j float_zero))

  pub held_at_most : word < 2 ^ 64 → holds op Equal ≡ true → holds op Less ≡ true
      → Told (λ x y. lt y x) → Held (bit_not w64 word)
  held_at_most fits e l told j small =
      not_bit word j fits small
      ∙ ap not
      (told j small
      ∙ greater_is (get_or xs j float_zero) (get_or ys j float_zero) (nx j small) (ny j small))
      ∙ at_most op e l (nan_last_cmp (get_or xs j float_zero) (get_or ys j float_zero))

  pub held_at_least : word < 2 ^ 64 → holds op Equal ≡ true → holds op Greater ≡ true
      → Told lt → Held (bit_not w64 word)
  held_at_least fits e g told j small =
      not_bit word j fits small
      ∙ ap not
      (told j small
      ∙ less_is (get_or xs j float_zero) (get_or ys j float_zero) (nx j small) (ny j small))
      ∙ at_least op e g (nan_last_cmp (get_or xs j float_zero) (get_or ys j float_zero))

  pub held_level : holds op Equal ≡ true → holds op Less ≡ false → holds op Greater ≡ false
      → Told eq → Held word
  held_level e l g told j small =
      told j small
      ∙ equal_is (get_or xs j float_zero) (get_or ys j float_zero) (nx j small) (ny j small)
      ∙ level op e l g (nan_last_cmp (get_or xs j float_zero) (get_or ys j float_zero))

  pub held_unlike : word < 2 ^ 64 → holds op Equal ≡ false → holds op Less ≡ true
      → holds op Greater ≡ true → Told eq → Held (bit_not w64 word)
  held_unlike fits e l g told j small =
      not_bit word j fits small
      ∙ ap not
      (told j small
      ∙ equal_is (get_or xs j float_zero) (get_or ys j float_zero) (nx j small) (ny j small))
      ∙ unlike op e l g (nan_last_cmp (get_or xs j float_zero) (get_or ys j float_zero))

  pub held_below : holds op Equal ≡ false → holds op Less ≡ true → holds op Greater ≡ false
      → Told lt → Held word
  held_below e l g told j small =
      told j small
      ∙ less_is (get_or xs j float_zero) (get_or ys j float_zero) (nx j small) (ny j small)
      ∙ below op e l g (nan_last_cmp (get_or xs j float_zero) (get_or ys j float_zero))

  pub held_above : holds op Equal ≡ false → holds op Less ≡ false → Told (λ x y. lt y x)
      → Held word
  held_above e l told j small =
      told j small
      ∙ greater_is (get_or xs j float_zero) (get_or ys j float_zero) (nx j small) (ny j small)
      ∙ above op e l (nan_last_cmp (get_or xs j float_zero) (get_or ys j float_zero))
