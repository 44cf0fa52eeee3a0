-- Results of two finite floats, and rows with a NaN.
use Rattle.std.proofs.Common.{◌≡◌, ℕ, zero, suc, Bool, true, false, cond, not, ◌&&◌, ◌||◌, refl, sym, ap}
use Rattle.std.proofs.Common.{◌∙◌, ℤ, pos, negsuc, ◌<◌, ◌*◌, ◌^◌, ◌+◌, ◌-◌, T, eqb, subst, to_z, of_z, ltb, Option, Some, None, arith, FitsSigned, w64}
use Rattle.std.specs.Prelude.{from_bits}
use Rattle.std.proofs.lemmas.Int.{ints, of_z-to_z}
use Rattle.std.specs.Float.{Format, binary64, float_is_finite, float_is_infinite, float_one}
use lib.Ieee.{Float, nan, inf, fin, is_nan, odd, units, round, sum, add, sub, neg, mul, div, eq}
use lib.Ieee.{prec, emax, low, up, down, level, unlike, nan_bits, fits, to_bits}
use lib.Ieee.Bits.{nan_bits_is, of_bits-to_bits, to_bits-lt}
use mathlib.Core.Bool.{beq}
use Rattle.vortex_float_bits.specs.FloatBits.{float_of}
use Rattle.std.proofs.Math.Nat.{zero-mul}
use Rattle.vortex_types.specs.declared.dtype.PType.TheVariants.{I64}
use Rattle.vortex_types.specs.Values.{number}
use Rattle.vortex_interface.specs.Outcomes.{gives}
use Rattle.vortex_logical.specs.FloatKeys.{key_of_float, float_of_key}
use Rattle.vortex_sql_rows.specs.declared.faults.RowFault.{RowFault}
use Rattle.vortex_sql_rows.specs.declared.faults.RowFault.TheVariants as fault
use Rattle.vortex_sql_rows.specs.Integers.{checked}
use Rattle.vortex_sql_rows.specs.Types.{is_in}
use Rattle.vortex_sql_rows.specs.Shapes.{with_both}
use Rattle.vortex_sql_floats.specs.FloatOutcomes.{gives_unless}
use Rattle.vortex_sql_floats.specs.ArithmeticRows.{arithmetic, operated}
use Rattle.vortex_sql_floats.specs.declared.floats.FloatOperator.{FloatOperator}
use Rattle.vortex_sql_floats.specs.declared.floats.FloatOperator.TheVariants.{Add, Subtract, Multiply, Divide}
use Rattle.vortex_sql_floats.specs.FloatArithmetic.{applied, fault_by, is_zero, divides_by_zero, overflows, underflows}
use Rattle.vortex_sql_float_columns.specs.PlainRows.{is_plain, is_right_side, vanishes, may_fault}

odd_number : (d : ℕ) (s : Bool) (q k l : ℕ) → is_nan (odd d s q k l) ≡ false
unfolding odd is_nan
odd_number d s zero k l = refl
odd_number d s (suc q) k l = refl

units_number : (f : Format) (s : Bool) (q k : ℕ) → is_nan (units f s q k) ≡ false
unfolding units is_nan
units_number f s q k =
    by (ltb (q * 2 ^ k) (2 ^ (low f + suc (emax f)))) (odd (suc (prec f)) s q k (low f))
    (odd_number (suc (prec f)) s q k (low f))
  where
    by : (b : Bool) (x : Float) → is_nan x ≡ false → is_nan (cond b x (inf s)) ≡ false
    by true x h = h
    by false x h = refl

round_number : (f : Format) (s : Bool) (n d : ℕ) → is_nan (round f s n d) ≡ false
unfolding round
round_number f s n d = units_number f s _ _

either : (b : Bool) (x y : Float) → is_nan x ≡ false → is_nan y ≡ false → is_nan (cond b x y) ≡ false
either true x y h k = h
either false x y h k = k

sum_number : (f : Format) (s : Bool) (a : ℕ) (t : Bool) (b c : ℕ) → is_nan (sum f s a t b c) ≡ false
unfolding sum
sum_number f s a t b c =
    let less = round f t (b - a) c in
    let more = round f (s && ltb b a) (a - b) c in
    either (beq s t) (round f s (a + b) c) (cond (ltb a b) less more) (round_number f s (a + b) c)
    (either (ltb a b) less more (round_number f t (b - a) c) (round_number f (s && ltb b a) (a - b) c))

add_number : (x y : Float) → float_is_finite x ≡ true → float_is_finite y ≡ true
    → is_nan (add binary64 x y) ≡ false
unfolding add float_is_finite
add_number nan y h k = cc
add_number (inf s) y h k = cc
add_number (fin s m e) nan h k = cc
add_number (fin s m e) (inf t) h k = cc
add_number (fin s m e) (fin t n d) h k =
    sum_number binary64 s (m * up e * down d) t (n * up d * down e) (down e * down d)

neg_finite : (y : Float) → float_is_finite y ≡ true → float_is_finite (neg y) ≡ true
unfolding neg float_is_finite
neg_finite nan h = h
neg_finite (inf s) h = h
neg_finite (fin s m e) h = refl

mul_number : (x y : Float) → float_is_finite x ≡ true → float_is_finite y ≡ true
    → is_nan (mul binary64 x y) ≡ false
unfolding mul float_is_finite
mul_number nan y h k = cc
mul_number (inf s) y h k = cc
mul_number (fin s m e) nan h k = cc
mul_number (fin s m e) (inf t) h k = cc
mul_number (fin s m e) (fin t n d) h k =
    round_number binary64 (unlike s t) (m * up e * (n * up d)) (down e * down d)

some : (n : ℕ) → eqb (suc n) 0 ≡ false
some n = grind arith

zero_divisor : (t : Bool) (d : ℤ) → is_zero (fin t 0 d) ≡ true
unfolding eq
zero_divisor t d =
    (λ i. level t (zero-mul (up d) i * 1) false (zero-mul (down d) i)) ∙ by t
  where
    by : (s : Bool) → level s (0 * 1) false 0 ≡ true
    by true = refl
    by false = refl

div_number : (x y : Float) → float_is_finite x ≡ true → float_is_finite y ≡ true
    → is_zero y ≡ false → is_nan (div binary64 x y) ≡ false
unfolding div float_is_finite
div_number nan y h k z = cc
div_number (inf s) y h k z = cc
div_number (fin s m e) nan h k z = cc
div_number (fin s m e) (inf t) h k z = cc
div_number (fin s m e) (fin t zero d) h k z = absurd (by (is_zero (fin t 0 d)) (zero_divisor t d) z)
  where
    by : (b : Bool) → b ≡ true → b ≡ false → ⊥
    by b p q = cc
div_number (fin s m e) (fin t (suc n) d) h k z =
    let rest = round binary64 (unlike s t) (m * up e * down d) (suc n * up d * down e) in
    ap (λ b. is_nan (cond b (cond (eqb m 0) nan (inf (unlike s t))) rest)) (some n)
    ∙ round_number binary64 (unlike s t) (m * up e * down d) (suc n * up d * down e)

pub both_left : (a b : Bool) → (a && b) ≡ true → a ≡ true
both_left true b h = refl
both_left false b h = h

pub both_right : (a b : Bool) → (a && b) ≡ true → b ≡ true
both_right true b h = h
both_right false b h = cc

not_so : (a : Bool) → not a ≡ true → a ≡ false
not_so true h = cc
not_so false h = refl

right_finite : (op : FloatOperator) (y : Float) → is_right_side op y ≡ true → float_is_finite y ≡ true
right_finite Add y h = h
right_finite Subtract y h = h
right_finite Multiply y h = h
right_finite Divide y h = both_left (float_is_finite y) (not (is_zero y)) h

-- the result of a plain row is a number
pub plain_number : (op : FloatOperator) (x y : Float) → is_plain op x y ≡ true
    → is_nan (applied op x y) ≡ false
unfolding sub
plain_number op x y h = by op left right
  where
    left : float_is_finite x ≡ true
    left = both_left (float_is_finite x) (is_right_side op y) h

    right : is_right_side op y ≡ true
    right = both_right (float_is_finite x) (is_right_side op y) h

    by : (o : FloatOperator) → float_is_finite x ≡ true → is_right_side o y ≡ true
        → is_nan (applied o x y) ≡ false
    by Add l r = add_number x y l r
    by Subtract l r = add_number x (neg y) l (neg_finite y r)
    by Multiply l r = mul_number x y l r
    by Divide l r =
        div_number x y l (both_left (float_is_finite y) (not (is_zero y)) r)
        (not_so (is_zero y) (both_right (float_is_finite y) (not (is_zero y)) r))

-- 1 may stand on both sides
pub ones_are_plain : (op : FloatOperator) → is_plain op float_one float_one ≡ true
unfolding float_is_finite eq
ones_are_plain Add = refl
ones_are_plain Subtract = refl
ones_are_plain Multiply = refl
ones_are_plain Divide = refl

pub plain_left : (op : FloatOperator) (x y : Float) → is_plain op x y ≡ true → float_is_finite x ≡ true
plain_left op x y h = both_left (float_is_finite x) (is_right_side op y) h

pub plain_right : (op : FloatOperator) (x y : Float) → is_plain op x y ≡ true → float_is_finite y ≡ true
plain_right op x y h = right_finite op y (both_right (float_is_finite x) (is_right_side op y) h)

fault_if : Bool → Bool → Bool → Option RowFault
fault_if a b c =
    cond a (Some fault.ZeroDivisor) (cond b (Some fault.FloatOverflow) (cond c (Some fault.FloatUnderflow) None))

no_fault : (op : FloatOperator) (x y : Float) → divides_by_zero op x y ≡ false
    → overflows op x y ≡ false → underflows op x y ≡ false → fault_by op x y ≡ None
unfolding fault_if
no_fault op x y a b c = λ i. fault_if (a i) (b i) (c i)

and_false : (b : Bool) → (b && false) ≡ false
and_false true = refl
and_false false = refl

or_false : (b : Bool) → (b || false) ≡ b
or_false true = refl
or_false false = refl

never_infinite : (y : Float) → float_is_finite y ≡ true → float_is_infinite y ≡ false
unfolding float_is_finite float_is_infinite
never_infinite nan h = refl
never_infinite (inf s) h = cc
never_infinite (fin s m e) h = refl

-- a plain row whose result shows no fault has none
pub plain_faultless : (op : FloatOperator) (x y : Float) → is_plain op x y ≡ true
    → float_is_infinite (applied op x y) ≡ false
    → (is_zero (applied op x y) && vanishes op x y) ≡ false → fault_by op x y ≡ None
plain_faultless op x y h small kept =
    no_fault op x y (divided op (both_right (float_is_finite x) (is_right_side op y) h))
    (ap (λ b. b && not (float_is_infinite x || float_is_infinite y)) small)
    (lost op (both_right (float_is_finite x) (is_right_side op y) h) kept)
  where
    divided : (o : FloatOperator) → is_right_side o y ≡ true → divides_by_zero o x y ≡ false
    divided Add r = refl
    divided Subtract r = refl
    divided Multiply r = refl
    divided Divide r =
        ap (λ b. b && not (is_nan x)) (not_so (is_zero y) (both_right (float_is_finite y) (not (is_zero y)) r))

    lost : (o : FloatOperator) → is_right_side o y ≡ true
        → (is_zero (applied o x y) && vanishes o x y) ≡ false → underflows o x y ≡ false
    lost Add r k = refl
    lost Subtract r k = refl
    lost Multiply r k = k
    lost Divide r k =
        ap (λ b. is_zero (applied Divide x y) && not (is_zero x || b))
        (never_infinite y (both_left (float_is_finite y) (not (is_zero y)) r))
        ∙ ap (λ b. is_zero (applied Divide x y) && not b) (or_false (is_zero x))
        ∙ k

nan_result : (op : FloatOperator) (x y : Float) → (is_nan x || is_nan y) ≡ true
    → applied op x y ≡ nan
unfolding add sub mul div neg is_nan
nan_result Add nan y h = refl
nan_result Subtract nan y h = refl
nan_result Multiply nan y h = refl
nan_result Divide nan y h = refl
nan_result Add (inf s) nan h = refl
nan_result Subtract (inf s) nan h = refl
nan_result Multiply (inf s) nan h = refl
nan_result Divide (inf s) nan h = refl
nan_result Add (fin s m e) nan h = refl
nan_result Subtract (fin s m e) nan h = refl
nan_result Multiply (fin s m e) nan h = refl
nan_result Divide (fin s m e) nan h = refl
nan_result op (inf s) (inf t) h = cc
nan_result op (inf s) (fin t n d) h = cc
nan_result op (fin s m e) (inf t) h = cc
nan_result op (fin s m e) (fin t n d) h = cc

nan_is_no_zero : (op : FloatOperator) (x y : Float) → (is_nan x || is_nan y) ≡ true
    → divides_by_zero op x y ≡ false
unfolding is_nan eq
nan_is_no_zero Add x y h = refl
nan_is_no_zero Subtract x y h = refl
nan_is_no_zero Multiply x y h = refl
nan_is_no_zero Divide nan y h = and_false (is_zero y)
nan_is_no_zero Divide (inf s) nan h = refl
nan_is_no_zero Divide (fin s m e) nan h = refl
nan_is_no_zero Divide (inf s) (inf t) h = cc
nan_is_no_zero Divide (inf s) (fin t n d) h = cc
nan_is_no_zero Divide (fin s m e) (inf t) h = cc
nan_is_no_zero Divide (fin s m e) (fin t n d) h = cc

nan_infinite : float_is_infinite nan ≡ false
unfolding float_is_infinite
nan_infinite = refl

nan_zero : is_zero nan ≡ false
unfolding eq
nan_zero = refl

nan_nan : is_nan nan ≡ true
unfolding is_nan
nan_nan = refl

-- a NaN among the operands makes a NaN, and no fault
pub nan_row : (op : FloatOperator) (x y : Float) → (is_nan x || is_nan y) ≡ true
    → (fault_by op x y ≡ None) × (is_nan (applied op x y) ≡ true)
nan_row op x y h =
    let made = nan_result op x y h in (
      no_fault op x y (nan_is_no_zero op x y h)
          (ap (λ b. b && not (float_is_infinite x || float_is_infinite y)) (ap float_is_infinite made ∙ nan_infinite))
          (lost op (ap is_zero made ∙ nan_zero)),
      ap is_nan made ∙ nan_nan,
    )
  where
    lost : (o : FloatOperator) → is_zero (applied o x y) ≡ false → underflows o x y ≡ false
    lost Add k = refl
    lost Subtract k = refl
    lost Multiply k = ap (λ b. b && not (is_zero x || is_zero y)) k
    lost Divide k = ap (λ b. b && not (is_zero x || float_is_infinite y)) k

told : (p q r : Bool) → (not p || (q || r)) ≡ false → (p ≡ true) × (q ≡ false) × (r ≡ false)
told true false false h = (refl, refl, refl)
told true true r h = cc
told true false true h = cc
told false q r h = cc

-- a row that may not fault
pub sound_row : (op : FloatOperator) (x y z : Float) → may_fault op x y z ≡ false
    → (is_plain op x y ≡ true → z ≡ applied op x y)
    → (fault_by op x y ≡ None) × ((z ≡ applied op x y) × (is_nan z ≡ false))
sound_row op x y z h is =
    let t = told (is_plain op x y) (float_is_infinite z) (is_zero z && vanishes op x y) h in
    let e = is t.0 in (
      plain_faultless op x y t.0 (sym (ap float_is_infinite e) ∙ t.1)
          (sym (ap (λ v. is_zero v && vanishes op x y) e) ∙ t.2),
      (e, ap is_nan e ∙ plain_number op x y t.0),
    )

is_in_64 : (z : ℤ) → FitsSigned w64 z → checked I64 z ≡ Some z
is_in_64 (pos n) h = ap (λ b. cond b (Some (pos n)) None) (by n h.sfits)
  where
    by : (n : ℕ) → n < 9223372036854775808 → is_in I64 (pos n) ≡ true
    by n k = grind (arith, ints, k)
is_in_64 (negsuc n) h = ap (λ b. cond b (Some (negsuc n)) None) (by n h.sfits)
  where
    by : (n : ℕ) → n < 9223372036854775808 → is_in I64 (negsuc n) ≡ true
    by n k = grind (arith, ints, k)

-- the row of two keys
pub keyed_row : (op : FloatOperator) (a b z : ℤ) → FitsSigned w64 a → FitsSigned w64 b
    → fault_by op (float_of_key binary64 a) (float_of_key binary64 b) ≡ None
    → key_of_float binary64 (applied op (float_of_key binary64 a) (float_of_key binary64 b)) ≡ z
    → arithmetic op a b ≡ gives (number z)
keyed_row op a b z h k f e =
    (λ i. with_both (operated op) (is_in_64 a h i) (is_in_64 b k i))
    ∙ ap (λ m. gives_unless m (applied op (float_of_key binary64 a) (float_of_key binary64 b))) f
    ∙ ap (λ y. gives (number y)) e

-- one of two plain rows: of the operands, or of two ones
pub known_row : (op : FloatOperator) (b : Bool) (x y p q : Float) → b ≡ is_plain op x y
    → (b ≡ true → p ≡ x) → (b ≡ false → p ≡ float_one) → (b ≡ true → q ≡ y)
    → (b ≡ false → q ≡ float_one) → is_plain op p q ≡ true
known_row op true x y p q e px po qy qo = (λ i. is_plain op (px refl i) (qy refl i)) ∙ sym e
known_row op false x y p q e px po qy qo = (λ i. is_plain op (po refl i) (qo refl i)) ∙ ones_are_plain op

finite_number : (v : Float) → float_is_finite v ≡ true → is_nan v ≡ false
unfolding float_is_finite is_nan
finite_number nan h = sym h
finite_number (inf s) h = refl
finite_number (fin s m e) h = refl

-- a finite float's pattern may be read
pub finite_pattern : (z : ℤ) (b : ℕ) → b ≡ of_z w64 z → float_is_finite (float_of z) ≡ true
    → T (not (nan_bits binary64 b))
finite_pattern z b e h =
    by (nan_bits binary64 b) (ap (λ k. nan_bits binary64 k) e ∙ nan_bits_is binary64 (of_z w64 z) ∙ finite_number (float_of z) h)
  where
    by : (c : Bool) → c ≡ false → T (not c)
    by false q = tt
    by true q = cc

-- a float is read back from its pattern
pub read_back : (v : Float) (z : ℤ) → fits binary64 v ≡ true → z ≡ to_z w64 (to_bits binary64 v)
    → float_of (to_z w64 (of_z w64 z)) ≡ v
read_back v z is e =
    let h = subst T (sym is) tt in
    let n = to_bits binary64 v in
    let back : of_z w64 (to_z w64 n) ≡ n = of_z-to_z w64 n (to_bits-lt binary64 v h) in
    ap (λ y. float_of (to_z w64 (of_z w64 y))) e
    ∙ ap (λ k. float_of (to_z w64 k)) back
    ∙ ap (λ k. from_bits binary64 k) back
    ∙ of_bits-to_bits binary64 v h

pub neither : (a b : Bool) → (a || b) ≡ false → (a ≡ false) × (b ≡ false)
neither true b h = cc
neither false b h = (refl, h)
