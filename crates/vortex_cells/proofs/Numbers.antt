-- Numbers written as words.
use Rattle.std.proofs.Common.{rules, tests, ◌≡◌, ℕ, zero, suc, ◌<◌, ◌≤◌, ◌^◌, Bool, true, false}
use Rattle.std.proofs.Common.{Option, Some, None, Result, Ok, Err, List, [], ◌∷◌, ℤ, pos, refl, sym}
use Rattle.std.proofs.Common.{ap, subst, ◌∙◌, arith, length, get_or, drop, nat_lt, ◌==◌, ◌&&◌}
use Rattle.std.proofs.Common.{option_map, if◌then◌else◌}
use Rattle.std.specs.Prelude.{is_some, FitsSigned, MatchOption, nat_le}
use Rattle.std.specs.Int.{w128}
use Rattle.std.specs.List.{list_all}
use Rattle.std.specs.Result.{result_ok, OkIff}
use Rattle.std.specs.Char.{is_ascii_digit}
use Rattle.std.specs.Str.Parse.{ParsesSigned, ParsesUnsigned}
use Rattle.std.proofs.lemmas.Str.Parse.{IsNumeralModel, numerals_by_fold, parse_signed_digits}
use Rattle.std.proofs.lemmas.Str.Parse.{parse_digits}
use Rattle.std.proofs.lemmas.Str.Parse.{parse_signed_minus}
use lib.IntN.{neg_ℤ}
use mir.Val.{hbits}
use Rattle.std.proofs.lemmas.Bool.{and_from, and_parts, le-leb}
use Rattle.std.proofs.lemmas.Int.{ints}
use Rattle.std.specs.Int.Signed.{le_z}
use Rattle.std.specs.Option.{option_and_then}
use Rattle.vortex_types.specs.declared.dtype.PType.{PType}
use Rattle.vortex_types.specs.declared.dtype.PType.TheVariants.{I8, I16, I32, I64, U8, U16, U32}
use Rattle.vortex_types.specs.declared.dtype.PType.TheVariants.{U64}
use Rattle.vortex_types.specs.Typing.{least_of, greatest_of, FitsPType}
use Rattle.vortex_types.specs.Values.{number}
use Rattle.vortex_cells.specs.Ranges.{in_range}
use Rattle.vortex_cells.specs.CellValues.{decimal_from, digits_of, negative, integer_of, number_where}
use Rattle.vortex_cells.specs.CellValues.{number_of}
use Rattle.vortex_cells.specs.Cells.{ReadsNumber}

pub own : IsNumeralModel (λ ds. list_all is_ascii_digit ds ≡ true) (decimal_from 0)
own = numerals_by_fold _ (search rules) decimal_from (search rules)

said_where : Bool → ℕ → Option ℕ
said_where b n = if b then Some n else None

pub digits_known : (w : List ℕ) → 0 < length w → (b : Bool) → list_all is_ascii_digit w ≡ b
    → b ≡ is_some (digits_of w)
digits_known w some b e =
    sym (by b)
    ∙ sym
    (ap (λ c. is_some (if c then Some (decimal_from 0 w) else None)) ((λ i. nonempty i && e i)))
  where
    nonempty : nat_lt 0 (length w) ≡ true
    nonempty = grind (arith, tests)

    by : (b : Bool)
        → is_some (if◌then◌else◌ {A = Option ℕ} (true && b) (Some (decimal_from 0 w)) None) ≡ b
    by true = refl
    by false = refl

-- the value of digits
pub record AreDigits (w : List ℕ) : Type 0 where
  pub some : 0 < length w
  pub all : list_all is_ascii_digit w ≡ true
  pub say : digits_of w ≡ Some (decimal_from 0 w)

pub are_digits : (w : List ℕ) → is_some (digits_of w) ≡ true → AreDigits w
are_digits w = by (nat_lt 0 (length w)) refl (list_all is_ascii_digit w) refl
  where
    by : (a : Bool) → nat_lt 0 (length w) ≡ a → (b : Bool) → list_all is_ascii_digit w ≡ b
        → is_some (digits_of w) ≡ true → AreDigits w
    by true e true g h =
        record {
          some = grind (arith, tests);
          all = g;
          say = λ i. if e i && g i then Some (decimal_from 0 w) else None;
        }
    by true e false g h =
        let none : digits_of w ≡ None = λ i. if e i && g i then Some (decimal_from 0 w) else None in
        cc
    by false e b g h =
        let none : digits_of w ≡ None = λ i. if e i && g i then Some (decimal_from 0 w) else None in
        cc

pub no_digits : (w : List ℕ) → is_some (digits_of w) ≡ false → digits_of w ≡ None
no_digits w = by (digits_of w)
  where
    by : (o : Option ℕ) → is_some o ≡ false → o ≡ None
    by None h = refl
    by (Some n) h = cc

pub nothing_read : (said : Option ℤ) → said ≡ None → (z : ℤ) → said ≡ Some z → FitsSigned w128 z → ⊥
nothing_read said e z g f = cc

plain_fits : (n : ℕ) → FitsSigned w128 (pos n) → n < 2 ^ hbits w128
plain_fits n f = f.sfits

negative_fits : (n : ℕ) → FitsSigned w128 (negative n) → n ≤ 2 ^ hbits w128
negative_fits zero f = omega arith
negative_fits (suc n) f = f.sfits

negative_is : (n : ℕ) → neg_ℤ (pos n) ≡ negative n
negative_is zero = refl
negative_is (suc n) = refl

-- the result of `parse`, if the text means z
number_read : {E : Type 0} (r : Result ℤ E) (Fitting : Type 0) (said : Option ℤ) (z : ℤ)
    → said ≡ Some z → (FitsSigned w128 z → Fitting) → OkIff r Fitting z
    → ReadsNumber said (result_ok r)
number_read (Ok x) Fitting said z e f p = e ∙ ap Some (sym p.1)
number_read (Err x) Fitting said z e f p = λ y q g.
    let same : y ≡ z = cc in p (f (subst (FitsSigned w128) same g))

pub plain_read : {E : Type 0} (w : List ℕ) (r : Result ℤ E) → AreDigits w → ParsesSigned w128 10 w r
    → ReadsNumber (option_map pos (digits_of w)) (result_ok r)
plain_read w r d h =
    number_read r _ _ (pos (decimal_from 0 w)) (ap (option_map pos) d.say)
    (λ f. (d.some, plain_fits (decimal_from 0 w) f)) (parse_signed_digits own w128 w r h d.all)

abbrev IsNegative : {E : Type 0} → Result ℤ E → List ℕ → Type 0
IsNegative r ds =
    OkIff r
    ((list_all is_ascii_digit ds ≡ true) × (0 < length ds) × (decimal_from 0 ds ≤ 2 ^ hbits w128))
    (neg_ℤ (pos (decimal_from 0 ds)))

pub negative_read : {E : Type 0} (w digits : List ℕ) (r : Result ℤ E) → w ≡ 45 ∷ digits
    → AreDigits digits → ParsesSigned w128 10 w r
    → ReadsNumber (option_map negative (digits_of digits)) (result_ok r)
negative_read w digits r e d h =
    let tail : drop 1 w ≡ digits = ap (drop 1) e in
    let raw : IsNegative r (drop 1 w) =
    parse_signed_minus own w128 w r h (ap (λ bs. get_or bs 0 0) e) in
    let parsed : IsNegative r digits = subst (IsNegative r) tail raw in
    let n = decimal_from 0 digits in
    number_read r
    ((list_all is_ascii_digit digits ≡ true) × (0 < length digits) × (n ≤ 2 ^ hbits w128)) _
    (negative n) (ap (option_map negative) d.say) (λ f. (d.all, d.some, negative_fits n f))
    (subst
    (λ (z : ℤ).
    OkIff r
    ((list_all is_ascii_digit digits ≡ true) × (0 < length digits) × (n ≤ 2 ^ hbits w128)) z)
    (negative_is n) parsed)

pub integer_plain : (w : List ℕ) → ((rest : List ℕ) → w ≡ 45 ∷ rest → ⊥)
    → integer_of w ≡ option_map pos (digits_of w)
integer_plain [] h = refl
integer_plain (b ∷ bs) h = by (b == 45) refl
  where
    by : (c : Bool) → (b == 45) ≡ c
        → (if c then option_map negative (digits_of bs) else option_map pos (digits_of (b ∷ bs)))
        ≡ option_map pos (digits_of (b ∷ bs))
    by true e = absurd (h bs (ap (λ c. c ∷ bs) (grind (arith, tests))))
    by false e = refl

pub fits : (p : PType) (z : ℤ) → in_range p z ≡ true → FitsPType p z
fits p z h =
    let parts = and_parts (le_z (least_of p) z) (le_z z (greatest_of p)) h in
    (grind (arith, ints, parts.0), grind (arith, ints, parts.1))

ranged : (p : PType) (z : ℤ) → FitsPType p z → in_range p z ≡ true
ranged p z h =
    let low : le_z (least_of p) z ≡ true = grind (arith, ints, h.0) in
    let high : le_z z (greatest_of p) ≡ true = grind (arith, ints, h.1) in
    and_from _ _ low high

-- each type holds only numbers of 64 bits and a sign
fits_wide : (p : PType) (z : ℤ) → FitsPType p z → FitsSigned w128 z
fits_wide I8 z h = grind (arith, ints, h.0, h.1)
fits_wide I16 z h = grind (arith, ints, h.0, h.1)
fits_wide I32 z h = grind (arith, ints, h.0, h.1)
fits_wide I64 z h = grind (arith, ints, h.0, h.1)
fits_wide U8 z h = grind (arith, ints, h.0, h.1)
fits_wide U16 z h = grind (arith, ints, h.0, h.1)
fits_wide U32 z h = grind (arith, ints, h.0, h.1)
fits_wide U64 z h = grind (arith, ints, h.0, h.1)

not_where : (b : Bool) (z : ℤ) → (b ≡ true → ⊥) → number_where b z ≡ None
not_where true z h = absurd (h refl)
not_where false z h = refl

-- a number is the type's where the type holds it
pub number_held : {X : Type 0} (f : X → ℤ) (p : PType) (w : List ℕ) (z : ℤ) (o : Option X)
    → integer_of w ≡ Some z → MatchOption o (¬ FitsPType p z) (λ x. FitsPType p z × (f x ≡ z))
    → option_map (λ x. number (f x)) o ≡ number_of p w
number_held f p w z None e h =
    sym
    (ap (option_and_then (λ y. number_where (in_range p y) y)) e
    ∙ not_where (in_range p z) z (λ g. h (fits p z g)))
number_held f p w z (Some x) e h =
    ap (λ y. Some (number y)) h.1
    ∙ sym
    (ap (option_and_then (λ y. number_where (in_range p y) y)) e
    ∙ ap (λ b. number_where b z) (ranged p z h.0))

pub number_lost : (p : PType) (w : List ℕ) → ((z : ℤ) → integer_of w ≡ Some z → ¬ FitsSigned w128 z)
    → None ≡ number_of p w
number_lost p w h = by (integer_of w) h
  where
    by : (o : Option ℤ) → ((z : ℤ) → o ≡ Some z → ¬ FitsSigned w128 z)
        → None ≡ option_and_then (λ z. number_where (in_range p z) z) o
    by None h = refl
    by (Some z) h = sym (not_where (in_range p z) z (λ g. h z refl (fits_wide p z (fits p z g))))
