-- Decimals with fewer digits after the point: the stored integer over a power of ten, rounded to an
-- integer.
use Rattle.std.specs.Prelude.{◌≡◌, ◌≤◌, ◌∷◌, ◌+◌, ◌/◌, ◌^◌, ℕ, zero, suc, ℤ, pos, negsuc, neg_ℤ}
use Rattle.std.specs.Prelude.{[], Bool, List, Option, Some, None, codes, true, false, get_or, refl}
use Rattle.std.specs.Prelude.{unsigned_abs}
use Rattle.std.specs.Int.{int_div_euclid}
use Rattle.std.proofs.Common.{arith, cond}
use Rattle.std.proofs.lemmas.Int.{ints}
use Rattle.std.proofs.Math.Nat.{div-le_self, div-lt_iff_lt-mul, le_refl, mul-le-mul}
use Rattle.vortex_errors.specs.declared.arity.Arity.TheVariants.{Exact}
use Rattle.vortex_types.specs.declared.dtype.PType.TheVariants.{I64}
use Rattle.vortex_types.specs.LogicalTypes.{integer_type}
use Rattle.vortex_types.specs.Typing.{FitsPType}
use Rattle.vortex_types.specs.Values.{Value, number}
use Rattle.vortex_interface.specs.Outcomes.{Outcome, gives, GivesType}
use Rattle.vortex_sql_rows.specs.declared.faults.RowFault.TheVariants.{OtherValues}
use Rattle.vortex_sql_rows.specs.declared.types.Gives.TheVariants as answer
use Rattle.vortex_sql_rows.specs.declared.types.Kind.TheVariants.{Integer, Within}
use Rattle.vortex_sql_rows.specs.declared.types.Takes.TheVariants.{Each}
use Rattle.vortex_sql_rows.specs.Faults.{faults_by}
use Rattle.vortex_sql_rows.specs.Integers.{checked, in_range}
use Rattle.vortex_sql_rows.specs.Row.{Row, LawfulRow}
use Rattle.vortex_sql_rows.specs.Shapes.{both_fit, number_in, strict_lawful, strict_of, with_both}
use Rattle.vortex_sql_rows.specs.Types.{is_in}
use Rattle.vortex_sql_kind_texts.specs.declared.decimals.Rounding.{Rounding}
use Rattle.vortex_sql_kind_texts.specs.declared.decimals.Rounding.TheVariants.{Half, Floor, Ceiling}
use Rattle.vortex_sql_kind_texts.specs.declared.decimals.Rounding.TheVariants.{Trunc}
use Rattle.vortex_sql_kind_texts.specs.StoredRows.{on_taken, from_to, ten_positive}

-- the number of that size, with the sign of z
abbrev pub with_sign : ℤ → ℕ → ℤ
with_sign (pos a) n = pos n
with_sign (negsuc a) n = neg_ℤ (pos n)

-- z over q as an integer: the nearest, from halfway the one farther from zero; the next below, the
-- next above, the next toward zero
abbrev pub rounded : Rounding → ℕ → ℤ → ℤ
rounded Half q z = with_sign z ((unsigned_abs z + q / 2) / q)
rounded Floor q z = int_div_euclid z (pos q)
rounded Ceiling q z = neg_ℤ (int_div_euclid (neg_ℤ z) (pos q))
rounded Trunc q z = with_sign z (unsigned_abs z / q)

abbrev pub dropped : Rounding → ℤ → ℕ → Outcome
dropped r z k = gives (number (rounded r (10 ^ k) z))

abbrev pub places_dropped : Rounding → ℤ → ℤ → Outcome
places_dropped r k z = on_taken (dropped r z) (from_to 0 18 k)

abbrev pub round_decimal : Rounding → ℤ → ℤ → Outcome
round_decimal r z k = on_taken (places_dropped r k) (checked I64 z)

-- of a stored integer, and the places to drop
abbrev pub round_of : Rounding → List Value → Outcome
round_of r (v ∷ w ∷ []) = with_both (round_decimal r) (number_in v) (number_in w)
round_of r vs = faults_by OtherValues

abbrev pub round_id : Rounding → List ℕ
round_id Half = codes "sql.decimal_round"
round_id Floor = codes "sql.decimal_floor"
round_id Ceiling = codes "sql.decimal_ceiling"
round_id Trunc = codes "sql.decimal_trunc"

abbrev pub round_row : Rounding → Row
round_row r =
    strict_of (round_id r) (Exact 2) (Each (Within I64) Integer Integer) (answer.Integer I64) false
    (λ p vs. round_of r vs)

round_named : (r : Rounding) → get_or (round_id r) 0 0 ≡ 115
round_named Half = refl
round_named Floor = refl
round_named Ceiling = refl
round_named Trunc = refl

-- a number between zero and z
abbrev IsToward : ℤ → ℤ → Type 0
IsToward z y = (m : ℕ) × (m ≤ unsigned_abs z) × (y ≡ with_sign z m)

half_least : (n q : ℕ) → 1 ≤ q → (n + q / 2) / q ≤ n
half_least n q h =
    let more = mul-le-mul (le_refl n) h in
    let below = (div-lt_iff_lt-mul {k = q} {x = n + q / 2} {y = n + 1} h).1 (omega (arith, more)) in
    omega (arith, below)

toward : (r : Rounding) (q : ℕ) (z : ℤ) → 1 ≤ q → IsToward z (rounded r q z)
toward Half q z h = ((unsigned_abs z + q / 2) / q, half_least (unsigned_abs z) q h, refl)
toward Trunc q z h = (unsigned_abs z / q, div-le_self (unsigned_abs z) q, refl)
toward Floor q (pos a) h = (a / q, div-le_self a q, refl)
toward Floor q (negsuc a) h = (suc (a / q), omega (arith, div-le_self a q), refl)
toward Ceiling q (pos zero) h = (0, omega arith, omega (arith, ints, div-le_self 0 q))
toward Ceiling q (pos (suc a)) h = (suc (a / q), omega (arith, div-le_self a q), refl)
toward Ceiling q (negsuc a) h = (suc a / q, div-le_self (suc a) q, refl)

-- so it has 64 bits
toward_fits : (z y : ℤ) → FitsPType I64 z → IsToward z y → FitsPType I64 y
toward_fits z y h t = by z h t.0 t.1 t.2
  where
    by : (z : ℤ) → FitsPType I64 z → (m : ℕ) → m ≤ unsigned_abs z → y ≡ with_sign z m
        → FitsPType I64 y
    by (pos a) h m l e = grind (arith, ints, h.0, h.1, l, e)
    by (negsuc a) h m l e = grind (arith, ints, h.0, h.1, l, e)

places_fit : (r : Rounding) (z : ℤ) (k : Option ℕ) → FitsPType I64 z
    → GivesType (integer_type I64 false) (on_taken (dropped r z) k)
places_fit r z None h = tt
places_fit r z (Some k) h =
    toward_fits z (rounded r (10 ^ k) z) h (toward r (10 ^ k) z (ten_positive k))

number_fits : (r : Rounding) (z k : ℤ) → GivesType (integer_type I64 false) (round_decimal r z k)
number_fits r z k = by (is_in I64 z) refl
  where
    by : (b : Bool) → is_in I64 z ≡ b
        → GivesType (integer_type I64 false) (on_taken (places_dropped r k) (cond b (Some z) None))
    by true e = places_fit r z (from_to 0 18 k) (in_range I64 z e)
    by false e = tt

round_fits : (r : Rounding) (vs : List Value) → GivesType (integer_type I64 false) (round_of r vs)
round_fits r (v ∷ w ∷ []) =
    both_fit (integer_type I64 false) (round_decimal r) (number_fits r) (number_in v) (number_in w)
round_fits r [] = tt
round_fits r (v ∷ []) = tt
round_fits r (v ∷ w ∷ x ∷ vs) = tt

pub round_lawful : (r : Rounding) → LawfulRow (round_row r)
round_lawful r =
    strict_lawful (round_id r) (Exact 2) (Each (Within I64) Integer Integer) (answer.Integer I64)
    false (λ p vs. round_of r vs) (round_named r) (λ t vs a. round_fits r vs) (λ t vs a e. cc)
