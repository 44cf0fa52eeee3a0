-- What is written of an instant is read back.
use Rattle.std.proofs.Common.{◌≡◌, ◌∙◌, ℕ, ℤ, pos, zero, suc, ◌+◌, ◌-◌, ◌*◌, ◌/◌, ◌%◌, ◌^◌, ◌<◌, ◌≤◌, true, false, List, [], ◌∷◌, ◌++◌}
use Rattle.std.proofs.Common.{Some, None, arith, ap, sym}
use Rattle.std.specs.Prelude.{if◌then◌else◌, ◌&&◌, ◌==◌, nat_le, int_le, neg_ℤ, ◌≤ℤ◌, ◌+ℤ◌, ◌-ℤ◌, ◌*ℤ◌}
use Rattle.std.specs.Char.{is_ascii_digit}
use Rattle.std.proofs.Math.Nat.{div-div-eq-div-mul}
use Rattle.std.proofs.lemmas.Int.{ints}
use Rattle.jiff_core.proofs.SignedLemmas.{signed_arith}
use Rattle.vortex_logical.specs.DateTexts.{padded}
use Rattle.vortex_logical.specs.DecimalTexts.{last_digits}
use Rattle.vortex_logical.specs.DateTexts.{IsDateText}
use Rattle.vortex_logical.specs.TimestampTexts.{fraction_from, fraction_of_text, after_seconds, clock_seconds}
use Rattle.vortex_logical.specs.TimestampTexts.{with_seconds, with_fraction, timed, time_of_text, time_text}
use Rattle.vortex_logical.specs.TimestampTexts.{fraction_text, in_years, instant_at, timestamp_of_text}
use Rattle.vortex_logical.specs.TimestampTexts.{TimestampsAreReadBack}
use Rattle.vortex_logical.proofs.DateLemmas.{day_back, digits_back, dated_between}

-- ---- the digits after the point

is_digit : (d : ℕ) → d < 10 → is_ascii_digit (48 + d) ≡ true
is_digit d h = grind (arith, h)

step : (left n d : ℕ) (bs : List ℕ) → d < 10
    → fraction_from (suc left) n ((48 + d) ∷ bs) ≡ fraction_from left (n * 10 + d) bs
step left n d bs h =
    (λ i. if is_digit d h i then fraction_from left (n * 10 + (48 + d - 48)) bs
    else Some (n * 10 ^ suc left, (48 + d) ∷ bs))
    ∙ ap (λ m. fraction_from left (n * 10 + m) bs) (omega arith)

six : (a b c d e f : ℕ) → a < 10 → b < 10 → c < 10 → d < 10 → e < 10 → f < 10
    → fraction_of_text ((48 + a) ∷ (48 + b) ∷ (48 + c) ∷ (48 + d) ∷ (48 + e) ∷ (48 + f) ∷ [])
    ≡ Some (((((a * 10 + b) * 10 + c) * 10 + d) * 10 + e) * 10 + f, [])
six a b c d e f ha hb hc hd he hf =
    (λ i. if is_digit a ha i then fraction_from 6 0 ((48 + a) ∷ (48 + b) ∷ (48 + c) ∷ (48 + d) ∷ (48 + e) ∷ (48 + f) ∷ []) else None)
    ∙ step 5 0 a ((48 + b) ∷ (48 + c) ∷ (48 + d) ∷ (48 + e) ∷ (48 + f) ∷ []) ha
    ∙ step 4 (0 * 10 + a) b ((48 + c) ∷ (48 + d) ∷ (48 + e) ∷ (48 + f) ∷ []) hb
    ∙ step 3 ((0 * 10 + a) * 10 + b) c ((48 + d) ∷ (48 + e) ∷ (48 + f) ∷ []) hc
    ∙ step 2 (((0 * 10 + a) * 10 + b) * 10 + c) d ((48 + e) ∷ (48 + f) ∷ []) hd
    ∙ step 1 ((((0 * 10 + a) * 10 + b) * 10 + c) * 10 + d) e ((48 + f) ∷ []) he
    ∙ step 0 (((((0 * 10 + a) * 10 + b) * 10 + c) * 10 + d) * 10 + e) f [] hf
    ∙ ap (λ n. Some (n, [])) (omega arith)

digits_number : (f : ℕ) → f < 1000000
    → ((((f / 10 / 10 / 10 / 10 / 10 % 10 * 10 + f / 10 / 10 / 10 / 10 % 10) * 10 + f / 10 / 10 / 10 % 10) * 10
    + f / 10 / 10 % 10) * 10 + f / 10 % 10) * 10 + f % 10
    ≡ f
digits_number f h = omega (arith, h)

fraction_back : (f : ℕ) → f < 1000000 → fraction_of_text (last_digits 6 f) ≡ Some (f, [])
fraction_back f h =
    six (f / 10 / 10 / 10 / 10 / 10 % 10) (f / 10 / 10 / 10 / 10 % 10) (f / 10 / 10 / 10 % 10) (f / 10 / 10 % 10) (f / 10 % 10)
    (f % 10) (omega arith) (omega arith) (omega arith) (omega arith) (omega arith) (omega arith)
    ∙ ap (λ n. Some (n, [])) (digits_number f h)

no_offset : (n : ℕ) → pos n -ℤ (pos 0 *ℤ pos 60000000) ≡ pos n
no_offset n = omega (arith, signed_arith, ints)

not_zero : (f : ℕ) → (suc f == 0) ≡ false
not_zero f = grind arith

rest_back : (s f : ℕ) → f < 1000000 → after_seconds s (fraction_text f) ≡ Some (pos (s * 1000000 + f))
rest_back s zero h = ap (λ z. Some z) (no_offset (s * 1000000) ∙ ap (λ n. pos n) (omega arith))
rest_back s (suc f) h =
    (λ i. after_seconds s (if not_zero f i then [] else 46 ∷ last_digits 6 (suc f)))
    ∙ ap (with_fraction s) (fraction_back (suc f) h) ∙ ap (λ z. Some z) (no_offset (s * 1000000 + suc f))

-- ---- the time of a day

clock_back : (h m s : ℕ) → h ≤ 23 → m ≤ 59 → s ≤ 59
    → clock_seconds (Some h) (Some m) (Some s) ≡ Some (h * 3600 + m * 60 + s)
clock_back h m s a b c =
    λ i. if most h 23 a i && most m 59 b i && most s 59 c i then Some (h * 3600 + m * 60 + s) else None
  where
    most : (n k : ℕ) → n ≤ k → nat_le n k ≡ true
    most n k h = grind (arith, h)

time_parts : (t : ℕ) → (t / 3600000000 * 3600 + t / 60000000 % 60 * 60 + t / 1000000 % 60) * 1000000 + t % 1000000 ≡ t
time_parts t = omega (arith, div-div-eq-div-mul t 1000000 60, div-div-eq-div-mul t 60000000 60)

time_back : (t : ℕ) → t < 86400000000 → time_of_text (time_text t) ≡ Some (pos t)
time_back t h =
    let hours : t / 3600000000 ≤ 23 = omega (arith, h) in
    let minutes : t / 60000000 % 60 ≤ 59 = omega arith in
    let seconds : t / 1000000 % 60 ≤ 59 = omega arith in
    (λ i. timed (digits_back (t / 3600000000) (omega (arith, hours)) i)
    (digits_back (t / 60000000 % 60) (omega (arith, minutes)) i)
    (58 ∷ padded (t / 1000000 % 60) (fraction_text (t % 1000000))))
    ∙ (λ i. with_seconds
    (clock_seconds (Some (t / 3600000000)) (Some (t / 60000000 % 60))
    (digits_back (t / 1000000 % 60) (omega (arith, seconds)) i))
    (fraction_text (t % 1000000)))
    ∙ (λ i. with_seconds (clock_back (t / 3600000000) (t / 60000000 % 60) (t / 1000000 % 60) hours minutes seconds i)
    (fraction_text (t % 1000000)))
    ∙ rest_back (t / 3600000000 * 3600 + t / 60000000 % 60 * 60 + t / 1000000 % 60) (t % 1000000) (omega arith)
    ∙ ap (λ n. Some (pos n)) (time_parts t)

-- ---- the instant

in_years_is : (z : ℤ) → neg_ℤ (pos 62167219200000000) ≤ℤ z → z ≤ℤ pos 253402300799999999 → in_years z ≡ Some z
in_years_is z a b = λ i. if low i && high i then Some z else None
  where
    low : int_le (neg_ℤ (pos 62167219200000000)) z ≡ true
    low = grind (arith, ints, a)

    high : int_le z (pos 253402300799999999) ≡ true
    high = grind (arith, ints, b)

instant_back : (day : ℤ) (t : ℕ) → t < 86400000000 → neg_ℤ (pos 719528) ≤ℤ day → day ≤ℤ pos 2932896
    → instant_at (Some day) (Some (pos t)) ≡ Some (day *ℤ pos 86400000000 +ℤ pos t)
instant_back day t h a b =
    in_years_is (day *ℤ pos 86400000000 +ℤ pos t) (omega (arith, signed_arith, ints, a, h)) (omega (arith, signed_arith, ints, b, h))

text_back : (day : ℤ) (t : ℕ) (text : List ℕ) → t < 86400000000 → IsDateText day text
    → timestamp_of_text (text ++ time_text t) ≡ Some (day *ℤ pos 86400000000 +ℤ pos t)
text_back day t text h d =
    let range = dated_between day (d.0, d.1, d.2, d.3) in
    ap (λ bs. timestamp_of_text (bs ++ time_text t)) d.4
    ∙ (λ i. instant_at (day_back day d.0 d.1 d.2 d.3 i) (time_back t h i))
    ∙ instant_back day t h range.0 range.1

pub timestamps_are_read_back : TimestampsAreReadBack
timestamps_are_read_back z text h =
    ap timestamp_of_text h.written ∙ text_back h.day h.time h.date h.within h.dated ∙ ap (λ n. Some n) (sym h.number)
