-- Reading digits on never makes a number less.
use Rattle.std.proofs.Common.{◌≡◌, ℕ, zero, suc, ◌+◌, ◌*◌, ◌-◌, ◌^◌, ◌≤◌, Bool, true, false, List, [], ◌∷◌}
use Rattle.std.proofs.Common.{Option, Some, None, arith, refl}
use Rattle.std.specs.Prelude.{if◌then◌else◌, ◌==◌, nat_lt, ⊤, codes}
use Rattle.std.specs.Str.{bytes_eq}
use Rattle.std.specs.Char.{is_ascii_digit}
use Rattle.std.proofs.Math.Nat.{mul-le-mul, le_refl}
use Rattle.vortex_logical.specs.DecimalTexts.{value_from, below_limit, magnitude_of_text}
use Rattle.vortex_logical.specs.Digits.{Digits}
use Rattle.vortex_logical.proofs.DecimalLaws.{ten_pos}

-- what is at least the limit, or none
abbrev pub PastLimit : ℕ → Option ℕ → Type 0
PastLimit limit None = ⊤
PastLimit limit (Some n) = limit ≤ n

grown : (n limit k : ℕ) → limit ≤ n → limit ≤ n * 10 ^ k
grown n limit k h = omega (arith, h, mul-le-mul (le_refl n) (ten_pos k))

either : (b : Bool) (limit : ℕ) (x y : Option ℕ) → PastLimit limit x → PastLimit limit y
    → PastLimit limit (if b then x else y)
either true limit x y p q = p
either false limit x y p q = q

pub past : (seen : Bool) (left n limit : ℕ) (bs : List ℕ) → limit ≤ n → PastLimit limit (value_from seen left n bs)
past seen left n limit [] h = grown n limit left h
past false left n limit (b ∷ bs) h =
    either (b == 46) limit _ _ (past true left n limit bs h)
    (either (is_ascii_digit b) limit _ None (past false left (n * 10 + (b - 48)) limit bs (omega (arith, h))) tt)
past true zero n limit (b ∷ bs) h = tt
past true (suc left) n limit (b ∷ bs) h =
    either (is_ascii_digit b) limit _ None (past true left (n * 10 + (b - 48)) limit bs (omega (arith, h))) tt

pub none_past : (limit : ℕ) (o : Option ℕ) → PastLimit limit o → None ≡ below_limit limit o
none_past limit None h = refl
none_past limit (Some n) h = by (nat_lt n limit) refl
  where
    by : (b : Bool) → nat_lt n limit ≡ b → None ≡ (if b then Some n else None)
    by false e = refl
    by true e = absurd (above e)
      where
        above : nat_lt n limit ≡ true → ⊥
        above e = grind (arith, e, h)

pub too_great : (d : Digits) (text : List ℕ) → PastLimit (10 ^ d.precision) (value_from false d.scale 0 text)
    → None ≡ magnitude_of_text d text
too_great d [] h = refl
too_great d (b ∷ bs) h = by (bytes_eq (b ∷ bs) (codes "."))
  where
    by : (t : Bool)
        → None ≡ (if t then None else below_limit (10 ^ d.precision) (value_from false d.scale 0 (b ∷ bs)))
    by true = refl
    by false = none_past (10 ^ d.precision) (value_from false d.scale 0 (b ∷ bs)) h
