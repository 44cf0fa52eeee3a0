-- A text, so many times.
use Rattle.std.proofs.Common.{◌≡◌, ◌≤◌, ◌<◌, ◌+◌, ◌*◌, ℕ, zero, suc, List, [], ◌∷◌, ◌++◌, arith, refl, ap}
use Rattle.std.proofs.Common.{◌∙◌, true, length, length-append}
use Rattle.std.specs.Prelude.{◌==◌}
use Rattle.std.proofs.lemmas.Bool.{eqb-true}
use Rattle.std.specs.List.{repeat}

pub none_repeated : (n : ℕ) (bs : List ℕ) → (length bs == 0) ≡ true → [] ≡ repeat n bs
none_repeated zero bs e = refl
none_repeated (suc n) [] e = none_repeated n [] e
none_repeated (suc n) (b ∷ bs) e =
    let none : suc (length bs) ≡ 0 = eqb-true (suc (length bs)) 0 e in absurd (omega (arith, none))

pub repeated_size : (n : ℕ) (bs : List ℕ) → length (repeat n bs) ≡ n * length bs
repeated_size zero bs = omega arith
repeated_size (suc n) bs =
    let step : length bs + n * length bs ≡ suc n * length bs = omega arith in
    length-append bs (repeat n bs) ∙ ap (λ m. length bs + m) (repeated_size n bs) ∙ step

pub more_bytes : (n m : ℕ) → 0 < m → n ≤ n * m
more_bytes zero m h = omega arith
more_bytes (suc n) m h =
    let step : m + n * m ≡ suc n * m = omega arith in
    let less = more_bytes n m h in
    omega (arith, step, less, h)
