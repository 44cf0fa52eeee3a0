use Rattle.std.proofs.Common.{◌≡◌, ◌+◌, ◌-◌, ◌/◌, ◌%◌, ◌++◌, ◌∷◌, ℕ, zero, suc, [], arith, ap}
use Rattle.std.proofs.lemmas.Grind.{common_steps}
use Rattle.vortex_logical.specs.DecimalTexts.{last_digits}
use Rattle.vortex_sql_date_formats.proofs.written.+push_digits.Goals as goal

last_more : (k n : ℕ) → ¬ (k ≡ 0)
    → last_digits k n ≡ last_digits (k - 1) (n / 10) ++ (48 + n % 10) ∷ []
last_more zero n h = absurd (omega (arith, h))
last_more (suc k) n h =
    let same : k ≡ suc k - 1 = omega arith in
    ap (λ j. last_digits j (n / 10) ++ (48 + n % 10) ∷ []) same

pub returns : goal.returns
returns t c =
    grind (arith, common_steps, last_more c.args.width c.args.number c.if-width-eq0.false)
