use Rattle.std.proofs.Common.{◌≡◌, ◌≤◌, ◌<◌, ◌∙◌, ◌*ℤ◌, ◌^◌, pos, ap, arith, subst, sym, to_z, of_z, to_z-of_z}
use Rattle.std.specs.Prelude.{unsigned_abs}
use Rattle.std.specs.Int.{w128}
use Rattle.jiff_core.proofs.SignedLemmas.{signed_casts}
use Rattle.vortex_logical.specs.Decimals.{within_digits}
use Rattle.vortex_sql_kind_texts.specs.StoredRows.{ten_bound}
use Rattle.vortex_sql_kind_texts.proofs.ScaledNumbers.{product_fits, too_large}
use Rattle.vortex_sql_kind_texts.proofs.scales.added.Goals as goal

pub returns-then-unsigned_abs-ge1000000000000000000 :
    goal.returns-then-unsigned_abs-ge1000000000000000000
returns-then-unsigned_abs-ge1000000000000000000 c =
    let number : to_z w128 (of_z w128 c.args.number) ≡ c.args.number = to_z-of_z c.ranges.number in
    let large : 1000000000000000000 ≤ unsigned_abs (to_z w128 (of_z w128 c.args.number)) = omega (arith, c.unsigned_abs.ensures.value, c.if-unsigned_abs-ge1000000000000000000.true) in
    sym (too_large c.args.number c.args.places c.args.digits.precision (subst (λ z. 1000000000000000000 ≤ unsigned_abs z) number large) c.precision-digits.ensures.digits.1)

pub returns : goal.returns
returns c =
    let number : to_z w128 (of_z w128 c.args.number) ≡ c.args.number = to_z-of_z c.ranges.number in
    let small : unsigned_abs (to_z w128 (of_z w128 c.args.number)) < 1000000000000000000 = omega (arith, c.unsigned_abs.ensures.value, c.if-unsigned_abs-ge1000000000000000000.false) in
    let power : to_z w128 (of_z w128 c.from.result) ≡ pos c.power_of.result = omega (arith, signed_casts, c.from.ensures, c.power_of.ensures.range) in
    let ten : to_z w128 (of_z w128 c.from.result) ≡ pos (10 ^ c.args.places) = power ∙ ap (λ n. pos n) c.power_of.ensures.value in
    let fits = product_fits c.args.number (10 ^ c.args.places) (subst (λ z. unsigned_abs z < 1000000000000000000) number small) (ten_bound c.args.places c.requires) in
    let product = (λ i. to_z w128 (of_z w128 (number i *ℤ ten i))) ∙ to_z-of_z fits in
    c.within_digits.ensures ∙ ap (within_digits c.args.digits.precision) product
