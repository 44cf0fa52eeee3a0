use Rattle.std.proofs.Common.{◌≡◌, ap, ◌∙◌, ◌*ℤ◌, ◌/◌, arith, to_z-of_z}
use Rattle.std.specs.Int.{w16, w32}
use mir.Val.{to_z, of_z}
use Rattle.vortex_checked.proofs.WideProduct.{product_fits, twice_16}
use Rattle.vortex_kernels.proofs.products.upper_half_16.Goals as goal

pub returns : goal.returns
returns c =
    let a = c.args.left in
    let b = c.args.right in
    let left : to_z w16 (of_z w16 a) ≡ a = grind (arith, to_z-of_z) in
    let right : to_z w16 (of_z w16 b) ≡ b = grind (arith, to_z-of_z) in
    let wide_left : to_z w32 (of_z w32 a) ≡ a = grind (arith, to_z-of_z) in
    let wide_right : to_z w32 (of_z w32 b) ≡ b = grind (arith, to_z-of_z) in
    let x = ap (λ z. to_z w32 (of_z w32 z)) (c.from.ensures ∙ left) ∙ wide_left in
    let y = ap (λ z. to_z w32 (of_z w32 z)) (c.from-2.ensures ∙ right) ∙ wide_right in
    let same : to_z w32 (of_z w32 (a *ℤ b)) ≡ a *ℤ b =
    to_z-of_z (product_fits w16 w32 twice_16 a b c.ranges.left c.ranges.right) in
    ap (λ u. u / 65536)
    (c.cast_unsigned.ensures ∙ (λ i. of_z w32 (to_z w32 (of_z w32 (x i *ℤ y i))))
    ∙ ap (of_z w32) same)
