use Rattle.std.proofs.Common.{◌≡◌, ap, sym, subst, ◌∙◌, ◌*ℤ◌, ◌/◌, arith, pos, negsuc, to_z-of_z}
use Rattle.std.specs.Int.{w16, w32}
use Rattle.std.specs.Int.Bits.{bit_xor}
use Rattle.std.specs.Bool.{FalseIff}
use Rattle.std.proofs.lemmas.Int.{ints, wrapping_mul_is}
use mir.Val.{to_z, of_z}
use Rattle.vortex_checked.specs.Evidence.{is_nonzero}
use Rattle.vortex_checked.specs.Exact.{IsWithin, sign_word, wide_evidence}
use Rattle.vortex_checked.proofs.WideProduct.{product_fits, wide_tells, twice_16}
use Rattle.vortex_kernels.proofs.products.overflow_16.Goals as goal

pub returns : goal.returns
returns c =
    let a = c.args.left in
    let b = c.args.right in
    let z = a *ℤ b in
    let left : to_z w16 (of_z w16 a) ≡ a = grind (arith, to_z-of_z) in
    let right : to_z w16 (of_z w16 b) ≡ b = grind (arith, to_z-of_z) in
    let upper =
    c.upper_half_16.ensures ∙ (λ i. of_z w32 (left i *ℤ right i) / 65536) in
    let sign =
    c.sign_word_16.ensures ∙ ap (sign_word w16) (wrapping_mul_is w16 a b c.ranges.left c.ranges.right) in
    subst
    (λ e. FalseIff (is_nonzero e) (IsWithin (negsuc 32767) (pos 32767) z))
    (sym (λ i. bit_xor (upper i) (sign i)))
    (wide_tells w16 w32 twice_16 z
    (product_fits w16 w32 twice_16 a b c.ranges.left c.ranges.right)
    (λ f. (omega (arith, ints, f), omega (arith, ints, f)))
    (λ p. omega (arith, ints, p.0, p.1)))
