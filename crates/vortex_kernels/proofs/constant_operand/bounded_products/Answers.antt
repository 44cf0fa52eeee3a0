use Rattle.std.proofs.Common.{◌≡◌, ◌*ℤ◌, ◌∙◌, ℤ, Some, map, refl, ap}
use Rattle.std.specs.Prelude.{◌||◌}
use Rattle.std.proofs.lemmas.List.{map-append}
use Rattle.vortex_kernels.specs.Numeric.{results_by}
use Rattle.vortex_kernels.proofs.Calculating.{results_more, tells_more}
use Rattle.vortex_kernels.proofs.ConstantOperands.{number_read}
use Rattle.vortex_kernels.proofs.constant_operand.bounded_products.Goals as goal

pub loop-i-preserved : goal.loop-i-preserved
loop-i-preserved g c =
    let p = g.T.NativePType.ptype in
    let number = g.T.NativePType.number in
    let numbers = c.args.numbers.now in
    let i = c.loop-i.i in
    let f = number c.args.factor in
    let results = results_by (λ (a b : ℤ). Some (a *ℤ b)) (map number numbers) f in
    let x = c.index-numbers-i.result in
    let same : Some (number x *ℤ f) ≡ results i =
    ap (λ (a : ℤ). Some (a *ℤ f))
    (number_read number numbers i x c.loop-i-test.true c.index-numbers-i.is) in
    let made = c.multiply_bounded-value in (
      c.push_reserved.ensures.capacity ∙ c.loop-i.invariant.0,
      rw (c.push_reserved.ensures.items, map-append)
          (results_more p results i (map number c.loop-i.values.items) (Some (number x *ℤ f))
          (number made.result.0) c.loop-i.invariant.1 same made.ensures.exact),
      tells_more p results i c.loop-i.fault made.result.1 (c.loop-i.fault || made.result.1)
          (Some (number x *ℤ f)) c.loop-i.invariant.2 same made.ensures.fault
          refl,
    )
