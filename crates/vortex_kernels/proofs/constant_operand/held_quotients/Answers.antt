use Rattle.std.proofs.Common.{◌≡◌, ◌∙◌, ℤ, false, map, refl, sym, ap}
use Rattle.std.proofs.lemmas.List.{map-append}
use Rattle.vortex_checked.specs.Exact.{quotient}
use Rattle.vortex_kernels.specs.Numeric.{results_by}
use Rattle.vortex_kernels.proofs.Calculating.{results_more, tells_more}
use Rattle.vortex_kernels.proofs.ConstantOperands.{number_read}
use Rattle.vortex_kernels.proofs.constant_operand.held_quotients.Goals as goal

pub loop-i-preserved : goal.loop-i-preserved
loop-i-preserved g c =
    let p = g.T.NativePType.ptype in
    let number = g.T.NativePType.number in
    let numbers = c.args.numbers.now in
    let i = c.loop-i.i in
    let d = g.D.Divisor.value c.args.divisor in
    let results = results_by quotient (map number numbers) d in
    let x = c.index-numbers-i.result in
    let same : quotient (number x) d ≡ results i =
    ap (λ (a : ℤ). quotient a d)
    (number_read number numbers i x c.loop-i-test.true c.index-numbers-i.is) in (
      c.push_reserved.ensures.capacity ∙ c.loop-i.invariant.0,
      (
        rw (c.push_reserved.ensures.items, map-append)
            (results_more p results i (map number c.loop-i.values.items) (quotient (number x) d)
            (number c.divide_by.result) c.loop-i.invariant.1.0 same
            (λ h. sym c.divide_by.ensures.exact)),
        tells_more p results i false false false (quotient (number x) d) c.loop-i.invariant.1.1 same
            c.divide_by.ensures.fits refl,
      ),
    )
