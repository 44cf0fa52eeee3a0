use Rattle.std.proofs.Common.{◌≡◌, ◌∙◌, ◌<◌, length, map, refl, arith}
use Rattle.std.specs.Prelude.{◌||◌}
use Rattle.std.proofs.lemmas.List.{map-append}
use Rattle.vortex_checked.specs.Exact.{quotient}
use Rattle.vortex_kernels.specs.Faults.{pair_results}
use Rattle.vortex_kernels.proofs.Calculating.{results_more, tells_more}
use Rattle.vortex_kernels.proofs.ConstantOperands.{number_read}
use Rattle.vortex_kernels.proofs.quotients.divide_rows.Goals as goal

pub loop-i-preserved : goal.loop-i-preserved
loop-i-preserved g c =
    let p = g.T.NativePType.ptype in
    let number = g.T.NativePType.number in
    let ls = c.args.lefts.now in
    let rs = c.args.rights.now in
    let results = pair_results quotient (map number ls) (map number rs) in
    let i = c.loop-i.i in
    let x = c.index-lefts-i.result in
    let y = c.index-rights-i.result in
    let left = number_read number ls i x
    (omega (arith, c.loop-i-test.true, c.requires.left)) c.index-lefts-i.is in
    let right = number_read number rs i y
    (omega (arith, c.loop-i-test.true, c.requires.right)) c.index-rights-i.is in
    let o = quotient (number x) (number y) in
    let same : o ≡ results i = λ j. quotient (left j) (right j) in
    let made = c.apply_checked-value in (
      c.push_reserved.ensures.capacity ∙ c.loop-i.invariant.0,
      (
        rw (c.push_reserved.ensures.items, map-append)
            (results_more p results i (map number c.loop-i.values.items) o
            (number made.result.0) c.loop-i.invariant.1.0 same made.ensures.exact),
        tells_more p results i c.loop-i.fault made.result.1 (c.loop-i.fault || made.result.1) o
            c.loop-i.invariant.1.1 same made.ensures.fault refl,
      ),
    )
