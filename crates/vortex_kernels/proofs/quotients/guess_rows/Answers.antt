use Rattle.std.proofs.Common.{◌≡◌, ◌∙◌, ◌+◌, ◌<◌, ℕ, Bool, false, length, map, refl, sym, subst}
use Rattle.std.proofs.Common.{vec_len, arith}
use Rattle.std.specs.Prelude.{◌||◌}
use Rattle.std.proofs.lemmas.List.{map-append, take-append-le}
use Rattle.vortex_checked.specs.Exact.{quotient}
use Rattle.vortex_kernels.specs.Faults.{AreToldResults, pair_results}
use Rattle.vortex_kernels.proofs.GuessedRows.{one_more_guess, length_64}
use Rattle.vortex_kernels.proofs.ConstantOperands.{number_read}
use Rattle.vortex_kernels.proofs.quotients.guess_rows.Goals as goal

pub guesses-guesses-requires : goal.guesses-guesses-requires
guesses-guesses-requires g c = record {
  left = length_64 c.args.lefts.now c.len-start.result (omega (arith, c.requires.left));
  right = length_64 c.args.rights.now c.len-start.result (omega (arith, c.requires.right));
}

pub loop-i-preserved : goal.loop-i-preserved
loop-i-preserved g c =
    let number = g.T.NativePType.number in
    let ls = c.args.lefts.now in
    let rs = c.args.rights.now in
    let results = pair_results quotient (map number ls) (map number rs) in
    let n = c.len-start.result + c.loop-i.i in
    let x = c.index-lefts-start.result in
    let y = c.index-rights-start.result in
    let left = number_read number ls n x (omega (arith, c.loop-i-test.true, c.requires.left)) c.index-lefts-start.is in
    let right = number_read number rs n y (omega (arith, c.loop-i-test.true, c.requires.right)) c.index-rights-start.is in
    let same : quotient (number x) (number y) ≡ results n = λ j. quotient (left j) (right j) in
    let made = c.by_guess-value in (
      c.push_reserved.ensures.capacity ∙ c.loop-i.invariant.0,
      omega (arith, c.push_reserved.ensures.len, c.loop-i.invariant.1),
      rw c.push_reserved.ensures.items
          (take-append-le c.len-start.result c.loop-i.values.items _ (omega arith) ∙ c.loop-i.invariant.2),
      λ told before off.
          rw (c.push_reserved.ensures.items, map-append)
          (one_more_guess g.T.NativePType.ptype results n (c.len-start.result + (c.loop-i.i + 1)) (map number c.loop-i.values.items)
          (quotient (number x) (number y)) (number made.result.0) told c.loop-i.is_off
          made.result.1 (omega arith) same made.ensures.exact made.ensures.fits off
          (λ k. c.loop-i.invariant.3 told before k)),
    )

pub returns-clause-exact : goal.returns-clause-exact
returns-clause-exact g c told before off =
    let p = g.T.NativePType.ptype in
    let number = g.T.NativePType.number in
    let results =
    pair_results quotient (map number c.args.lefts.now) (map number c.args.rights.now) in
    let start : c.len-start.result ≡ vec_len c.args.values = omega arith in
    let done : c.len-start.result + c.loop-i.i ≡ vec_len c.args.values + 64 =
    omega (arith, c.loop-i-test.false) in
    subst (λ (n : ℕ). AreToldResults p results n (map number c.loop-i.values.items) told) done
    (c.loop-i.invariant.3 told
    (subst (λ (n : ℕ). AreToldResults p results n (map number c.args.values.items) told)
    (sym start) before) off)
