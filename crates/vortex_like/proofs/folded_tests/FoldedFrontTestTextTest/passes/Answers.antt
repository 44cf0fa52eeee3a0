use Rattle.std.proofs.Common.{◌<◌, length, take, sym, arith}
use Rattle.std.proofs.lemmas.List.{length-take}
use Rattle.vortex_like.proofs.Foldings.{too_short}
use Rattle.vortex_like.proofs.folded_tests.FoldedFrontTestTextTest.passes.Goals as goal

pub returns-then-haystack-len : goal.returns-then-haystack-len
returns-then-haystack-len c =
    let literal = c.args.self.now.text in
    let part = take (length literal) c.args.haystack.now in
    let short : length part < length literal =
    omega (arith, length-take (length literal) c.args.haystack.now) in
    sym (too_short literal part short)
