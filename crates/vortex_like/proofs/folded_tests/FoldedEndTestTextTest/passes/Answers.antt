use Rattle.std.proofs.Common.{◌-◌, ◌<◌, ℕ, length, drop, sym, arith, length-drop}
use Rattle.vortex_like.proofs.Foldings.{too_short}
use Rattle.vortex_like.proofs.folded_tests.FoldedEndTestTextTest.passes.Goals as goal

pub returns-then-haystack-len : goal.returns-then-haystack-len
returns-then-haystack-len c =
    let literal = c.args.self.now.text in
    let bytes = c.args.haystack.now in
    let from : ℕ = length bytes - length literal in
    let short : length (drop from bytes) < length literal =
    omega (arith, length-drop from bytes) in
    sym (too_short literal (drop from bytes) short)
