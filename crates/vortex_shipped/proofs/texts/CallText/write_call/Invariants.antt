use Rattle.std.proofs.Common.{map, string_bytes}
use Rattle.vortex_shipped.proofs.CallTexts.{IsTold}
use Rattle.vortex_shipped.proofs.texts.CallText.write_call.Given as goal

abbrev pub invariant-loop-index : goal.invariant-loop-index
invariant-loop-index g l =
    IsTold (g.Self.CallText.call l.options) (map string_bytes l.children) (string_bytes l.fn.out)
    l.index (string_bytes l.out)
