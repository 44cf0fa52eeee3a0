use Rattle.std.proofs.Common.{suc, length, map, string_bytes}
use Rattle.vortex_interface.specs.Texts.{IsDefaultOrOwn}
use Rattle.vortex_interface.proofs.PartTexts.{Telling}
use Rattle.vortex_interface.proofs.vtable.ScalarFnVTable.fmt_sql.Given as goal

-- the parts so far
abbrev pub invariant-loop-index : goal.invariant-loop-index
invariant-loop-index g l =
    let count = length l.children in
    Telling
    (IsDefaultOrOwn (g.Self.ScalarFnVTable.meaning.id l.self) (g.Self.Options.Display.output l.options)
    (g.Self.ScalarFnVTable.own_parts l.self l.options) count)
    (suc count) (map string_bytes l.children) (string_bytes l.fn.out) l.index (string_bytes l.out)
