use Rattle.std.proofs.Common.{suc, length, map, string_bytes, add-one, arith}
use Rattle.vortex_interface.specs.Texts.{IsDefaultOrOwn}
use Rattle.vortex_interface.proofs.PartTexts.{telling_begins, telling_goes_on, telling_ends}
use Rattle.vortex_interface.proofs.vtable.ScalarFnVTable.fmt_sql.Goals as goal

pub loop-index-init : goal.loop-index-init
loop-index-init g c =
    let count = length c.args.children.now in
    telling_begins
    (IsDefaultOrOwn (g.Self.ScalarFnVTable.meaning.id c.args.self.now)
    (g.Self.Options.Display.output c.args.options.now)
    (g.Self.ScalarFnVTable.own_parts c.args.self.now c.args.options.now) count)
    (suc count) (map string_bytes c.args.children.now) (string_bytes c.args.out.now)

pub loop-index-preserved : goal.loop-index-preserved
loop-index-preserved g c =
    let count = length c.args.children.now in
    let part = IsDefaultOrOwn (g.Self.ScalarFnVTable.meaning.id c.args.self.now)
    (g.Self.Options.Display.output c.args.options.now)
    (g.Self.ScalarFnVTable.own_parts c.args.self.now c.args.options.now) count in
    let wrote = c.in_ok-place.ensures in
    rw add-one
    (telling_goes_on part (suc count) (map string_bytes c.args.children.now)
    (string_bytes c.args.out.now) c.loop-index.index (string_bytes c.loop-index.out) wrote.0
    (string_bytes c.write_before.new.out) c.argument_text.result.now
    (string_bytes c.push_str.new.self) c.in_ok-place.place (omega arith) c.loop-index.invariant
    wrote.2 wrote.1 c.argument_text.ensures c.in_ok-push_str.ensures.bytes)

pub returns : goal.returns
returns g c =
    let count = length c.args.children.now in
    let part = IsDefaultOrOwn (g.Self.ScalarFnVTable.meaning.id c.args.self.now)
    (g.Self.Options.Display.output c.args.options.now)
    (g.Self.ScalarFnVTable.own_parts c.args.self.now c.args.options.now) count in
    telling_ends part (suc count) (map string_bytes c.args.children.now)
    (string_bytes c.args.out.now) (string_bytes c.loop-index.out) c.loop-index.index (omega arith)
    c.loop-index.invariant
