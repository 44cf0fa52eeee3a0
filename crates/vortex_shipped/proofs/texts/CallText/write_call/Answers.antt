use Rattle.std.proofs.Common.{map, string_bytes, add-one, arith}
use Rattle.std.proofs.lemmas.List.{length-map}
use Rattle.vortex_shipped.proofs.CallTexts.{told_begins, told_goes_on, told_ends}
use Rattle.vortex_shipped.proofs.texts.CallText.write_call.Goals as goal

pub loop-index-init : goal.loop-index-init
loop-index-init g c =
    told_begins (g.Self.CallText.call c.args.options.now) (map string_bytes c.args.children.now)
    (string_bytes c.args.out.now)

pub loop-index-preserved : goal.loop-index-preserved
loop-index-preserved g c =
    rw add-one
    (told_goes_on (g.Self.CallText.call c.args.options.now) (map string_bytes c.args.children.now)
    (string_bytes c.args.out.now) c.loop-index.index c.loop-index.out c.write_part.new.out
    c.argument_text.result.now (string_bytes c.push_str.new.self) c.in_ok-place.place
    (omega (arith, length-map c.args.children.now string_bytes)) c.loop-index.invariant
    c.in_ok-place.ensures c.argument_text.ensures c.in_ok-push_str.ensures.bytes)

pub returns : goal.returns
returns g c =
    told_ends (g.Self.CallText.call c.args.options.now) (map string_bytes c.args.children.now)
    (string_bytes c.args.out.now) c.loop-index.index (string_bytes c.loop-index.out)
    (omega (arith, length-map c.args.children.now string_bytes)) c.loop-index.invariant
