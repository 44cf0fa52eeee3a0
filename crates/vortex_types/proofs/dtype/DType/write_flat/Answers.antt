use Rattle.std.proofs.Common.{append_assoc, string_bytes}
use Rattle.vortex_types.specs.TypeOf.{type_of}
use Rattle.vortex_types.specs.DTypeTexts.{opening, null_mark}
use Rattle.vortex_types.proofs.TextPieces.{flat_text}
use Rattle.vortex_types.proofs.dtype.DType.write_flat.Goals as goal

pub returns : goal.returns
returns c =
    let t = type_of c.args.self.now in
    let whole = flat_text t c.requires in
    let joined = append_assoc (string_bytes c.args.out.now) (opening t) (null_mark t) in
    cc (c.in_ok-push_str.ensures.bytes, c.in_ok-push_str-2.ensures.bytes)
