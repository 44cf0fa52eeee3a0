use Rattle.std.proofs.Common.{string_bytes}
use Rattle.rowfn_batches.proofs.Explanations.{weight_added}
use Rattle.rowfn_batches.proofs.explained.push_weight.Goals as goal

pub returns : goal.returns
returns c =
    weight_added c.push_str-3.result (string_bytes c.args.out.now)
    (string_bytes c.push_str.new.self) (string_bytes c.push_str-2.new.self)
    (string_bytes c.push_str-3.new.self) c.format.result.now c.args.weight
    c.in_ok-push_str.ensures.bytes c.in_ok-push_str-2.ensures.bytes c.format.ensures.text
    c.push_str-3.ensures.bytes
