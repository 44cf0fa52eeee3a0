use Rattle.std.proofs.Common.{string_bytes}
use Rattle.rowfn_batches.proofs.Explanations.{head_added}
use Rattle.rowfn_batches.proofs.explained.push_head.Goals as goal

pub returns : goal.returns
returns c =
    head_added c.push_str-7.result (string_bytes c.args.out.now) (string_bytes c.push_str.new.self)
    (string_bytes c.push_str-2.new.self) (string_bytes c.push_str-3.new.self)
    (string_bytes c.push_str-4.new.self) (string_bytes c.push_str-5.new.self)
    (string_bytes c.push_str-6.new.self) (string_bytes c.push_str-7.new.self)
    c.args.title.now c.args.words.now c.args.printed.now c.in_ok-push_str.ensures.bytes
    c.in_ok-push_str-2.ensures.bytes c.in_ok-push_str-3.ensures.bytes
    c.in_ok-push_str-4.ensures.bytes c.in_ok-push_str-5.ensures.bytes
    c.in_ok-push_str-6.ensures.bytes c.push_str-7.ensures.bytes
