use Rattle.std.proofs.Common.{◌++◌, ap, ◌∙◌, arith, string_bytes}
use Rattle.vortex_sql_pads.proofs.Fillers.{filled_left, filled_right}
use Rattle.vortex_sql_pads.proofs.pads.padded.Goals as goal

pub returns-in_ok-push_str-in-Left : goal.returns-in_ok-push_str-in-Left
returns-in_ok-push_str-in-Left c =
    filled_left c.args.pad c.args.count c.count_chars-width.result c.args.text.now c.args.fill.now
    (string_bytes c.in_ok-made.made) _ c.utf8.text c.in-Left.is c.count_chars-width.ensures
    (omega (arith, c.if-count-width.false)) c.in_ok-made.ensures
    c.in_ok-push_str-in-Left.ensures.bytes

pub returns-in_ok-push_str-in-Right : goal.returns-in_ok-push_str-in-Right
returns-in_ok-push_str-in-Right c =
    let whole = string_bytes c.in_ok-whole-in-Right.whole in
    filled_right c.args.pad c.args.count c.count_chars-width.result c.args.text.now c.args.fill.now
    (string_bytes c.in_ok-made.made) whole _ c.utf8.text c.in-Right.is c.count_chars-width.ensures
    (omega (arith, c.if-count-width.false)) c.in_ok-made.ensures
    c.in_ok-whole-in-Right.ensures.ok
    (c.in_ok-push_str-in-Right.ensures.bytes ∙ ap (λ bs. whole ++ bs) c.as_str.ensures.value)
