use Rattle.std.proofs.Common.{◌≤◌, ◌+◌, ◌<◌, length, subst, arith}
use Rattle.vortex_errors.specs.declared.error.VortexError.TheVariants.{InvalidColumn}
use Rattle.vortex_views.specs.ViewBytes.{view_bytes}
use Rattle.vortex_views.specs.Placing.{Placed, most_bytes, most_buffers}
use Rattle.vortex_views.specs.Building.{filled}
use Rattle.vortex_views.proofs.Placed.{placed_appended, placed_begun, filled_behind, filled_next}
use Rattle.vortex_views.proofs.Placed.{unless_where}
use Rattle.vortex_views.proofs.builder.Buffers.place.Goals as goal

pub returns-then-value-len-clause-answer : goal.returns-then-value-len-clause-answer
returns-then-value-len-clause-answer c =
    let value = c.args.value.now in
    let old = c.args.self.now in
    let room : length old.last.items + length value ≤ most_bytes =
    omega (arith, c.if-value-len.true, c.len.ensures, old.last.ok.0, c.requires.range.fill) in
    unless_where c.append.result _ _ _ InvalidColumn
    (subst (λ (p : Placed). p.count ≤ most_buffers)
    (filled_behind (filled old) (length value) c.requires.long room) c.requires.range.count)
    (λ view. placed_appended value old c.append.new.self (view_bytes view) c.requires.long
    c.requires.most c.requires.range room)
    c.append.ensures.answer

pub returns-clause-answer : goal.returns-clause-answer
returns-clause-answer c =
    let value = c.args.value.now in
    let old = c.args.self.now in
    let past : most_bytes < length old.last.items + length value =
    omega (arith, c.if-value-len.false, c.len.ensures, old.last.ok.0) in
    let room : length old.full.items + 1 ≤ 4294967295 =
    omega (arith, c.if-len-ge-MOST_BUFFERS.false, c.len-2.ensures, old.full.ok.0) in
    unless_where c.begin.result _ _ _ InvalidColumn
    (subst (λ (p : Placed). p.count ≤ most_buffers)
    (filled_next (filled old) (length value) c.requires.long past) (omega (arith, room)))
    (λ view. placed_begun value old c.begin.new.self (view_bytes view) c.requires.long
    c.requires.most c.requires.range room past)
    c.begin.ensures.answer
