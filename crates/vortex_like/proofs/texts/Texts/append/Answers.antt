use Rattle.std.proofs.Common.{ℕ, ◌≤◌, List, ◌++◌, length, refl, ap, ◌∙◌, arith}
use Rattle.vortex_views.specs.ViewBytes.{view_bytes, view_len, inlined_value}
use Rattle.vortex_views.proofs.Layouts.{short_value}
use Rattle.vortex_like.specs.TextRows.{texts_of, text_at}
use Rattle.vortex_like.proofs.texts.Texts.append.Goals as goal

pub returns-then-has_room : goal.returns-then-has_room
returns-then-has_room c =
    let own : List ℕ = text_at (texts_of c.args.self.now) c.args.i in
    let is = c.view-view.ensures.value in
    let inlined : view_len (view_bytes c.view-view.result.now) ≤ 12 =
    c.if-is_inlined.ensures.0 refl in
    let short : length own ≤ 12 = omega (arith, is.len, inlined) in
    c.push_inlined.ensures
    ∙ ap (λ (bs : List ℕ). c.args.bytes.now.items ++ bs)
    (ap inlined_value (is.inlined short) ∙ short_value own short)
