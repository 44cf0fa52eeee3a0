use Rattle.std.proofs.Common.{◌≡◌, ◌≢◌, [], true, false, length, arith, rules, sym, ◌∙◌}
use Rattle.std.specs.Prelude.{IsUtf8}
use Rattle.std.specs.Str.{chars}
use Rattle.vortex_like.specs.Forms.{is_percent}
use Rattle.vortex_like.proofs.Shapes.{empty_text, no_empty_text}
use Rattle.vortex_like.proofs.Forming.{whole_front, no_literal, percent_behind, no_percent_behind}
use Rattle.vortex_like.proofs.form.prefix_shape.Goals.{else-is_percent-via-then-is_percent+else-is_empty}
use Rattle.vortex_like.proofs.form.prefix_shape.Goals.{else-is_percent-via-else-is_percent}
use Rattle.vortex_like.proofs.form.prefix_shape.Goals as goal

differ : false ≡ true → ⊥
differ e = cc

pub returns-in-None : goal.returns-in-None
returns-in-None c =
    let cut = c.cut_at_special-cut in
    whole_front c.args.escape (chars c.args.pattern.now) (chars cut.result.front.now)
    (chars cut.result.rest.now)
    cut.ensures.split c.in-None.ensures.characters cut.ensures.plain

pub returns-then-is_empty : goal.returns-then-is_empty
returns-then-is_empty c =
    let cut = c.cut_at_special-cut in
    let behind = c.in-Some.behind.now in
    let none : length behind ≡ 0 = grind (arith, c.if-is_empty.ensures) in
    let parts =
    percent_behind c.args.escape (chars c.args.pattern.now) (chars cut.result.front.now)
    (chars cut.result.rest.now) (chars behind) c.in-Some.c cut.ensures.split
    c.in-Some.ensures.characters cut.ensures.plain (sym c.if-is_percent.ensures)
    (empty_text behind none) in (
      no_literal c.args.escape (chars c.args.pattern.now) (chars cut.result.front.now)
          (chars cut.result.rest.now) (chars behind) c.in-Some.c cut.ensures.split
          c.in-Some.ensures.characters cut.ensures.plain cut.ensures.special,
      parts.0,
      parts.1,
    )

pub returns-else-is_percent : goal.returns-else-is_percent
returns-else-is_percent c =
    let cut = c.cut_at_special-cut in
    let behind = c.in-Some.behind.now in
    let text : IsUtf8 behind = search rules in
    let other : is_percent c.args.escape c.in-Some.c ≡ true → chars behind ≡ [] → ⊥ =
    elim c.else-is_percent.branch [
      | else-is_percent-via-then-is_percent+else-is_empty w ↦ (λ p e.
          let some : length behind ≢ 0 = grind (arith, w.if-is_empty.ensures) in
          some (no_empty_text behind text e))
      | else-is_percent-via-else-is_percent w ↦ (λ p e. differ (w.if-is_percent.ensures ∙ p))
    ] in (
      no_literal c.args.escape (chars c.args.pattern.now) (chars cut.result.front.now)
          (chars cut.result.rest.now) (chars behind) c.in-Some.c cut.ensures.split
          c.in-Some.ensures.characters cut.ensures.plain cut.ensures.special,
      no_percent_behind c.args.escape (chars c.args.pattern.now) (chars cut.result.front.now)
          (chars cut.result.rest.now) (chars behind) c.in-Some.c cut.ensures.split
          c.in-Some.ensures.characters cut.ensures.plain cut.ensures.special other,
    )
