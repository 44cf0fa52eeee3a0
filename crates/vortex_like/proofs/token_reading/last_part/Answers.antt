use Rattle.std.proofs.Common.{rules}
use Rattle.std.specs.Prelude.{IsUtf8}
use Rattle.std.specs.Str.{chars}
use Rattle.vortex_like.proofs.Fronts.{last_alone, last_behind}
use Rattle.vortex_like.proofs.token_reading.last_part.Goals as goal

pub returns-in_default : goal.returns-in_default
returns-in_default c =
    let so_far = c.loop-behind.invariant.1 in
    last_alone c.args.escape (chars c.args.pattern.now) (chars c.loop-behind.rest.now) so_far.0
    c.cut_at_special-cut.result so_far.1 c.cut_at_special-cut.ensures c.in_default.ensures.token

pub loop-behind-preserved : goal.loop-behind-preserved
loop-behind-preserved c =
    let so_far = c.loop-behind.invariant.1 in
    let text : IsUtf8 c.in-Some.behind.now = search rules in (
      text,
      last_behind c.args.escape (chars c.args.pattern.now) (chars c.loop-behind.rest.now) so_far.0
          c.cut_at_special-cut.result so_far.1 c.cut_at_special-cut.ensures c.in-Some.field-0-0
          (chars c.in-Some.behind.now) c.in-Some.ensures.token,
    )
