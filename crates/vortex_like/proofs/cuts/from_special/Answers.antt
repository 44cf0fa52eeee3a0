use Rattle.std.proofs.Common.{rules, sym}
use Rattle.std.specs.Char.{IsScalar}
use Rattle.vortex_like.proofs.Reading.{pass_none, pass_more}
use Rattle.vortex_like.proofs.cuts.from_special.Goals as goal

pub loop-c-init : goal.loop-c-init
loop-c-init c = (c.utf8.pattern, pass_none c.args.escape c.args.pattern.now)

pub loop-c-preserved : goal.loop-c-preserved
loop-c-preserved c =
    let s : IsScalar c.in-Some.c = search rules in (
      search rules,
      pass_more c.args.escape c.args.pattern.now c.loop-c.rest.now c.in-Some.behind.now c.in-Some.c
          s
          (sym c.if-is_special.ensures) c.in-Some.ensures.bytes c.loop-c.invariant.1,
    )
