use Rattle.std.proofs.Common.{rules, ◌≡◌, false}
use Rattle.std.specs.Prelude.{chars}
use Rattle.vortex_sql_texts.specs.Trims.{has, members}
use Rattle.vortex_sql_texts.proofs.Ends.{stopped, emptied}
use Rattle.vortex_sql_texts.proofs.trims.without_start.Goals as goal

pub returns-then-not-has : goal.returns-then-not-has
returns-then-not-has c =
    let other : has (members c.args.out) c.in-Some.c ≡ false = search rules in
    stopped (members c.args.out) c.args.text.now c.loop-c.rest.now (chars c.in-Some.after.now) c.in-Some.c
    c.loop-c.invariant.utf8 c.loop-c.invariant.same c.in-Some.ensures.characters
    other

pub returns : goal.returns
returns c =
    emptied (members c.args.out) c.args.text.now c.loop-c.rest.now c.loop-c.invariant.utf8
    c.loop-c.invariant.same c.in_default.ensures.characters
