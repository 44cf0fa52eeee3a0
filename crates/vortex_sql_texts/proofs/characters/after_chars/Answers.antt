use Rattle.std.proofs.Common.{refl, arith}
use Rattle.vortex_sql_texts.proofs.CharacterParts.{ended, reached, one_more}
use Rattle.vortex_sql_texts.proofs.characters.after_chars.Goals as goal

pub loop-init : goal.loop-init
loop-init c = record { left = refl; utf8 = c.utf8.text }

pub split_first-requires-text-text : goal.split_first-requires-text-text
split_first-requires-text-text c κs = c.loop.invariant.utf8

pub returns-in-None : goal.returns-in-None
returns-in-None c =
    ended c.args.count c.loop.counter c.args.text.now c.loop.rest.now c.loop.invariant.utf8
    c.loop.invariant.left c.in-None.ensures.characters (omega arith)

pub loop-preserved : goal.loop-preserved
loop-preserved c = record {
  left =
      one_more c.loop.counter c.args.text.now c.loop.rest.now c.in-Some.after.now c.in-Some.field-0-0
      c.loop.invariant.left c.in-Some.ensures.characters;
  utf8 = c.in-Some.ensures.utf8;
}

pub returns-text : goal.returns-text
returns-text c = c.loop.invariant.utf8

pub returns : goal.returns
returns c =
    reached c.args.count c.loop.counter c.args.text.now c.loop.rest.now c.loop.invariant.utf8
    c.loop.invariant.left (omega arith)
