use Rattle.std.proofs.Common.{◌∙◌, arith, add-one, sym}
use Rattle.std.proofs.lemmas.Option.{slice_get-get_or}
use Rattle.yurkije_columns.proofs.BorrowedSoFar.{all_say_more, known_more}
use Rattle.yurkije_columns.proofs.borrowed.arrow_columns.Goals as goal

pub returns-in-None : goal.returns-in-None
returns-in-None c = record {
  column = _;
  there = slice_get-get_or _ _ _ c.loop-column-test.true;
  read = sym c.is_read.ensures ∙ c.in-None.ensures.0;
  unknown = c.in-None.ensures.1;
  before = c.loop-column.invariant.known;
}

pub loop-column-preserved : goal.loop-column-preserved
loop-column-preserved c =
    let k = c.loop-column.column in record {
      count = omega (arith, c.push_reserved.ensures.len, c.loop-column.invariant.count);
      place = c.push_reserved.ensures.capacity ∙ c.loop-column.invariant.place;
      say = rw c.push_reserved.ensures.items
          (all_say_more _ _ _ k _ _ _ c.is_read.result (add-one k) c.loop-column-test.true
          c.loop-column.invariant.say c.is_read.ensures c.in-Some.ensures);
      known = known_more _ _ k _ _ c.is_read.result c.loop-column-test.true
          c.loop-column.invariant.known c.is_read.ensures c.in-Some.ensures;
    }
