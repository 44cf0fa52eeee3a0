use Rattle.std.proofs.Common.{◌≡◌, suc, arith, ap, true, false, length}
use Rattle.std.specs.Prelude.{chars, nat_eq}
use Rattle.std.specs.List.{starts_with}
use Rattle.std.proofs.lemmas.Int.{ints}
use Rattle.vortex_sql_texts.proofs.Ends.{step_place, found_place}
use Rattle.vortex_sql_texts.proofs.places.place_of.Goals as goal

pub loop-rest-preserved : goal.loop-rest-preserved
loop-rest-preserved c =
    let no : starts_with nat_eq c.loop-rest.rest.now c.args.part.now ≡ false =
    cc (
      c.starts_with.ensures.value,
      c.as_bytes.ensures.value,
      c.as_bytes-in-loop-rest.ensures.value,
      c.loop-rest-test.true,
    ) in record {
      same =
          step_place c.args.part.now c.args.text.now c.loop-rest.rest.now c.in-Some.after.now
          c.in-Some.field-0-0 c.loop-rest.invariant.utf8 no c.in-Some.ensures.characters
          c.loop-rest.invariant.shorter c.loop-rest.invariant.same;
      shorter =
          let size : length (chars c.loop-rest.rest.now) ≡ suc (length (chars c.in-Some.after.now)) = ap length c.in-Some.ensures.characters in
          omega (arith, size, c.loop-rest.invariant.shorter);
      utf8 = c.in-Some.ensures.utf8;
    }

pub returns : goal.returns
returns c =
    let yes : starts_with nat_eq c.loop-rest.rest.now c.args.part.now ≡ true =
    cc (
      c.starts_with.ensures.value,
      c.as_bytes.ensures.value,
      c.as_bytes-in-loop-rest.ensures.value,
      c.loop-rest-test.false,
    ) in
    let found = found_place c.args.part.now c.args.text.now c.loop-rest.rest.now
    c.loop-rest.invariant.utf8 yes c.loop-rest.invariant.same in
    omega (arith, ints, found, c.count_chars.ensures, c.count_chars-2.ensures, c.loop-rest.invariant.shorter)
