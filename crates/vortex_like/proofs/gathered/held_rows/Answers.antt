use Rattle.std.proofs.Common.{◌≡◌, ℕ, ◌∙◌, Bool, List, length, map, ap, arith}
use Rattle.std.proofs.lemmas.List.{length-map}
use Rattle.vortex_like.specs.Gathered.{IsBatch}
use Rattle.vortex_like.specs.SmallLetters.{cased}
use Rattle.vortex_like.specs.TextRows.{texts_of}
use Rattle.vortex_like.proofs.Gathering.{batch_places, held_batch, cased_batch}
use Rattle.vortex_like.proofs.gathered.held_rows.Goals as goal

pub run-requires-clause-places : goal.run-requires-clause-places
run-requires-clause-places c =
    let texts : List (List ℕ) = texts_of c.args.texts.now in
    let first : ℕ = c.len-in-loop-all.result in
    let bytes : List ℕ = c.gather.new.bytes.items in
    let places : List ℕ = c.gather.new.places.items in
    rw (c.as_slice.ensures.value, c.turn_small.ensures, c.as_slice-in-loop-all.ensures.value)
    (batch_places (map (cased c.args.in_small) texts) first (cased c.args.in_small bytes) places
    (cased_batch texts first bytes places c.args.in_small c.in_ok-gather.ensures))

pub loop-all-preserved : goal.loop-all-preserved
loop-all-preserved c =
    let texts : List (List ℕ) = texts_of c.args.texts.now in
    let shown : List (List ℕ) = map (cased c.args.in_small) texts in
    let at : ℕ = c.len-in-loop-all.result in
    let batch : IsBatch shown at c.as_slice.result.now c.as_slice-in-loop-all.result.now =
    rw (c.as_slice.ensures.value, c.turn_small.ensures, c.as_slice-in-loop-all.ensures.value)
    (cased_batch texts at c.gather.new.bytes.items c.gather.new.places.items c.args.in_small
    c.in_ok-gather.ensures) in
    let first : at ≡ length c.loop-all.all.items = omega (arith, c.loop-all.all.ok.0) in
    let more =
    held_batch shown at c.as_slice.result.now c.as_slice-in-loop-all.result.now
    c.args.test.now.finder c.loop-all.all.items c.run.new.held.items c.append.new.self.items batch
    first c.loop-all.invariant.told c.run.ensures.told c.in_ok-append.ensures.items in
    record {
      none = ap (λ (bs : List Bool). length bs) c.in_ok-append.ensures.other_items;
      room =
          c.in_ok-append.ensures.other_capacity ∙ c.run.ensures.room ∙ c.loop-all.invariant.room;
      high = omega (arith, more.1, length-map texts (cased c.args.in_small));
      told = more.0;
    }
