use Rattle.std.proofs.Common.{◌≡◌, ℕ, ◌+◌, ◌<◌, ◌∙◌, Bool, false, List, length, ap, subst, arith}
use Rattle.std.specs.Prelude.{slice_index}
use Rattle.std.proofs.lemmas.List.{length_push}
use Rattle.vortex_like.specs.Gathered.{IsHeldAt}
use Rattle.vortex_like.proofs.Gathering.{not_held, told_push, past}
use Rattle.vortex_like.proofs.gathered.Search.pass_over.Goals as goal

pub loop-held-preserved : goal.loop-held-preserved
loop-held-preserved c =
    let search = c.args.self.now in
    let places : List ℕ = search.places.now in
    let needle : List ℕ = search.test.now.finder in
    let held = c.loop-held.held in
    let r : ℕ = length held.items in
    let size : length c.push_reserved.new.self.items ≡ r + 1 =
    ap (λ (bs : List Bool). length bs) c.push_reserved.ensures.items ∙ length_push held.items false
    in
    let at : c.len-in-loop-held-2.result ≡ r = omega (arith, held.ok.0) in
    let lt : r + 1 < length places = omega (arith, held.ok.0) in
    let passed : slice_index places (r + 1) < c.args.place + length needle =
    subst (λ (k : ℕ). slice_index places (k + 1) < c.args.place + length needle) at
    (past (c.args.place + length needle) (slice_index places (c.len-in-loop-held-2.result + 1))
    c.if-not-ends_by.ensures.1) in
    record {
      room = c.push_reserved.ensures.capacity ∙ c.loop-held.invariant.room;
      low = omega (arith, c.loop-held.invariant.low);
      high = omega arith;
      told =
          told_push (IsHeldAt search.bytes.now needle places) held.items
          c.push_reserved.new.self.items false c.push_reserved.ensures.items
          c.loop-held.invariant.told
          (not_held search.bytes.now needle places (length c.args.held.now.items) r c.args.place
          c.requires.places c.requires.next c.loop-held.invariant.low lt passed);
    }
