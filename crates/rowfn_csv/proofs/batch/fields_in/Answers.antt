use Rattle.std.proofs.Common.{◌∙◌, option_map, map, ap, arith, List, ℕ}
use Rattle.std.specs.Borrow.{Bor}
use Rattle.rowfn_csv.proofs.Parts.{next_part}
use Rattle.rowfn_csv.proofs.batch.fields_in.Goals as goal

pub field_at-requires : goal.field_at-requires
field_at-requires c = c.requires c.loop-part.part-index _ c.loop-part-test.true

pub loop-part-preserved : goal.loop-part-preserved
loop-part-preserved c =
    let before = c.loop-part.invariant in
    record {
      said = ap (map (option_map (λ (f : Bor (List ℕ)). f.now))) c.push_reserved.ensures.items
          ∙ next_part (option_map (λ (f : Bor (List ℕ)). f.now)) c.args.bytes.now
          c.loop-part.fields.items c.field_at.result c.args.parts.now c.loop-part.part-index _
          c.loop-part-test.true before.said c.field_at.ensures;
      count = omega (arith, c.push_reserved.ensures.len, before.count);
      room = c.push_reserved.ensures.capacity ∙ before.room;
    }
