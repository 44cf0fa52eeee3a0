use Rattle.std.proofs.Common.{◌≡◌, map, option_map, take, length}
use Rattle.std.specs.Vec.{vec_len, vec_capacity}
use Rattle.rowfn_csv.specs.Batches.{part_said}
use Rattle.rowfn_csv.proofs.batch.fields_in.Given as goal

-- the fields so far, and that there is room for all
abbrev pub invariant-loop-part : goal.invariant-loop-part
invariant-loop-part l = record {
  said : map (option_map (λ f. f.now)) l.fields.items
      ≡ map (part_said l.bytes) (take l.part-index l.parts);
  count : vec_len l.fields ≡ l.part-index;
  room : vec_capacity l.fields ≡ length l.parts;
}
