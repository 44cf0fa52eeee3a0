use Rattle.std.proofs.Common.{◌≡◌, map, option_map, take}
use Rattle.rowfn_queries.specs.Reading.{lettered}
use Rattle.rowfn_queries.proofs.sample.all_lettered.Given as goal

-- the fields so far
abbrev pub invariant-loop-field : goal.invariant-loop-field
invariant-loop-field l =
    map (option_map (λ f. f.now)) l.found.items
    ≡ map (option_map lettered) (map (option_map (λ f. f.now)) (take l.field-index l.fields))
