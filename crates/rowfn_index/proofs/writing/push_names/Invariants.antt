use Rattle.std.proofs.Common.{◌++◌, take}
use Rattle.std.specs.List.{flat_map}
use Rattle.rowfn_index.specs.IndexTexts.{HasFields, fact_entries, name_entries}
use Rattle.rowfn_index.proofs.writing.push_names.Given as goal

-- those of the columns so far are added
abbrev pub invariant-loop-k : goal.invariant-loop-k
invariant-loop-k l = HasFields l.fn.entries l.entries (fact_entries ++ flat_map name_entries (take l.k l.columns))
