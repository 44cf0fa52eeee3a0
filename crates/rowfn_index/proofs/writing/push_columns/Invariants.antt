use Rattle.std.proofs.Common.{◌∷◌, codes, take}
use Rattle.std.specs.List.{flat_map}
use Rattle.rowfn_index.specs.IndexTexts.{HasFields, text_entry, column_entries}
use Rattle.rowfn_index.proofs.writing.push_columns.Given as goal

-- those of the columns so far are added
abbrev pub invariant-loop-k : goal.invariant-loop-k
invariant-loop-k l = HasFields l.fn.entries l.entries (text_entry (codes "columns") ∷ flat_map column_entries (take l.k l.columns))
