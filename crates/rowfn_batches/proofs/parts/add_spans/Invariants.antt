use Rattle.std.proofs.Common.{◌≡◌, ◌++◌, take}
use Rattle.rowfn_batches.proofs.parts.add_spans.Given as goal

-- the rows so far stand behind those that were there, and no field more
abbrev pub invariant-loop-span : goal.invariant-loop-span
invariant-loop-span l =
    (l.batch.fields ≡ l.initial.batch.fields)
    × (l.batch.spans ≡ l.initial.batch.spans ++ take l.span-index l.spans)
