use Rattle.std.proofs.Common.{◌≡◌, ◌≢◌, ◌++◌, Bool, List, map, take}
use Rattle.csv.specs.Records.{fields_of}
use Rattle.rowfn_csv.specs.Records.{Field, SaysFields, field_spelled, without_line_end}
use Rattle.rowfn_csv.specs.KeptLines.{bytes_between}
use Rattle.rowfn_csv.specs.Scanning.{Knows}
use Rattle.rowfn_csv.proofs.fields.add_fields.Given as goal

-- the fields in the columns so far, and what is marked
abbrev pub invariant-loop-column : goal.invariant-loop-column
invariant-loop-column g l = record {
  fields : (closed : Bool) → (said : List Field) → l.format.delimiter ≢ 34
      → SaysFields l.format.delimiter closed
      (without_line_end (bytes_between l.kept l.span.start l.span.end)) said
      → l.batch.fields ≡ l.initial.batch.fields
      ++ map (λ c. field_spelled l.format (fields_of l.fields) said (g.C.Chosen.spelled c))
      (take l.column-index l.columns);
  spans : l.batch.spans ≡ l.initial.batch.spans;
  knows : Knows l.format.delimiter (bytes_between l.kept l.span.start l.span.end) l.quotes;
}
