use Rattle.std.proofs.Common.{◌≡◌, ℕ, ◌<◌, take}
use Rattle.rowfn_csv.specs.Reads.{place_after, EndsLineAt}
use Rattle.rowfn_csv.proofs.raw.has_line_end.Given as goal

-- where the bytes so far end, in none of which a line does
abbrev pub invariant-loop-byte : goal.invariant-loop-byte
invariant-loop-byte l = record {
  place : l.place ≡ place_after l.delimiter (take l.byte-index l.bytes);
  before : (i : ℕ) → i < l.byte-index → ¬ EndsLineAt l.delimiter l.bytes i;
}
