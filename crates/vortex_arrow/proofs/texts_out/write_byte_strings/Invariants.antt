use Rattle.std.proofs.Common.{◌≡◌, ◌≤◌, ◌+◌, ℕ, pos, length, map, take, drop}
use Rattle.vortex_arrow.specs.Values.{offset_at}
use Rattle.vortex_arrow.specs.Written.{joined}
use Rattle.vortex_arrow.proofs.texts_out.write_byte_strings.Given as goal

-- the bytes of the rows so far, where each begins, and what lies behind
abbrev pub invariant-loop-i : goal.invariant-loop-i
invariant-loop-i g l = record {
  count : l.end ≡ length (joined (take l.i l.column.rows));
  bytes : take l.end l.bytes ≡ joined (take l.i l.column.rows);
  bytes_behind : drop l.end l.bytes ≡ drop l.end l.fn.bytes;
  offsets : (k : ℕ) → k ≤ l.i → offset_at (map g.O.IndexType.number l.offsets) k
      ≡ pos (length (joined (take k l.column.rows)));
  offsets_behind : drop (l.i + 1) l.offsets ≡ drop (l.i + 1) l.fn.offsets;
}
