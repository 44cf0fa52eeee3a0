use Rattle.std.proofs.Common.{◌≡◌, ◌<◌, ◌+◌, ℕ, pos, map, [], cond}
use Rattle.std.specs.Prelude.{IsUtf8}
use Rattle.std.specs.List.{range_with_len}
use Rattle.std.specs.Str.{IsCharBoundary}
use Rattle.std.specs.Vec.{vec_len, vec_capacity}
use Rattle.vortex_arrow.specs.Values.{offset_at, bytes_between, LieWithin}
use Rattle.vortex_arrow.proofs.whole_texts.cut_texts.Given as goal

-- the texts so far, that they lie where they should and are texts, and where the next one begins
abbrev pub invariant-loop-i : goal.invariant-loop-i
invariant-loop-i g l = record {
  count : vec_len l.texts ≡ l.i;
  place : vec_capacity l.texts ≡ l.count;
  here : offset_at (map g.O.IndexType.number l.rows.offsets.now) (l.offset + l.i)
      ≡ pos (l.base + l.from);
  boundary : IsCharBoundary l.text l.from;
  values : map (λ t. t.now) l.texts.items
      ≡ map (λ i. cond (g.K.KeptRows.is_kept l.kept i)
      (bytes_between l.rows.data.now
      (offset_at (map g.O.IndexType.number l.rows.offsets.now) (l.offset + i))
      (offset_at (map g.O.IndexType.number l.rows.offsets.now) (l.offset + i + 1))) [])
      (range_with_len 0 l.i);
  good : (k : ℕ) → k < l.i
      → LieWithin l.rows.data.now
      (offset_at (map g.O.IndexType.number l.rows.offsets.now) (l.offset + k))
      (offset_at (map g.O.IndexType.number l.rows.offsets.now) (l.offset + k + 1))
      × IsUtf8 (bytes_between l.rows.data.now
      (offset_at (map g.O.IndexType.number l.rows.offsets.now) (l.offset + k))
      (offset_at (map g.O.IndexType.number l.rows.offsets.now) (l.offset + k + 1)));
}
