use Rattle.std.proofs.Common.{◌≡◌, ◌≤◌, ◌-◌, length, map, min}
use Rattle.std.specs.Vec.{vec_capacity}
use Rattle.vortex_like.specs.Gathered.{AreHeld}
use Rattle.vortex_like.specs.SmallLetters.{cased}
use Rattle.vortex_like.specs.TextRows.{texts_of}
use Rattle.vortex_like.proofs.gathered.held_rows.Given as goal

-- the texts so far, and the capacity for those of a batch
abbrev pub invariant-loop-all : goal.invariant-loop-all
invariant-loop-all l = record {
  none : length l.held.items ≡ 0;
  room : vec_capacity l.held ≡ min l.len 4096;
  high : length l.all.items ≤ l.len;
  told : AreHeld (map (cased l.in_small) (texts_of l.texts)) l.test.finder (length l.all.items) l.all.items;
}

abbrev pub decreases-loop-all : goal.decreases-loop-all
decreases-loop-all l = l.len - length l.all.items
