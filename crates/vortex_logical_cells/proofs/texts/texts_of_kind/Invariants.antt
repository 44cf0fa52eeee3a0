use Rattle.std.proofs.Common.{◌≡◌, length}
use Rattle.vortex_views.specs.Collected.{HaveRoom}
use Rattle.vortex_logical_cells.specs.StoredTexts.{AreWritten}
use Rattle.vortex_logical_cells.proofs.texts.texts_of_kind.Given as goal

-- the rows so far are written
abbrev pub invariant-loop-place : goal.invariant-loop-place
invariant-loop-place l =
    record {
      written : AreWritten l.kind l.column.rows l.texts l.valid.items;
      room : HaveRoom l.texts;
      count : length l.texts ≡ l.place;
    }
