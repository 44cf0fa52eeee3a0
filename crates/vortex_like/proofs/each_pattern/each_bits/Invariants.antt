use Rattle.std.proofs.Common.{◌≡◌, ◌≤◌, length}
use Rattle.std.specs.List.{All}
use Rattle.std.specs.Option.{IfSome}
use Rattle.std.specs.Vec.{vec_capacity}
use Rattle.vortex_columns.specs.ColumnView.{row}
use Rattle.vortex_like.specs.EachPattern.{IsCompiled, IsKeptAt}
use Rattle.vortex_views.specs.BorrowedValue.{row_value}
use Rattle.vortex_like.specs.Rows.{AreTold, IsLikeBit}
use Rattle.vortex_like.proofs.each_pattern.each_bits.Given as goal

-- the rows so far, the capacity for the rest, and the cached patterns
abbrev pub invariant-loop-i : goal.invariant-loop-i
invariant-loop-i g l =
    (vec_capacity l.bits ≡ l.len)
    × AreTold l.i
    (λ i b.
    IsLikeBit l.columns.options (row l.columns.texts.now.rows i)
    (row l.columns.patterns.now.rows i) b) l.bits.items
    × All (IsCompiled l.columns.options l.columns.ascii) l.kept.items
    × (l.at ≤ length l.kept.items)
    × IfSome l.last (λ own. IsKeptAt (row_value own) l.kept.items l.at)
