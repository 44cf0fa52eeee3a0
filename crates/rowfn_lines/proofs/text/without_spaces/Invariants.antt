use Rattle.std.proofs.Common.{◌≡◌, length}
use denote.Text.{Utf8}
use denote.Shadow.{shadow}
use Rattle.rowfn_lines.specs.Lines.{after_spaces}
use Rattle.rowfn_lines.proofs.text.without_spaces.Given as goal

-- the spaces that were skipped do not count
abbrev pub invariant-loop-after : goal.invariant-loop-after
invariant-loop-after l = shadow (Utf8 l.rest) × (after_spaces l.rest ≡ after_spaces l.text)

abbrev pub decreases-loop-after : goal.decreases-loop-after
decreases-loop-after l = length l.rest
