use Rattle.std.proofs.Common.{◌≡◌, ◌<◌, ℕ, [], true, slice_index_or}
use Rattle.std.specs.Prelude.{IsUtf8}
use Rattle.vortex_columns.specs.ValidityView.{is_valid_row, validity_of}
use Rattle.vortex_columns.proofs.lists.are_texts.Given as goal

abbrev pub invariant-loop-i : goal.invariant-loop-i
invariant-loop-i l = (j : ℕ) → j < l.i → is_valid_row (validity_of l.validity) j ≡ true
    → IsUtf8 (slice_index_or l.values j [])
