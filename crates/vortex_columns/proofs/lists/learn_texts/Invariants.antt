use Rattle.std.proofs.Common.{◌<◌, ℕ, List, Bor, IsUtf8, [], slice_index_or}
use Rattle.vortex_columns.proofs.lists.learn_texts.Given as goal

-- reading past the end
abbrev pub no_text : Bor (List ℕ)
no_text = record { ref_ptr = (0, 0); now = [] }

-- the texts so far
abbrev pub invariant-loop-text : goal.invariant-loop-text
invariant-loop-text l = (j : ℕ) → j < l.text-index → IsUtf8 (slice_index_or l.texts j no_text).now
