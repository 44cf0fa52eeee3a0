use Rattle.std.proofs.Common.{◌≡◌, ◌<◌, ℕ}
use Rattle.rowfn_index.specs.Agreement.{word_at}
use Rattle.rowfn_index.proofs.agreement.check_words.Given as goal

abbrev pub invariant-loop-place : goal.invariant-loop-place
invariant-loop-place l = (k : ℕ) → k < l.place → word_at l.written k ≡ word_at l.asked k
