use Rattle.std.proofs.Common.{rules, ℕ, IsUtf8, Bor, List, slice_index_or}
use borrow.Author.Count.{below_more}
use Rattle.std.proofs.lemmas.List.Elements.{All-from_get_or}
use Rattle.vortex_columns.proofs.lists.learn_texts.Invariants.{no_text}
use Rattle.vortex_columns.proofs.lists.learn_texts.Goals as goal

pub loop-text-preserved : goal.loop-text-preserved
loop-text-preserved c =
    below_more (λ j. IsUtf8 (slice_index_or c.args.texts.now j no_text).now) c.loop-text.text-index
    c.loop-text.invariant c.learn_text.ensures

pub returns : goal.returns
returns c =
    All-from_get_or (λ (t : Bor (List ℕ)). IsUtf8 t.now) c.args.texts.now no_text
    (λ i h. c.loop-text.invariant i (search rules))
