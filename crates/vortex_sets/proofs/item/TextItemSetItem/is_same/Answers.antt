use Rattle.std.proofs.Common.{◌∙◌}
use Rattle.vortex_sets.proofs.SetLemmas.{different_keys, same_texts}
use Rattle.vortex_sets.proofs.item.TextItemSetItem.is_same.Goals as goal

pub returns-then-self-other : goal.returns-then-self-other
returns-then-self-other c =
    c.eq.ensures ∙ same_texts c.args.self.bytes.now c.args.other.bytes.now

pub returns-else-self-other : goal.returns-else-self-other
returns-else-self-other c =
    different_keys c.args.self.bytes.now c.args.other.bytes.now c.args.self.key c.args.other.key
    c.args.self.keyed c.args.other.keyed c.if-self-other.false
