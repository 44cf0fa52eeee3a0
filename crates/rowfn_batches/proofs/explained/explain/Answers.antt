use Rattle.rowfn_batches.proofs.explained.explain.Goals as goal

pub returns : goal.returns
returns c = rw (c.deref.ensures.value, c.deref-2.ensures.value) at c.answer_lines.ensures
