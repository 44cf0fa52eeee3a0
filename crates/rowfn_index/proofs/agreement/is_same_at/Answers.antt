use Rattle.std.proofs.Common.{sym, ◌∙◌}
use Rattle.rowfn_index.proofs.SameWords.{same_words, no_words}
use Rattle.rowfn_index.proofs.agreement.is_same_at.Goals as goal

pub returns-in-Some-Some : goal.returns-in-Some-Some
returns-in-Some-Some c = λ t.
    same_words c.args.written.now c.args.asked.now c.args.place c.in-Some-Some.written.now
    c.in-Some-Some.asked.now c.as_str.result.now c.as_str-in-Some-Some.result.now
    c.in-Some-Some.ensures.lookup.3.0 c.in-Some-Some.ensures.lookup.1
    c.in-Some-Some.ensures'.lookup.3.0 c.in-Some-Some.ensures'.lookup.1 c.as_str.ensures.value
    c.as_str-in-Some-Some.ensures.value (sym c.eq.ensures ∙ t)

pub returns-in-None-None : goal.returns-in-None-None
returns-in-None-None c = λ t.
    no_words c.args.written.now c.args.asked.now c.args.place c.in-None-None.ensures.lookup.3
    c.in-None-None.ensures'.lookup.3
