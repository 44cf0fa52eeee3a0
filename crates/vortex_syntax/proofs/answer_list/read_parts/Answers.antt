use Rattle.std.proofs.Common.{◌≡◌, ◌+◌, ◌-◌, ◌∷◌, [], map, take, drop, length, None, Some, sym, ap}
use Rattle.std.proofs.Common.{◌∙◌, arith, rules, length-drop}
use Rattle.std.proofs.lemmas.List.{map-append, take_rest}
use Rattle.vortex_syntax.specs.Errors.{UnlessMemory}
use Rattle.vortex_syntax.specs.Tokens.{token_in}
use Rattle.vortex_syntax.specs.AnswerLists.{answer_in}
use Rattle.vortex_syntax.specs.AnswerParts.{answer_parts, all_answers}
use Rattle.vortex_syntax.proofs.AnswerSplits.{after, part_is, last_is, goes_on, stops, finishes}
use Rattle.vortex_syntax.proofs.AnswerSplits.{unless_weaker}
use Rattle.vortex_syntax.specs.Refusals.{TreeStopsAt, tree_tokens, ListStopsAt, NamesPlace}
use Rattle.vortex_syntax.proofs.AnswerStops.{names_more, stops_first, stops_later, part_length}
use Rattle.vortex_syntax.proofs.answer_list.read_parts.Goals as goal

pub returns-in_err-answer-clause-read : goal.returns-in_err-answer-clause-read
returns-in_err-answer-clause-read c =
    let ts = c.args.tokens.now in
    let i = c.loop-count.from in
    let n = c.in-Some.count in
    let k : UnlessMemory (all_answers (map token_in ts) ≡ None) c.in_err-answer.field-0.0 =
    unless_weaker c.in_err-answer.field-0.0
    (stops (all_answers (map token_in ts)) (map answer_in c.loop-count.answers.items)
    (map token_in (drop i ts)) (map token_in (take (i + n - i) (drop i ts)))
    (answer_parts (map token_in (drop (i + (n + 1)) ts))) c.loop-count.invariant.1
    (part_is token_in ts i n c.in-Some.ensures.parts))
    c.in_err-answer.ensures.told in
    search rules

pub returns-in_err-answer-clause-refused : goal.returns-in_err-answer-clause-refused
returns-in_err-answer-clause-refused c =
    let ts = c.args.tokens.now in
    let i = c.loop-count.from in
    let n = c.in-Some.count in
    let p = map token_in (take (i + n - i) (drop i ts)) in
    let k : NamesPlace (ListStopsAt (map token_in ts)) c.args.places c.in_err-answer.field-0.0 =
    names_more (TreeStopsAt (tree_tokens p)) (ListStopsAt (map token_in ts)) c.after.result
    c.args.places i
    (stops_first (map token_in ts) i (map token_in (drop i ts)) p
    (answer_parts (map token_in (drop (i + (n + 1)) ts)))
    (part_is token_in ts i n c.in-Some.ensures.parts) c.loop-count.invariant.2)
    c.after.ensures c.in_err-answer.field-0.0 c.in_err-answer.ensures.refused in
    search rules

pub loop-count-preserved : goal.loop-count-preserved
loop-count-preserved c =
    let ts = c.args.tokens.now in
    let i = c.loop-count.from in
    let n = c.in-Some.count in (
      omega (
        arith,
        length-drop i ts,
        rw (take_rest ts i) at c.in-Some.ensures.within,
        c.loop-count.invariant.0,
      ),
      goes_on (all_answers (map token_in ts)) (map answer_in c.loop-count.answers.items)
          (map token_in (drop i ts)) (map token_in (take (i + n - i) (drop i ts)))
          (map token_in (drop (i + (n + 1)) ts))
          (answer_in c.in_ok-answer.answer) c.loop-count.invariant.1
          (part_is token_in ts i n c.in-Some.ensures.parts) c.in_ok-answer.ensures.told
          ∙ ap (λ v. after v (all_answers (map token_in (drop (i + (n + 1)) ts))))
          (sym (ap (map answer_in) c.in_ok-push.ensures.items
          ∙ map-append answer_in c.loop-count.answers.items (c.in_ok-answer.answer ∷ []))),
      stops_later (map token_in ts) i (map token_in (drop i ts))
          (map token_in (take (i + n - i) (drop i ts))) (map token_in (drop (i + (n + 1)) ts))
          (answer_in c.in_ok-answer.answer) n (part_is token_in ts i n c.in-Some.ensures.parts)
          c.in_ok-answer.ensures.told
          (part_length token_in ts i n
          (let here = rw (take_rest ts i) at c.in-Some.ensures.within in omega (arith, here)))
          c.loop-count.invariant.2,
    )

pub returns-in_err-answer-2-clause-read : goal.returns-in_err-answer-2-clause-read
returns-in_err-answer-2-clause-read c =
    let ts = c.args.tokens.now in
    let i = c.loop-count.from in
    let k : UnlessMemory (all_answers (map token_in ts) ≡ None) c.in_err-answer-2.field-0.0 =
    unless_weaker c.in_err-answer-2.field-0.0
    (stops (all_answers (map token_in ts)) (map answer_in c.loop-count.answers.items)
    (map token_in (drop i ts)) (map token_in (take (length ts - i) (drop i ts))) []
    c.loop-count.invariant.1 (last_is token_in ts i c.in_default.ensures.parts))
    c.in_err-answer-2.ensures.told in
    search rules

pub returns-in_err-answer-2-clause-refused : goal.returns-in_err-answer-2-clause-refused
returns-in_err-answer-2-clause-refused c =
    let ts = c.args.tokens.now in
    let i = c.loop-count.from in
    let p = map token_in (take (length ts - i) (drop i ts)) in
    let k : NamesPlace (ListStopsAt (map token_in ts)) c.args.places c.in_err-answer-2.field-0.0 =
    names_more (TreeStopsAt (tree_tokens p)) (ListStopsAt (map token_in ts)) c.after-2.result
    c.args.places i
    (stops_first (map token_in ts) i (map token_in (drop i ts)) p []
    (last_is token_in ts i c.in_default.ensures.parts) c.loop-count.invariant.2)
    c.after-2.ensures c.in_err-answer-2.field-0.0 c.in_err-answer-2.ensures.refused in
    search rules

pub returns-clause-read : goal.returns-clause-read
returns-clause-read c =
    let ts = c.args.tokens.now in
    let i = c.loop-count.from in
    finishes (all_answers (map token_in ts)) (map answer_in c.loop-count.answers.items)
    (map token_in (drop i ts)) (map token_in (take (length ts - i) (drop i ts)))
    (answer_in c.in_ok-answer-2.answer) c.loop-count.invariant.1
    (last_is token_in ts i c.in_default.ensures.parts) c.in_ok-answer-2.ensures.told
    ∙ ap Some (sym
    (ap (map answer_in) c.in_ok-push-2.ensures.items
    ∙ map-append answer_in c.loop-count.answers.items (c.in_ok-answer-2.answer ∷ [])))
