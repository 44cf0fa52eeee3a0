use Rattle.std.proofs.Common.{◌+◌, ◌-◌, ◌∷◌, ◌++◌, [], map, take, drop, length, ℕ, Vec}
use Rattle.std.proofs.Common.{Global, sym, ap, ◌∙◌, arith, length-drop}
use Rattle.std.proofs.lemmas.List.{map-append, take_rest}
use Rattle.vortex_syntax.specs.Tokens.{token_in}
use Rattle.vortex_syntax.specs.AnswerTexts.{answer_texts}
use Rattle.vortex_syntax.proofs.AnswerSplits.{part_is, last_is}
use Rattle.vortex_syntax.proofs.AnswerTexts.{texts_go_on, texts_end}
use Rattle.vortex_syntax.proofs.texts.all_texts.Goals as goal

pub loop-count-preserved : goal.loop-count-preserved
loop-count-preserved c =
    let ts = c.args.tokens.now in
    let i = c.loop-count.from in
    let n = c.in-Some.count in
    let done = map (λ (v : Vec ℕ Global). v.items) c.loop-count.texts.items in (
      omega (
        arith,
        length-drop i ts,
        rw (take_rest ts i) at c.in-Some.ensures.within,
        c.loop-count.invariant.0,
      ),
      texts_go_on (answer_texts (map token_in ts)) done (map token_in (drop i ts))
          (map token_in (take (i + n - i) (drop i ts))) c.in_ok-answer_text.field-0.items
          (map token_in (drop (i + (n + 1)) ts)) c.loop-count.invariant.1
          (part_is token_in ts i n c.in-Some.ensures.parts) c.in_ok-answer_text.ensures
          ∙ ap (λ xs. xs ++ answer_texts (map token_in (drop (i + (n + 1)) ts)))
          (sym (ap (map (λ (v : Vec ℕ Global). v.items)) c.in_ok-push.ensures.items
          ∙ map-append (λ (v : Vec ℕ Global). v.items) c.loop-count.texts.items
          (c.in_ok-answer_text.field-0 ∷ []))),
    )

pub returns : goal.returns
returns c =
    let ts = c.args.tokens.now in
    let i = c.loop-count.from in
    ap (map (λ (v : Vec ℕ Global). v.items)) c.in_ok-push-2.ensures.items
    ∙ (map-append (λ (v : Vec ℕ Global). v.items) c.loop-count.texts.items
    (c.in_ok-answer_text-2.field-0 ∷ [])
    ∙ texts_end (answer_texts (map token_in ts))
    (map (λ (v : Vec ℕ Global). v.items) c.loop-count.texts.items) (map token_in (drop i ts))
    (map token_in (take (length ts - i) (drop i ts))) c.in_ok-answer_text-2.field-0.items
    c.loop-count.invariant.1 (last_is token_in ts i c.in_default.ensures.parts)
    c.in_ok-answer_text-2.ensures)
