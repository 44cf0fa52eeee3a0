use Rattle.std.proofs.Common.{◌≡◌, List, map, sym, subst, arith}
use Rattle.std.proofs.lemmas.List.{length-map}
use Rattle.vortex_syntax.specs.Tokens.{token_in}
use Rattle.vortex_syntax.specs.Lexing.{Lexes}
use Rattle.vortex_syntax.specs.AnswerLists.{Answer, ReadsAnswers, told, answer_in}
use Rattle.vortex_syntax.specs.AnswerParts.{all_answers}
use Rattle.vortex_syntax.proofs.Whole.{found_of, only_of}
use Rattle.vortex_syntax.proofs.AnswerSplits.{answers_in, answers_read}
use Rattle.vortex_syntax.specs.Refusals.{StandsAt, ListStopsAt}
use Rattle.vortex_syntax.proofs.AnswerStops.{within}
use Rattle.vortex_syntax.proofs.Refused.{if_err, by_places}
use Rattle.vortex_syntax.proofs.answer_list.read_answer_list.Goals as goal

pub returns-clause-found : goal.returns-clause-found
returns-clause-found c =
    let ts = map token_in c.as_slice-tokens.result.now in
    let lexed : Lexes c.args.text.now ts =
    rw c.as_slice-tokens.ensures.value c.in_ok-read.ensures.found in
    found_of (λ v. map answer_in v.items) (all_answers ts)
    (λ xs. (bs : List Answer) × ReadsAnswers c.args.text.now bs × (xs ≡ map told bs))
    (λ xs e. answers_in c.args.text.now ts xs lexed (sym c.in_default.ensures.nests) e)
    c.read_parts.result c.read_parts.ensures.read

pub returns-clause-only : goal.returns-clause-only
returns-clause-only c = λ bs r.
    let ts = map token_in c.as_slice-tokens.result.now in
    let lexed : Lexes c.args.text.now ts =
    rw c.as_slice-tokens.ensures.value c.in_ok-read.ensures.found in
    only_of (λ v. map answer_in v.items) (all_answers ts) (map told bs)
    (answers_read c.args.text.now ts bs lexed r) c.read_parts.result c.read_parts.ensures.read

pub returns-clause-refused : goal.returns-clause-refused
returns-clause-refused c =
    let ts = map token_in c.as_slice-tokens.result.now in
    let lexed : Lexes c.args.text.now ts =
    rw c.as_slice-tokens.ensures.value c.in_ok-read.ensures.found in
    if_err _ _
    (by_places c.args.text.now ListStopsAt ts c.placed.result lexed
    (sym c.in_default.ensures.nests) (within ts)
    (λ n le. subst (StandsAt c.args.text.now n) (sym (c.placed.ensures n))
    (c.in_ok-read.ensures.places n
    (omega (
      arith,
      le,
      length-map c.as_slice-tokens.result.now token_in,
      c.as_slice-tokens.ensures.len,
    ))))) c.read_parts.result c.read_parts.ensures.refused
