use Rattle.std.proofs.Common.{◌<◌, ◌^◌, ◌≤◌, subst, List, ℕ, length, sym, refl, rules, arith}
use Rattle.std.specs.Str.{chars}
use Rattle.std.proofs.lemmas.Str.{length-le-encodes, encodes-chars}
use Rattle.vortex_like.proofs.Walk.{passes_any, passes_one, goes_further, ends, ends_any}
use Rattle.vortex_like.proofs.Walk.{ends_looked, can_look, refused_looked, end_looked}
use Rattle.vortex_like.proofs.matching.match_tokens.Goals as goal

pub loop-back-preserved-then-begins_with_any : goal.loop-back-preserved-then-begins_with_any
loop-back-preserved-then-begins_with_any c = (
  c.loop-back.invariant.0,
  passes_any c.args.case_insensitive c.args.tokens.now (chars c.args.text.now) c.loop-back.at
      c.loop-back.looks c.loop-back.rest c.loop-back.back (sym c.if-begins_with_any.ensures)
      c.loop-back.invariant.1,
)

pub returns-in_default-clause-answer : goal.returns-in_default-clause-answer
returns-in_default-clause-answer c =
    ends c.args.case_insensitive c.args.tokens.now (chars c.args.text.now) c.loop-back.at
    c.loop-back.looks c.loop-back.back (sym c.if-begins_with_any.ensures)
    (rw c.in_default.ensures.characters at c.loop-back.invariant.1)

pub first_accepts-requires : goal.first_accepts-requires
first_accepts-requires c =
    let bytes : length c.args.text.now < 2 ^ 64 = search rules in
    let count : length c.args.tokens.now < 2 ^ 64 = search rules in
    let few : length (chars c.args.text.now) ≤ length c.args.text.now =
    subst (λ (bs : List ℕ). length (chars c.args.text.now) ≤ length bs)
    (encodes-chars c.args.text.now c.utf8.text) (length-le-encodes (chars c.args.text.now)) in
    let short : length (chars c.args.text.now) < 2 ^ 64 = omega arith in
    can_look c.args.case_insensitive c.args.tokens.now (chars c.args.text.now) c.loop-back.at
    c.loop-back.looks (chars c.loop-back.rest.now) c.loop-back.back short count
    c.loop-back.invariant.1

pub loop-back-preserved-then-first_accepts : goal.loop-back-preserved-then-first_accepts
loop-back-preserved-then-first_accepts c = (
  search rules,
  passes_one c.args.case_insensitive c.args.tokens.now (chars c.args.text.now) c.loop-back.at
      c.in-Some.c c.loop-back.looks c.first_accepts.new.looks (chars c.in-Some.after.now)
      c.loop-back.back (sym c.if-begins_with_any.ensures) (sym c.if-first_accepts.ensures.answer)
      c.first_accepts.ensures.counted
      (rw c.in-Some.ensures.characters at c.loop-back.invariant.1),
)

pub loop-back-preserved : goal.loop-back-preserved
loop-back-preserved c = (
  search rules,
  goes_further c.args.case_insensitive c.args.tokens.now (chars c.args.text.now) c.loop-back.at
      c.in-Some.c c.loop-back.looks c.first_accepts.new.looks (chars c.in-Some.after.now)
      c.loop-back.back c.in-Some-one_further.place (sym c.if-begins_with_any.ensures)
      (sym c.if-first_accepts.ensures.answer) c.first_accepts.ensures.most
      c.first_accepts.ensures.least c.first_accepts.ensures.counted c.in-Some-one_further.ensures
      (rw c.in-Some.ensures.characters at c.loop-back.invariant.1),
)

pub returns-in_default-clause-least : goal.returns-in_default-clause-least
returns-in_default-clause-least c =
    ends_looked c.args.case_insensitive c.args.tokens.now (chars c.args.text.now) c.loop-back.at
    c.loop-back.looks (chars c.loop-back.rest.now) c.loop-back.back c.loop-back.invariant.1

pub returns-then-at-tokens-clause-answer : goal.returns-then-at-tokens-clause-answer
returns-then-at-tokens-clause-answer c =
    let found =
    ends_any c.args.case_insensitive c.args.tokens.now (chars c.args.text.now) c.loop-back.at
    c.loop-back.looks c.loop-back.rest c.loop-back.back (sym c.if-begins_with_any.ensures)
    c.if-at-tokens.true c.loop-back.invariant.1 in
    (λ _. found.0, λ _. refl)

pub returns-then-at-tokens-clause-least : goal.returns-then-at-tokens-clause-least
returns-then-at-tokens-clause-least c =
    let found =
    ends_any c.args.case_insensitive c.args.tokens.now (chars c.args.text.now) c.loop-back.at
    c.loop-back.looks c.loop-back.rest c.loop-back.back (sym c.if-begins_with_any.ensures)
    c.if-at-tokens.true c.loop-back.invariant.1 in
    λ _. found.1

pub returns-then-at-tokens-clause-some : goal.returns-then-at-tokens-clause-some
returns-then-at-tokens-clause-some c =
    let found =
    ends_any c.args.case_insensitive c.args.tokens.now (chars c.args.text.now) c.loop-back.at
    c.loop-back.looks c.loop-back.rest c.loop-back.back (sym c.if-begins_with_any.ensures)
    c.if-at-tokens.true c.loop-back.invariant.1 in
    λ some _. omega (arith, found.1, some)

pub returns-in_default-clause-some : goal.returns-in_default-clause-some
returns-in_default-clause-some c =
    end_looked c.args.case_insensitive c.args.tokens.now (chars c.args.text.now) c.loop-back.at
    c.loop-back.looks c.loop-back.back
    (rw c.in_default.ensures.characters at c.loop-back.invariant.1)

pub returns-in_default-one_further-clause-some : goal.returns-in_default-one_further-clause-some
returns-in_default-one_further-clause-some c = λ some _.
    refused_looked c.args.case_insensitive c.args.tokens.now (chars c.args.text.now) c.loop-back.at
    c.loop-back.looks c.first_accepts.new.looks (chars c.loop-back.rest.now) c.loop-back.back
    c.first_accepts.ensures.counted c.first_accepts.ensures.least c.loop-back.invariant.1 some
