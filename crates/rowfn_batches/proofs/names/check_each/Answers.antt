use Rattle.std.proofs.Common.{List, ℕ, sym, arith, below_more, subst, string_bytes}
use Rattle.std.proofs.lemmas.List.{length-map}
use Rattle.std.proofs.lemmas.Result.{err_from_is_err_and}
use Rattle.rowfn_batches.specs.Names.{names_of, StandsLast, TellsTwice, stands_twice}
use Rattle.rowfn_batches.specs.Names.{without_memory}
use Rattle.rowfn_batches.proofs.NameOf.{name_at}
use Rattle.rowfn_batches.proofs.names.check_each.Goals as goal

pub returns-in_err-twice : goal.returns-in_err-twice
returns-in_err-twice c =
    let p = err_from_is_err_and c.from_residual.result c.from_residual.ensures.1 in
    rw p.1 (without_memory p.2)

pub returns-then-repeats_later : goal.returns-then-repeats_later
returns-then-repeats_later c =
    let answers = c.args.answers.now in
    let k = c.loop-place.place in
    let answer = c.index-answers-place.result in
    let named = name_at answers k answer c.loop-place-test.true c.index-answers-place.is in
    stands_twice k (rw c.if-repeats_later.true at c.repeats_later.ensures)
    (subst (λ (name : List ℕ). TellsTwice name c.in_ok-twice.field-0) (sym named)
    c.in_ok-twice.ensures)

pub loop-place-preserved : goal.loop-place-preserved
loop-place-preserved c =
    below_more (λ (p : ℕ). StandsLast (names_of c.args.answers.now) p) c.loop-place.place
    c.loop-place.invariant (rw c.if-repeats_later.false at c.repeats_later.ensures)

pub returns : goal.returns
returns c =
    λ p below. c.loop-place.invariant p
    (omega (
      arith,
      below,
      c.loop-place-test.false,
      length-map c.args.answers.now (λ a. string_bytes a.name),
    ))
