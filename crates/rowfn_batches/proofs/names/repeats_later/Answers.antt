use Rattle.std.proofs.Common.{◌≡◌, ◌<◌, ◌∙◌, ℕ, [], get_or, sym, arith, below_more}
use Rattle.std.proofs.Common.{string_bytes}
use Rattle.std.proofs.lemmas.List.{length-map}
use Rattle.rowfn_batches.specs.Names.{names_of}
use Rattle.rowfn_batches.proofs.NameOf.{name_at}
use Rattle.rowfn_batches.proofs.names.repeats_later.Goals as goal

pub returns-then-have_one_name : goal.returns-then-have_one_name
returns-then-have_one_name c =
    let answers = c.args.answers.now in
    let one = c.index-answers-place.result in
    let other = c.index-answers-other.result in
    let same : string_bytes one.name ≡ string_bytes other.name =
    c.have_one_name.ensures.0 c.if-have_one_name.true in (
      c.loop-other.other,
      omega (arith, c.loop-other.auto.other),
      omega (arith, c.loop-other-test.true, length-map answers (λ a. string_bytes a.name)),
      name_at answers c.args.place one c.requires c.index-answers-place.is ∙ same
          ∙ sym (name_at answers c.loop-other.other other c.loop-other-test.true
          c.index-answers-other.is),
    )

pub loop-other-preserved : goal.loop-other-preserved
loop-other-preserved c =
    let answers = c.args.answers.now in
    let one = c.index-answers-place.result in
    let other = c.index-answers-other.result in
    let at_one = name_at answers c.args.place one c.requires c.index-answers-place.is in
    let at_other = name_at answers c.loop-other.other other c.loop-other-test.true
    c.index-answers-other.is in
    λ q h lt. below_more
    (λ (k : ℕ). c.args.place < k → get_or (names_of answers) c.args.place []
    ≡ get_or (names_of answers) k [] → ⊥)
    c.loop-other.other
    (λ k lt behind. c.loop-other.invariant k behind lt)
    (λ behind same.
    let told = c.have_one_name.ensures.1 (sym at_one ∙ same ∙ at_other) in
    let wrong = c.if-have_one_name.false in cc)
    q lt h

pub returns : goal.returns
returns c =
    let answers = c.args.answers.now in
    λ q behind below. c.loop-other.invariant q behind
    (omega (
      arith,
      below,
      c.loop-other-test.false,
      length-map answers (λ a. string_bytes a.name),
    ))
