use Rattle.std.proofs.Common.{◌∙◌, ℕ, List, ap, arith, subst, sym, string_bytes}
use Rattle.std.proofs.lemmas.List.{take_all}
use Rattle.std.proofs.lemmas.List.Elements.{All-more}
use Rattle.csv.specs.Records.{fields_of}
use Rattle.vortex_program.specs.declared.answer.Answer.{Answer}
use Rattle.rowfn_batches.specs.Layouts.{LacksFrom, TellsTaken, AreApartFrom}
use Rattle.rowfn_batches.proofs.stream.starting.check_taken.Goals as goal

pub returns-in-Err : goal.returns-in-Err
returns-in-Err c = (
  c.answer-item.result,
  (c.loop-answer.answer-index, omega arith, sym c.answer-item.is),
  subst (λ (n : List ℕ). TellsTaken (fields_of c.args.header.now) n c.in-Err.error)
      c.as_str.ensures.value c.in-Err.ensures,
)

pub loop-answer-preserved : goal.loop-answer-preserved
loop-answer-preserved c =
    let fields = fields_of c.args.header.now in
    let item = c.answer-item in
    All-more (λ (a : Answer). LacksFrom fields (string_bytes a.name) 0) c.args.answers.now
    c.loop-answer.answer-index item.result (omega arith) c.loop-answer.invariant
    (subst (λ (n : List ℕ). LacksFrom fields n 0)
    (c.as_str.ensures.value ∙ ap (λ (a : Answer). string_bytes a.name) item.is) c.in-Ok.ensures)

pub returns : goal.returns
returns c =
    subst (λ (xs : List Answer). AreApartFrom (fields_of c.args.header.now) xs)
    (take_all c.loop-answer.answer-index c.args.answers.now (omega arith)) c.loop-answer.invariant
