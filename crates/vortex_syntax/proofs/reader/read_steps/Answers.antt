use Rattle.std.proofs.Common.{◌≤◌, length, map, sym, ap, ◌∙◌, arith}
use Rattle.std.specs.Option.{option_map}
use Rattle.vortex_syntax.specs.Tokens.{token_in}
use Rattle.vortex_syntax.specs.Postfix.{step_in}
use Rattle.vortex_syntax.specs.Reading.{seen}
use Rattle.vortex_syntax.proofs.Steps.{starts, goes_on, stops, finishes}
use Rattle.vortex_syntax.proofs.Stops.{at_first, goes_to, stops_at, stops_behind}
use Rattle.vortex_syntax.proofs.reader.read_steps.Goals as goal

pub loop-i-init : goal.loop-i-init
loop-i-init c = (
  starts (map token_in c.args.tokens.now) _ _ c.new-reading.ensures.frames
      c.new-reading.ensures.steps,
  at_first _ _ c.new-reading.ensures.frames c.new-reading.ensures.steps,
)

pub returns-in_default-clause-read : goal.returns-in_default-clause-read
returns-in_default-clause-read c =
    stops token_in c.args.tokens.now c.loop-i.i _
    (seen c.loop-i.reading c.loop-i.mode) _ c.loop-i-test.true c.loop-i.invariant.0
    (sym c.in_ok-next.ensures ∙ ap (option_map (seen c.next.new.self)) c.in_default.is)

pub loop-i-preserved : goal.loop-i-preserved
loop-i-preserved c =
    let now = seen c.loop-i.reading c.loop-i.mode in
    let then = seen c.next.new.self c.in-Some.next in
    let h = sym c.in_ok-next.ensures ∙ ap (option_map (seen c.next.new.self)) c.in-Some.is in (
      goes_on token_in c.args.tokens.now c.loop-i.i _ now then _ c.loop-i-test.true
          c.loop-i.invariant.0 h,
      goes_to token_in c.args.tokens.now c.loop-i.i _ now then c.loop-i-test.true
          c.loop-i.invariant.1 h,
    )

pub returns-in_default-clause-refused : goal.returns-in_default-clause-refused
returns-in_default-clause-refused c = (
  c.loop-i.i,
  stops_at token_in c.args.tokens.now c.loop-i.i _ (seen c.loop-i.reading c.loop-i.mode)
      c.loop-i-test.true c.loop-i.invariant.1
      (sym c.in_ok-next.ensures ∙ ap (option_map (seen c.next.new.self)) c.in_default.is),
  c.byte-place.ensures,
)

pub returns-in-Some-2-clause-read : goal.returns-in-Some-2-clause-read
returns-in-Some-2-clause-read c =
    finishes token_in c.args.tokens.now c.loop-i.i (seen c.loop-i.reading c.loop-i.mode) _
    (let k : length c.args.tokens.now ≤ c.loop-i.i = omega arith in k) c.loop-i.invariant.0
    ∙ sym c.in_ok-tree.ensures ∙ ap (option_map (λ v. map step_in v.steps.items)) c.in-Some-2.is

pub returns-in-None-clause-read : goal.returns-in-None-clause-read
returns-in-None-clause-read c =
    finishes token_in c.args.tokens.now c.loop-i.i (seen c.loop-i.reading c.loop-i.mode) _
    (let k : length c.args.tokens.now ≤ c.loop-i.i = omega arith in k) c.loop-i.invariant.0
    ∙ sym c.in_ok-tree.ensures ∙ ap (option_map (λ v. map step_in v.steps.items)) c.in-None.is

pub returns-in-None-clause-refused : goal.returns-in-None-clause-refused
returns-in-None-clause-refused c = (
  length c.args.tokens.now,
  stops_behind token_in c.args.tokens.now c.loop-i.i (seen c.loop-i.reading c.loop-i.mode)
      (let k : length c.args.tokens.now ≤ c.loop-i.i = omega arith in k) c.loop-i.invariant.1
      (returns-in-None-clause-read c),
  c.byte.ensures,
)
