use Rattle.std.proofs.Common.{sym, ◌∙◌, true≢false}
use Rattle.vortex_types.proofs.NamesDiffer.{one_more, differs_from_before}
use Rattle.vortex_types.proofs.dtype.fields.all_differ.Goals as goal

pub loop-i-preserved : goal.loop-i-preserved
loop-i-preserved c =
    one_more c.loop-i.i c.args.names.now c.index-names-i.result c.loop-i-test.true
    c.index-names-i.is c.loop-i.invariant (c.is_new.ensures.0 c.if-not-is_new.false)

pub returns-then-not-is_new : goal.returns-then-not-is_new
returns-then-not-is_new c = (
  λ h. absurd (true≢false (sym h)),
  λ differ.
      absurd (true≢false
      (sym
      (c.is_new.ensures.1
      (differs_from_before c.loop-i.i c.args.names.now c.index-names-i.result
      c.loop-i-test.true c.index-names-i.is differ))
      ∙ c.if-not-is_new.true)),
)
