use Rattle.std.proofs.Common.{length}
use Rattle.vortex_views.specs.ViewBytes.{view_bytes}
use Rattle.vortex_views.specs.Building.{filled}
use Rattle.vortex_views.proofs.Pushing.{placed_short, short_count}
use Rattle.vortex_views.proofs.builder.Buffers.put.Goals as goal

pub returns-then-value-le-MAX_INLINED_SIZE-clause-answer :
    goal.returns-then-value-le-MAX_INLINED_SIZE-clause-answer
returns-then-value-le-MAX_INLINED_SIZE-clause-answer c = (
  short_count (filled c.args.self.now) (length c.args.value.now) c.if-value-le-MAX_INLINED_SIZE.true
      c.requires.range.count,
  placed_short c.args.value.now (view_bytes c.new_inlined.result) c.args.self.now
      c.if-value-le-MAX_INLINED_SIZE.true c.new_inlined.ensures,
)
