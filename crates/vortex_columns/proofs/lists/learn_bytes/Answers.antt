use Rattle.std.proofs.Common.{◌<◌, ℕ, [], arith}
use Rattle.std.specs.Prelude.{All}
use Rattle.std.proofs.lemmas.List.Elements.{All-from_get_or}
use Rattle.vortex_columns.proofs.lists.learn_bytes.Goals as goal

pub returns : goal.returns
returns c =
    All-from_get_or (All (λ (n : ℕ). n < 256)) c.args.values.now []
    (λ i h. c.loop-i.invariant i (search (
      arith,
      c.loop-i-test.false,
      c.len-i-end.ensures,
      c.resolved-rows.ensures,
    )))
