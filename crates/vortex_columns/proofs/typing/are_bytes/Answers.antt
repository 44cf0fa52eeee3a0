use Rattle.std.proofs.Common.{ℕ, ◌<◌, arith}
use Rattle.std.proofs.lemmas.List.Elements.{All-from_get_or}
use Rattle.vortex_columns.proofs.typing.are_bytes.Goals as goal

pub returns-clause-fit : goal.returns-clause-fit
returns-clause-fit c =
    All-from_get_or (λ (b : ℕ). b < 256) c.args.bytes.now 0
    (λ i within. omega (arith, c.type_inv.bytes i))
