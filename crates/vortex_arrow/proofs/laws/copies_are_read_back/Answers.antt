use Rattle.vortex_arrow.proofs.Copies.{read_again}
use Rattle.vortex_arrow.proofs.laws.copies_are_read_back.Goals as goal

pub returns : goal.returns
returns c = λ validity values copy room.
    read_again c.args.column.now c.dtype-typed.ensures.typed validity values copy room
