use Rattle.vortex_arrow.proofs.Copies.{short_room}
use Rattle.vortex_arrow.proofs.laws.short_texts_have_room.Goals as goal

pub returns : goal.returns
returns c = λ h. short_room c.args.column.now.rows h
