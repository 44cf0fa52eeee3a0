use Rattle.vortex_arrow.proofs.Parts.{behind_part}
use Rattle.vortex_arrow.proofs.bits_out.write_at.Goals as goal

pub returns-clause-behind : goal.returns-clause-behind
returns-clause-behind c =
    behind_part c.args.out.now c.copy_from_slice.new.self c.args.bytes.now c.args.at c.requires
    c.copy_from_slice.ensures.after
