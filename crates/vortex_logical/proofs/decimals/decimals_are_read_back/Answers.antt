use Rattle.vortex_logical.proofs.DecimalReadBack as texts
use Rattle.vortex_logical.proofs.decimals.decimals_are_read_back.Goals as goal

pub returns : goal.returns
returns c = texts.decimals_are_read_back
