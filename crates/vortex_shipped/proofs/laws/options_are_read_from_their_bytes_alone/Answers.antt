use Rattle.vortex_shipped.proofs.laws.options_are_read_from_their_bytes_alone.Goals as goal
use Rattle.vortex_shipped.proofs.OptionFormats.{operator_format, between_format, like_format}

pub returns : goal.returns
returns c = record { binary = operator_format; between = between_format; like = like_format }
