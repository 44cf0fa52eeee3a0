use Rattle.vortex_float_texts.proofs.Halves.{product_parts}
use Rattle.vortex_float_texts.proofs.scaled.product.Goals as goal

pub returns : goal.returns
returns c = product_parts c.args.row c.args.by
