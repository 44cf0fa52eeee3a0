use Rattle.vortex_like.proofs.execute.each_pattern_bits.Goals as goal

pub each_bits-requires-clause-ascii : goal.each_bits-requires-clause-ascii
each_bits-requires-clause-ascii c = c.fold_as_ascii-ascii.ensures
