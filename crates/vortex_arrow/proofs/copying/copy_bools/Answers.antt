use Rattle.std.proofs.Common.{arith}
use Rattle.vortex_arrow.specs.Layouts.{bits}
use Rattle.vortex_arrow.proofs.Copied.{copied_rows}
use Rattle.vortex_arrow.proofs.copying.copy_bools.Goals as goal

pub returns-clause-copied : goal.returns-clause-copied
returns-clause-copied c = record {
  bits = omega arith;
  items = omega arith;
  said = copied_rows c.args.column.now.rows c.write_validity.new.out (bits c.write_truths.new.out)
      c.write_validity.ensures.bits c.write_truths.ensures.bits;
  packed = tt;
}
