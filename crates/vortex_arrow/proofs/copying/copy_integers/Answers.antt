use Rattle.std.proofs.Common.{map, arith}
use Rattle.std.proofs.lemmas.List.{length-map}
use Rattle.vortex_arrow.specs.Layouts.{numbers}
use Rattle.vortex_arrow.proofs.Copied.{copied_rows}
use Rattle.vortex_arrow.proofs.copying.copy_integers.Goals as goal

pub returns-clause-copied : goal.returns-clause-copied
returns-clause-copied g c = record {
  bits = omega arith;
  items = omega (arith, length-map c.write_integers.new.out g.T.NativePType.number);
  said = copied_rows c.args.column.now.rows c.write_validity.new.out
      (numbers g.T.NativePType.ptype (map g.T.NativePType.number c.write_integers.new.out))
      c.write_validity.ensures.bits c.write_integers.ensures.integers;
  packed = tt;
}
