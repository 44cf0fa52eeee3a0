use Rattle.std.proofs.Common.{lit<, None, sym, Option, ℤ, subst}
use Rattle.std.proofs.lemmas.Str.Pattern.{strip_prefix_char}
use Rattle.vortex_cells.specs.Cells.{ReadsNumber}
use Rattle.vortex_cells.proofs.Numbers.{integer_plain}
use Rattle.vortex_cells.proofs.digits.read_integer.Goals as goal

pub returns-in-None : goal.returns-in-None
returns-in-None c =
    let w = c.args.word.now in
    subst (λ (o : Option ℤ). ReadsNumber o c.read_plain.result)
    (sym (integer_plain w (strip_prefix_char 45 w None c.in-None.ensures.cases (lit< tt))))
    c.read_plain.ensures
