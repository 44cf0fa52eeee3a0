use Rattle.std.proofs.Common.{lit<, Some, None, sym, ap, ◌∙◌}
use Rattle.std.proofs.lemmas.Str.Pattern.{strip_suffix_char}
use Rattle.vortex_cells.specs.TypeWords.{marked_type}
use Rattle.vortex_cells.proofs.Marks.{marked, unmarked}
use Rattle.vortex_cells.proofs.types.read_type.Goals as goal

pub returns-in-Some : goal.returns-in-Some
returns-in-Some c =
    let w = c.args.word.now in
    c.type_named.ensures
    ∙ sym
    (ap (marked_type w)
    (marked w c.in-Some.name.now
    (strip_suffix_char 63 w (Some c.in-Some.name) c.in-Some.ensures.cases (lit< tt))))

pub returns-in-None : goal.returns-in-None
returns-in-None c =
    let w = c.args.word.now in
    c.type_named-in-None.ensures
    ∙ sym
    (ap (marked_type w)
    (unmarked w (strip_suffix_char 63 w None c.in-None.ensures.cases (lit< tt))))
