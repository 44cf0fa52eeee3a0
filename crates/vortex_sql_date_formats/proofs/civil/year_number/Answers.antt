use Rattle.std.proofs.Common.{◌∙◌, FitsSigned, ap, arith, to_z-of_z, w16}
use Rattle.std.specs.Prelude.{unsigned_abs}
use Rattle.jiff_core.proofs.SignedLemmas.{signed_arith}
use Rattle.vortex_sql_date_formats.proofs.civil.year_number.Goals as goal

pub returns : goal.returns
returns c =
    let date = c.args.date in
    let fits : FitsSigned w16 date.year = omega (arith, signed_arith, date.year_in) in
    c.unsigned_abs.ensures.value ∙ ap unsigned_abs (to_z-of_z fits)
