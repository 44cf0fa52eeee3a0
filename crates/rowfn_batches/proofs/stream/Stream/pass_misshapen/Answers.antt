use Rattle.std.proofs.Common.{◌∙◌, Err, ap, refl, sym}
use Rattle.std.proofs.lemmas.Result.{err_from_is_err_and}
use Rattle.rowfn_batches.specs.Skipping.{left_out, ends_with_it, not_told}
use Rattle.rowfn_batches.proofs.stream.Stream.pass_misshapen.Goals as goal

pub returns-in_default : goal.returns-in_default
returns-in_default g c = ends_with_it (sym c.left_out.ensures ∙ c.in_default.is) refl

pub returns-in_err-tell : goal.returns-in_err-tell
returns-in_err-tell g c =
    let p = err_from_is_err_and c.from_residual.result c.from_residual.ensures.1 in
    not_told c.in_err-tell.field-0.0 c.in_err-tell.ensures.refused (p.1 ∙ ap Err p.2)

pub returns : goal.returns
returns g c =
    left_out c.in-Some._row (sym c.left_out.ensures ∙ c.in-Some.is)
    (record {
      alloc = refl;
      settings = refl;
      asked = refl;
      condition = refl;
      records =
          refl;
      layout = refl;
      batch = refl;
    })
    refl c.saturating_add-self.ensures c.in_ok-tell.ensures.count refl
