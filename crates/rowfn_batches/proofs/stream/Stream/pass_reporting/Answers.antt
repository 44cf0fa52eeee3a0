use Rattle.std.proofs.Common.{◌∙◌, Ok, Err, Some, ap, refl, inl, inr, arith}
use Rattle.std.proofs.lemmas.Grind.{common_steps}
use Rattle.std.proofs.lemmas.Result.{err_from_is_err_and}
use Rattle.rowfn_batches.specs.Skipping.{whole, up_to_one, ends}
use Rattle.rowfn_batches.proofs.Passed.{counted_alike}
use Rattle.rowfn_batches.proofs.stream.Stream.pass_reporting.Goals as goal

pub returns-in_err-error : goal.returns-in_err-error
returns-in_err-error g c =
    let p = err_from_is_err_and c.from_residual.result c.from_residual.ensures.1 in
    let e = c.in_err-error.field-0.0 in
    ends (Err e) e c.in_err-error.ensures.passes refl (p.1 ∙ ap Err p.2)

pub returns-in_default : goal.returns-in_default
returns-in_default g c =
    let none = c.in_default.is in
    whole (rw none at c.in_ok-error.ensures.passes) c.in_ok-error.ensures.behind refl refl

pub returns-in_default-place_of : goal.returns-in_default-place_of
returns-in_default-place_of g c =
    let told = rw c.in-Some.is at c.in_ok-error.ensures.passes in
    ends (Ok (Some c.in-Some.error)) c.in-Some.error told (inl refl) refl

pub returns-in_err-tell : goal.returns-in_err-tell
returns-in_err-tell g c =
    let p = err_from_is_err_and c.from_residual-in_err-tell.result
    c.from_residual-in_err-tell.ensures.1 in
    let told = rw c.in-Some.is at c.in_ok-error.ensures.passes in
    ends (Ok (Some c.in-Some.error)) c.in_err-tell.field-0.0 told
    (inr c.in_err-tell.ensures.refused) (p.1 ∙ ap Err p.2)

pub returns : goal.returns
returns g c =
    let told = rw c.in-Some.is at c.in_ok-error.ensures.passes in
    let behind = c.in_ok-error.ensures.behind in
    let kept = behind.kept in
    up_to_one c.in-Some.error c.in-Some-place_of.place told
    (rw (← c.rows_before-rows_before.ensures) c.in-Some-place_of.ensures)
    (record {
      kept = record {
        alloc = kept.alloc;
        settings = kept.settings;
        asked = kept.asked;
        condition = kept.condition;
        records = kept.records;
        layout = kept.layout;
        batch = kept.batch;
      };
      cleared = behind.cleared;
      rows_read = grind (arith, common_steps);
      rows_written = counted_alike behind.rows_written refl;
    })
    c.in_ok-tell.ensures.count refl
