use Rattle.std.proofs.Common.{◌≡◌, ◌∙◌, Some, None}
use Rattle.std.proofs.lemmas.Result.{err_from_is_err_and}
use Rattle.rowfn_batches.specs.Filtering.{by_condition}
use Rattle.rowfn_batches.proofs.Passed.{taken_all, taken_those}
use Rattle.rowfn_batches.proofs.stream.Stream.take.Goals as goal

pub returns-in_default : goal.returns-in_default
returns-in_default g c =
    let none : c.args.self.now.condition ≡ None = cc c.in_default.is in
    let told = c.take_all.ensures in
    taken_all c.args.self.now c.args.error c.take_all.result none told.fields told.rows told.refused

pub returns-in_err-rows : goal.returns-in_err-rows
returns-in_err-rows g c =
    let p = err_from_is_err_and c.from_residual.result c.from_residual.ensures.1 in
    let asked : c.args.self.now.condition ≡ Some c.in-Some.condition = cc c.in-Some.is in
    rw (p.1, p.2) (by_condition c.in-Some.condition asked c.in_err-rows.ensures.refused)

pub returns : goal.returns
returns g c =
    let asked : c.args.self.now.condition ≡ Some c.in-Some.condition = cc c.in-Some.is in
    let told = c.take_those.ensures in
    taken_those c.args.self.now c.args.error c.in_ok-rows.error c.in-Some.condition
    c.rows_before.result c.len.result c.in_ok-rows.rows.items c.take_those.result asked
    c.rows_before.ensures (c.len.ensures ∙ c.args.self.now.layout.places.ok.0)
    c.in_ok-rows.ensures.sifts told.fields told.rows told.refused
