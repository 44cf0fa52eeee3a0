use Rattle.std.proofs.Common.{refl}
use Rattle.yurkije.specs.Answering.{SelectsBy}
use Rattle.yurkije.proofs.Found.{asks_found, asks_none}
use Rattle.yurkije.proofs.running.put_true_rows.Goals as goal

pub returns-in-Ok : goal.returns-in-Ok
returns-in-Ok g c =
    let told = c.reported_true_rows in
    asks_found c.args.held.now.answers c.args.answer told.result _
    (λ d. SelectsBy g.I.IndexType.number d g.I.IndexType.most c.args.numbers.now told.new.numbers
    told.new.count told.result)
    c.in-Ok.column.now c.in-Ok.ensures told.ensures

pub returns-in-Err : goal.returns-in-Err
returns-in-Err g c =
    asks_none c.args.held.now.answers c.args.answer c.in-Err.status _ _ c.in-Err.ensures
    (refl, refl)
