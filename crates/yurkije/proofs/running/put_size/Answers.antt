use Rattle.std.proofs.Common.{refl}
use Rattle.yurkije.specs.Answering.{Sizes}
use Rattle.yurkije.proofs.Found.{asks_found, asks_none}
use Rattle.yurkije.proofs.running.put_size.Goals as goal

pub returns-in-Ok : goal.returns-in-Ok
returns-in-Ok c =
    asks_found c.args.held.now.answers c.args.answer c.reported_size.result _
    (λ d. Sizes d c.args.size.now c.reported_size.new.size c.reported_size.result) c.in-Ok.column.now c.in-Ok.ensures c.reported_size.ensures

pub returns-in-Err : goal.returns-in-Err
returns-in-Err c =
    asks_none c.args.held.now.answers c.args.answer c.in-Err.status _ _ c.in-Err.ensures refl
