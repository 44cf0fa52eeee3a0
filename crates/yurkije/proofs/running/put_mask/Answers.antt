use Rattle.std.proofs.Common.{refl}
use Rattle.yurkije.specs.Answering.{Masks}
use Rattle.yurkije.proofs.Found.{asks_found, asks_none}
use Rattle.yurkije.proofs.running.put_mask.Goals as goal

pub returns-in-Ok : goal.returns-in-Ok
returns-in-Ok c =
    asks_found c.args.held.now.answers c.args.answer c.mask_told.result _
    (λ d. Masks d c.args.mask.now c.mask_told.new.mask c.mask_told.result) c.in-Ok.column.now
    c.in-Ok.ensures c.mask_told.ensures

pub returns-in-Err : goal.returns-in-Err
returns-in-Err c =
    asks_none c.args.held.now.answers c.args.answer c.in-Err.status _ _ c.in-Err.ensures refl
