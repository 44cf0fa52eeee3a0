use Rattle.std.proofs.Common.{ap, sym, get_or}
use Rattle.rowfn_index.specs.declared.head.IndexedColumn.{IndexedColumn}
use Rattle.rowfn_index.proofs.SameWords.{is_at}
use Rattle.rowfn_index.proofs.agreement.place_at.Goals as goal

pub returns : goal.returns
returns c =
    is_at c.args.columns.now c.args.number c.index-columns-number.result
    (get_or c.args.columns.now c.args.number c.index-columns-number.result).place c.requires
    c.index-columns-number.is
    (ap (λ (x : IndexedColumn). x.place) (sym c.index-columns-number.is))
