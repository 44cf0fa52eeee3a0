use Rattle.std.proofs.Common.{◌∙◌, sym}
use Rattle.csv.specs.Records.{fields_of}
use Rattle.rowfn_csv.proofs.Surplus.{filled_at, empty_at}
use Rattle.rowfn_csv.proofs.fields.has_surplus.Goals as goal

pub returns-then-is_filled : goal.returns-then-is_filled
returns-then-is_filled c =
    sym (filled_at (fields_of c.args.fields.now) c.loop-index.index _ c.get.ensures.value _
    c.is_filled.ensures c.if-is_filled.true)
    ∙ c.loop-index.invariant

pub loop-index-preserved : goal.loop-index-preserved
loop-index-preserved c =
    empty_at (fields_of c.args.fields.now) c.loop-index.index _ c.get.ensures.value _
    c.is_filled.ensures c.if-is_filled.false
    ∙ c.loop-index.invariant
