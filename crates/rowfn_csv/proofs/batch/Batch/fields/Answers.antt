use Rattle.rowfn_csv.proofs.Parts.{parts_more}
use Rattle.rowfn_csv.proofs.batch.Batch.fields.Goals as goal

pub fields_in-requires : goal.fields_in-requires
fields_in-requires c =
    let held = c.self.invariant in
    rw (c.deref.ensures.value, c.deref-2.ensures.value)
    (parts_more _ _ _ held.filled held.parts)

pub returns : goal.returns
returns c =
    let said = rw (c.deref.ensures.value, c.deref-2.ensures.value) at c.fields_in.ensures in
    rw (← c.self.view_is) said
