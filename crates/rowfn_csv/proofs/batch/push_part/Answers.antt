use Rattle.std.proofs.Common.{◌∙◌, sym, ap, Bool}
use Rattle.rowfn_csv.specs.Batches.{field_said}
use Rattle.rowfn_csv.proofs.Parts.{said_pushed}
use Rattle.rowfn_csv.proofs.batch.push_part.Goals as goal

pub returns-clause-pushed : goal.returns-clause-pushed
returns-clause-pushed c =
    let field = c.args.field.now in
    rw c.in_ok-push-2.ensures.items
    (said_pushed c.args.filled.now c.put_field.new.filled c.args.bytes.now.items
    c.put_field.new.bytes.items c.put_field.ensures.kept c.in_ok-part.part c.args.parts.now.items
    c.requires.parts (field_said field c.args.is_null)
    (c.in_ok-part.ensures.put.0
    ∙ sym (ap (λ (b : Bool). field_said field b) c.if-is_null.false)))
