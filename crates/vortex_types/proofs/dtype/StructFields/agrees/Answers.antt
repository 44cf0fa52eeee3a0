use Rattle.std.proofs.Common.{◌&&◌, ap, ◌∙◌}
use Rattle.vortex_types.specs.Agreement.{fields_agree}
use Rattle.vortex_types.specs.TypeOf.{struct_fields}
use Rattle.vortex_types.specs.TypePairs.{all_agree}
use Rattle.vortex_types.proofs.PairSteps.{and_true}
use Rattle.vortex_types.proofs.dtype.StructFields.agrees.Goals as goal

pub returns-then-put_fields : goal.returns-then-put_fields
returns-then-put_fields c =
    let e = c.args.exactly in
    let named = fields_agree e (struct_fields c.args.self.now) (struct_fields c.args.other.now) in
    c.agree.ensures ∙ c.if-put_fields.ensures.agree
    ∙ ap (λ ps. named && all_agree e ps) c.new-pairs.ensures ∙ and_true named

pub returns-else-put_fields : goal.returns-else-put_fields
returns-else-put_fields c =
    let e = c.args.exactly in
    let named = fields_agree e (struct_fields c.args.self.now) (struct_fields c.args.other.now) in
    c.if-put_fields.false ∙ c.if-put_fields.ensures.agree
    ∙ ap (λ ps. named && all_agree e ps) c.new-pairs.ensures ∙ and_true named
