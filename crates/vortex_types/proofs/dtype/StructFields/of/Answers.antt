use Rattle.std.proofs.Common.{ap, ◌∙◌, map, string_bytes}
use Rattle.std.proofs.lemmas.List.{take_all}
use Rattle.vortex_types.specs.TypeOf.{type_of}
use Rattle.vortex_types.proofs.ListedNames.{one_more_copy, answers_listed}
use Rattle.vortex_types.proofs.dtype.StructFields.of.Goals as goal

pub loop-field-preserved : goal.loop-field-preserved
loop-field-preserved c =
    let i = c.loop-field.field-index in
    let f = c.field-item.result in (
      one_more_copy string_bytes (λ f. f.0.now) c.loop-field.names.items c.push.new.self.items
          c.in_ok-from_str.field-0 c.args.fields.now f i f c.loop-field-test.true
          c.in_ok-push.ensures.items c.loop-field.invariant.0 c.in_ok-from_str.ensures.ok c.field-item.is,
      one_more_copy type_of (λ f. type_of f.1) c.loop-field.types.items
          c.push-in-loop-field.new.self.items c.in_ok-try_clone.field-0 c.args.fields.now f i f
          c.loop-field-test.true c.in_ok-push-2.ensures.items c.loop-field.invariant.1
          c.in_ok-try_clone.ensures c.field-item.is,
    )

pub returns : goal.returns
returns c =
    let all = take_all c.loop-field.field-index c.args.fields.now c.loop-field-test.false in
    answers_listed c.try_new.result c.loop-field.names.items c.loop-field.types.items
    c.args.fields.now (c.loop-field.invariant.0 ∙ ap (map (λ f. f.0.now)) all)
    (c.loop-field.invariant.1 ∙ ap (map (λ f. type_of f.1)) all) c.try_new.ensures
