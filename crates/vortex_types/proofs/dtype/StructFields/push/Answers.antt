use Rattle.std.proofs.Common.{ap, sym, ◌∙◌}
use Rattle.std.specs.Prelude.{string_bytes, Result, Ok, Err, OnErr}
use Rattle.vortex_types.specs.LogicalTypes.{with_field}
use Rattle.vortex_types.specs.TypeOf.{type_of, fields_view}
use Rattle.vortex_types.proofs.TypeViews.{struct_fields-out, struct_fields-roll, fields_view_last}
use Rattle.vortex_types.proofs.dtype.StructFields.push.Goals as goal

on_err : {A E : Type 0} (r : Result A E) (P : Type 0) → P → OnErr r P
on_err (Ok x) P h = tt
on_err (Err e) P h = h

pub returns-in_err-push-clause-kept : goal.returns-in_err-push-clause-kept
returns-in_err-push-clause-kept c =
    on_err c.from_residual.result _
    (struct_fields-roll _
    ∙ ap fields_view c.in_err-push.ensures.items
    ∙ sym (struct_fields-out c.args.self.now))

pub returns-clause-added : goal.returns-clause-added
returns-clause-added c =
    let name = string_bytes c.args.name in
    struct_fields-roll _
    ∙ ap fields_view c.in_ok-push.ensures.items
    ∙ fields_view_last _ _
    ∙ ap (λ fs. with_field fs name (type_of c.args.dtype)) (sym (struct_fields-out c.args.self.now))
