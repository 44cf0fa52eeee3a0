use Rattle.std.proofs.Common.{inr, sym, subst}
use Rattle.vortex_types.specs.TypeOf.{struct_fields}
use Rattle.vortex_syntax.specs.Grammar.{Reads}
use Rattle.vortex_syntax.specs.Refusals.{RefusesBy, TreeStopsAt}
use Rattle.vortex_expressions.specs.Binding.{IsRefused}
use Rattle.vortex_expressions.specs.Reading.{UnreadBy}
use Rattle.vortex_expressions.proofs.Saying.{found, only, refused, told}
use Rattle.vortex_expressions.proofs.Why.{unread_why}
use Rattle.vortex_expressions.proofs.read.read_expression.Goals as goal

pub returns-in-Ok-clause-found : goal.returns-in-Ok-clause-found
returns-in-Ok-clause-found c =
    let t = c.in-Ok.ensures.found in
    let read = subst (λ w. Reads w t.0) c.as_bytes.ensures.value t.1 in
    found c.args.text.now t.0 c.in-Ok.tree.steps.items read t.2 (struct_fields c.args.scope.now)
    c.bind_steps.result c.bind_steps.ensures

pub returns-in-Ok-clause-only : goal.returns-in-Ok-clause-only
returns-in-Ok-clause-only c =
    let t = c.in-Ok.ensures.found in
    let read = subst (λ w. Reads w t.0) c.as_bytes.ensures.value t.1 in
    only c.args.text.now t.0 c.in-Ok.tree.steps.items read t.2 (struct_fields c.args.scope.now)
    c.bind_steps.result c.bind_steps.ensures

pub returns-in-Ok-clause-refused : goal.returns-in-Ok-clause-refused
returns-in-Ok-clause-refused c =
    let t = c.in-Ok.ensures.found in
    let read = subst (λ w. Reads w t.0) c.as_bytes.ensures.value t.1 in
    refused c.args.text.now t.0 c.in-Ok.tree.steps.items read t.2 (struct_fields c.args.scope.now)
    c.bind_steps.result c.bind_steps.ensures

pub returns-in-Err-clause-only : goal.returns-in-Err-clause-only
returns-in-Err-clause-only c = λ tree s.
    let read = subst (λ w. Reads w s.syntax) (sym c.as_bytes.ensures.value) s.read in
    subst (λ e. UnreadBy e c.unread.result) (c.in-Err.ensures.only s.syntax read) c.unread.ensures

pub returns-in-Err-clause-refused : goal.returns-in-Err-clause-refused
returns-in-Err-clause-refused c = λ r s.
    let read = subst (λ w. Reads w s.syntax) (sym c.as_bytes.ensures.value) s.read in
    inr
    (subst (λ e. UnreadBy e c.unread.result) (c.in-Err.ensures.only s.syntax read)
    c.unread.ensures)

pub returns-in-Ok-clause-told : goal.returns-in-Ok-clause-told
returns-in-Ok-clause-told c =
    let t = c.in-Ok.ensures.found in
    let read = subst (λ w. Reads w t.0) c.as_bytes.ensures.value t.1 in
    told c.args.text.now t.0 c.in-Ok.tree.steps.items read t.2 (struct_fields c.args.scope.now)
    c.bind_steps.result c.bind_steps.ensures

pub returns-in-Err-clause-told : goal.returns-in-Err-clause-told
returns-in-Err-clause-told c =
    unread_why TreeStopsAt (IsRefused (struct_fields c.args.scope.now) c.args.text.now)
    c.args.text.now c.in-Err.error c.unread.result
    (subst (λ w. RefusesBy TreeStopsAt w c.in-Err.error) c.as_bytes.ensures.value
    c.in-Err.ensures.refused) c.unread.ensures
