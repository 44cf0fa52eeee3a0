use Rattle.std.proofs.Common.{◌≡◌, map, inr, ap, sym, ◌∙◌, subst, Vec, Global}
use Rattle.vortex_types.specs.TypeOf.{struct_fields}
use Rattle.vortex_syntax.specs.AnswerLists as syntax
use Rattle.vortex_syntax.specs.AnswerLists.{told, ReadsAnswers}
use Rattle.vortex_expressions.specs.declared.answers.Answer as held
use Rattle.vortex_expressions.specs.Answers.{answer_in, IsRefusedAll}
use Rattle.vortex_syntax.specs.Refusals.{RefusesBy, ListStopsAt}
use Rattle.vortex_expressions.specs.Reading.{UnreadBy}
use Rattle.vortex_expressions.proofs.Listing.{found, only, refused, told_why}
use Rattle.vortex_expressions.proofs.Why.{unread_why}
use Rattle.vortex_expressions.proofs.answers.read_answers.Goals as goal

pub returns-in-Ok-clause-found : goal.returns-in-Ok-clause-found
returns-in-Ok-clause-found c =
    let b = c.in-Ok.ensures.found in
    let read = subst (λ w. ReadsAnswers w b.0) c.as_bytes.ensures.value b.1 in
    let list : map syntax.answer_in c.deref.result.now ≡ map told b.0 =
    ap (map syntax.answer_in) c.deref.ensures.value ∙ b.2 in
    found (struct_fields c.args.scope.now) c.args.kinds.now {A = Vec held.Answer Global} (λ v. map answer_in v.items)
    c.args.text.now b.0 (map syntax.answer_in c.deref.result.now) read list c.bind_answers.result
    c.bind_answers.ensures

pub returns-in-Ok-clause-only : goal.returns-in-Ok-clause-only
returns-in-Ok-clause-only c =
    let b = c.in-Ok.ensures.found in
    let read = subst (λ w. ReadsAnswers w b.0) c.as_bytes.ensures.value b.1 in
    let list : map syntax.answer_in c.deref.result.now ≡ map told b.0 =
    ap (map syntax.answer_in) c.deref.ensures.value ∙ b.2 in
    only (struct_fields c.args.scope.now) c.args.kinds.now {A = Vec held.Answer Global} (λ v. map answer_in v.items)
    c.args.text.now b.0 (map syntax.answer_in c.deref.result.now) read list c.bind_answers.result
    c.bind_answers.ensures

pub returns-in-Ok-clause-refused : goal.returns-in-Ok-clause-refused
returns-in-Ok-clause-refused c =
    let b = c.in-Ok.ensures.found in
    let read = subst (λ w. ReadsAnswers w b.0) c.as_bytes.ensures.value b.1 in
    let list : map syntax.answer_in c.deref.result.now ≡ map told b.0 =
    ap (map syntax.answer_in) c.deref.ensures.value ∙ b.2 in
    refused (struct_fields c.args.scope.now) c.args.kinds.now {A = Vec held.Answer Global}
    (λ v. map answer_in v.items)
    c.args.text.now b.0 (map syntax.answer_in c.deref.result.now) read list c.bind_answers.result
    c.bind_answers.ensures

pub returns-in-Err-clause-only : goal.returns-in-Err-clause-only
returns-in-Err-clause-only c = λ list s.
    let read = subst (λ w. ReadsAnswers w s.syntax) (sym c.as_bytes.ensures.value) s.read in
    subst (λ e. UnreadBy e c.unread.result) (c.in-Err.ensures.only s.syntax read) c.unread.ensures

pub returns-in-Err-clause-refused : goal.returns-in-Err-clause-refused
returns-in-Err-clause-refused c = λ r s.
    let read = subst (λ w. ReadsAnswers w s.syntax) (sym c.as_bytes.ensures.value) s.read in
    inr
    (subst (λ e. UnreadBy e c.unread.result) (c.in-Err.ensures.only s.syntax read)
    c.unread.ensures)

pub returns-in-Ok-clause-told : goal.returns-in-Ok-clause-told
returns-in-Ok-clause-told c =
    let b = c.in-Ok.ensures.found in
    let read = subst (λ w. ReadsAnswers w b.0) c.as_bytes.ensures.value b.1 in
    let list : map syntax.answer_in c.deref.result.now ≡ map told b.0 =
    ap (map syntax.answer_in) c.deref.ensures.value ∙ b.2 in
    told_why (struct_fields c.args.scope.now) c.args.kinds.now {A = Vec held.Answer Global}
    (λ v. map answer_in v.items)
    c.args.text.now b.0 (map syntax.answer_in c.deref.result.now) read list c.bind_answers.result
    c.bind_answers.ensures

pub returns-in-Err-clause-told : goal.returns-in-Err-clause-told
returns-in-Err-clause-told c =
    unread_why ListStopsAt (IsRefusedAll (struct_fields c.args.scope.now) c.args.kinds.now c.args.text.now)
    c.args.text.now c.in-Err.error c.unread.result
    (subst (λ w. RefusesBy ListStopsAt w c.in-Err.error) c.as_bytes.ensures.value
    c.in-Err.ensures.refused) c.unread.ensures
