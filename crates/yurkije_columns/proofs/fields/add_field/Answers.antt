use Rattle.std.proofs.Common.{◌≡◌, ◌≢◌, ◌∙◌, sym, subst, false}
use Rattle.std.specs.Prelude.{MatchResult}
use Rattle.std.specs.Str.{is_utf8}
use Rattle.std.proofs.lemmas.Str.{IsUtf8-from_is_utf8, is_utf8-from_IsUtf8}
use Rattle.std.proofs.lemmas.Bool.{false_from_ne_true}
use Rattle.vortex_types.specs.TypeOf.{struct_fields}
use Rattle.yurkije_columns.specs.declared.fields.ScopeFault.{ScopeFault}
use Rattle.yurkije_columns.specs.declared.fields.ScopeFault.TheVariants.{OutOfMemory}
use Rattle.yurkije_columns.specs.Scopes.{Outcome, answers, refuses}
use Rattle.yurkije_columns.proofs.ScopesSoFar.{text_is, no_text}
use Rattle.yurkije_columns.proofs.fields.add_field.Goals as goal

pub returns-in-Ok : goal.returns-in-Ok
returns-in-Ok c =
    let borrowed = c.args.borrowed.now in
    let readable = is_utf8-from_IsUtf8 borrowed.name.now c.in-Ok.ensures.cases.1 in
    subst
    (λ (o : Outcome ScopeFault). MatchResult c.push_field.result
    (λ _. o ≡ answers (struct_fields c.push_field.new.scope))
    (λ fault. fault ≢ OutOfMemory → o ≡ refuses fault))
    (sym
    (text_is _ borrowed c.in-Some.kind (sym c.kind_numbered.ensures ∙ c.in-Some.is)
    c.in-Ok.name.now c.in-Ok.ensures.cases.0 readable))
    c.push_field.ensures

pub returns-in-Err : goal.returns-in-Err
returns-in-Err c other =
    let borrowed = c.args.borrowed.now in
    let unreadable : is_utf8 borrowed.name.now ≡ false =
    false_from_ne_true (is_utf8 borrowed.name.now)
    (λ e. c.in-Err.ensures.cases.0 (IsUtf8-from_is_utf8 borrowed.name.now e)) in
    no_text _ borrowed c.in-Some.kind (sym c.kind_numbered.ensures ∙ c.in-Some.is) unreadable
