use Rattle.std.proofs.Common.{◌≡◌, ℕ, List, map, subst, Vec, Global, Err}
use Rattle.vortex_types.specs.TypeOf.{struct_fields}
use Rattle.vortex_functions.specs.Walks.{AllMean}
use Rattle.vortex_syntax.specs.declared.answer_list.SyntaxAnswer.{SyntaxAnswer}
use Rattle.vortex_syntax.specs.AnswerLists as syntax
use Rattle.vortex_expressions.specs.declared.answers.Answer as held
use Rattle.vortex_expressions.specs.Outcomes.{answers}
use Rattle.vortex_expressions.specs.Answers.{answer_in, answers_left}
use Rattle.vortex_expressions.specs.Reading.{ReadUnlessMemory, ToldBy}
use Rattle.vortex_program.specs.Naming.{IsNamedAnswer, AreWordsOf, worded}
use Rattle.vortex_program.proofs.Parsing.{named_found, named_only, named_refused}
use Rattle.vortex_program.proofs.Parsing.{only, refused, told_why}
use Rattle.vortex_program.proofs.parsed.Parsed.bind.Goals as goal

pub returns-in-Ok-clause-found : goal.returns-in-Ok-clause-found
returns-in-Ok-clause-found c = λ read.
    let self = c.args.self.now in
    let scope = struct_fields c.args.scope.now in
    let kinds = c.args.kinds.now in
    let left =
    subst
    (λ (xs : List SyntaxAnswer).
    answers_left scope kinds (map syntax.answer_in xs) ≡ answers (map answer_in c.in-Ok.list.items))
    c.deref.ensures.value c.in-Ok.ensures in
    let named =
    subst
    (λ (xs : List held.Answer).
    ReadUnlessMemory c.name_all.result (λ v. (words : List (List ℕ))
    × AreWordsOf self.text.now words
    × AllMean (IsNamedAnswer scope) (worded (map answer_in xs) words) v.items))
    c.deref-in-Ok.ensures.value c.name_all.ensures in
    named_found scope kinds self.text.now (map syntax.answer_in self.answers.items) self.form read
    (map answer_in c.in-Ok.list.items) left c.name_all.result named

pub returns-in-Ok-clause-only : goal.returns-in-Ok-clause-only
returns-in-Ok-clause-only c = λ other read meant.
    let self = c.args.self.now in
    let scope = struct_fields c.args.scope.now in
    let kinds = c.args.kinds.now in
    let left =
    subst
    (λ (xs : List SyntaxAnswer).
    answers_left scope kinds (map syntax.answer_in xs) ≡ answers (map answer_in c.in-Ok.list.items))
    c.deref.ensures.value c.in-Ok.ensures in
    let named =
    subst
    (λ (xs : List held.Answer).
    ReadUnlessMemory c.name_all.result (λ v. (words : List (List ℕ))
    × AreWordsOf self.text.now words
    × AllMean (IsNamedAnswer scope) (worded (map answer_in xs) words) v.items))
    c.deref-in-Ok.ensures.value c.name_all.ensures in
    named_only scope kinds self.text.now (map syntax.answer_in self.answers.items) self.form read
    (map answer_in c.in-Ok.list.items) left c.name_all.result named other meant

pub returns-in-Ok-clause-refused : goal.returns-in-Ok-clause-refused
returns-in-Ok-clause-refused c = λ r read why.
    let self = c.args.self.now in
    let scope = struct_fields c.args.scope.now in
    let kinds = c.args.kinds.now in
    let left =
    subst
    (λ (xs : List SyntaxAnswer).
    answers_left scope kinds (map syntax.answer_in xs) ≡ answers (map answer_in c.in-Ok.list.items))
    c.deref.ensures.value c.in-Ok.ensures in
    named_refused scope kinds self.text.now (map syntax.answer_in self.answers.items) self.form read
    (map answer_in c.in-Ok.list.items) left c.name_all.result r why

pub returns-in-Err-clause-only : goal.returns-in-Err-clause-only
returns-in-Err-clause-only c = λ list read meant.
    let self = c.args.self.now in
    let scope = struct_fields c.args.scope.now in
    let kinds = c.args.kinds.now in
    let told =
    subst
    (λ (xs : List SyntaxAnswer).
    ToldBy (answers_left scope kinds (map syntax.answer_in xs)) c.in-Err.error)
    c.deref.ensures.value c.in-Err.ensures in
    only scope kinds self.text.now (map syntax.answer_in self.answers.items)
    {A = Vec held.Answer Global} (λ v. map answer_in v.items) self.form read (Err c.in-Err.error)
    told list meant

pub returns-in-Err-clause-refused : goal.returns-in-Err-clause-refused
returns-in-Err-clause-refused c = λ r read why.
    let self = c.args.self.now in
    let scope = struct_fields c.args.scope.now in
    let kinds = c.args.kinds.now in
    let told =
    subst
    (λ (xs : List SyntaxAnswer).
    ToldBy (answers_left scope kinds (map syntax.answer_in xs)) c.in-Err.error)
    c.deref.ensures.value c.in-Err.ensures in
    refused scope kinds self.text.now (map syntax.answer_in self.answers.items)
    {A = Vec held.Answer Global} (λ v. map answer_in v.items) self.form read (Err c.in-Err.error)
    told r why

pub returns-in-Err-clause-why : goal.returns-in-Err-clause-why
returns-in-Err-clause-why c = λ read.
    let self = c.args.self.now in
    let scope = struct_fields c.args.scope.now in
    let kinds = c.args.kinds.now in
    let told =
    subst
    (λ (xs : List SyntaxAnswer).
    ToldBy (answers_left scope kinds (map syntax.answer_in xs)) c.in-Err.error)
    c.deref.ensures.value c.in-Err.ensures in
    told_why scope kinds self.text.now (map syntax.answer_in self.answers.items)
    {A = Vec held.Answer Global} (λ v. map answer_in v.items) self.form read (Err c.in-Err.error)
    told
