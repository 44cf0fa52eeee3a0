-- The steps of a list's trees leave what the text means.
use Rattle.std.proofs.Common.{◌≡◌, ℕ, ◌<◌, List, [], ◌∷◌, ◌++◌, length, map, drop, get_or, Result}
use Rattle.std.proofs.Common.{Ok}
use Rattle.std.proofs.Common.{Err, refl, ap, sym, ◌∙◌, subst}
use Rattle.std.proofs.Math.Seq.{drop-cons}
use Rattle.std.specs.Prelude.{IfOk, IfErr}
use Rattle.vortex_types.specs.LogicalTypes.{Fields}
use Rattle.vortex_syntax.specs.declared.answer_list.SyntaxAnswer as held
use Rattle.vortex_syntax.specs.AnswerLists as syntax
use Rattle.vortex_syntax.specs.AnswerLists.{Told, told, ReadsAnswers}
use Rattle.vortex_syntax.specs.Refusals.{ListStopsAt}
use Rattle.vortex_syntax.proofs.AnswerSplits.{one_answers}
use Rattle.vortex_expressions.specs.declared.error.TextError.{TextError}
use Rattle.vortex_expressions.specs.declared.refusal.Refusal.{Refusal}
use Rattle.vortex_expressions.specs.Outcomes.{Outcome, answers, refuses, and_then}
use Rattle.vortex_expressions.specs.Answers.{Answer, with_name, with_first, answers_of}
use Rattle.vortex_expressions.specs.Answers.{answers_left}
use Rattle.vortex_expressions.specs.Answers.{answer_left}
use Rattle.vortex_expressions.specs.Answers.{ExpressesAll, IsRefusedAll}
use Rattle.vortex_expressions.specs.Reading.{Finds, ToldBy, ReadUnlessMemory, RefusesAs}
use Rattle.vortex_expressions.specs.Reading.{TellsWhy}
use Rattle.vortex_expressions.proofs.Finding.{told_first}
use Rattle.vortex_expressions.proofs.Whole.{left-is}
use Rattle.vortex_expressions.specs.Binding.{ended}
use Rattle.vortex_expressions.specs.Calls.{names_in}
use Rattle.vortex_logical.specs.declared.kind.Kind.{Kind}
use Rattle.vortex_expressions.proofs.Sure.{sure_answers}
use Rattle.vortex_expressions.proofs.Why.{why}

module _ (scope : Fields) (kinds : List Kind) where
  answers_left-is : (bs : List syntax.Answer)
      → answers_left scope kinds (map told bs) ≡ answers_of scope kinds bs
  answers_left-is [] = refl
  answers_left-is (a ∷ bs) =
      (λ i. with_first (and_then (left-is (names_in scope kinds) ended a.tree i) (with_name a.name))
      (answers_left-is bs i))

  module _ {A : Type 0} (view : A → List Answer) (text : List ℕ) (bs : List syntax.Answer)
      (ts : List Told) (read : ReadsAnswers text bs) (is : ts ≡ map told bs) where
    left_is : (cs : List syntax.Answer) → ReadsAnswers text cs
        → answers_left scope kinds ts ≡ answers_of scope kinds cs
    left_is cs s =
        ap (answers_left scope kinds) (is ∙ one_answers text bs cs read s) ∙ answers_left-is cs

    pub found : (r : Result A TextError) → Finds view r (answers_left scope kinds ts)
        → IfOk r (λ v. ExpressesAll scope kinds text (view v))
    found (Ok v) h = record { syntax = bs; read = read; bound = sym (left_is bs read) ∙ h }
    found (Err e) h = tt

    pub only : (r : Result A TextError) → Finds view r (answers_left scope kinds ts)
        → (list : List Answer) → ExpressesAll scope kinds text list
        → ReadUnlessMemory r (λ v. view v ≡ list)
    only (Ok v) h list s =
        let e : answers (view v) ≡ answers list = sym h ∙ left_is s.syntax s.read ∙ s.bound in cc
    only (Err e) h list s = subst (λ o. ToldBy o e) (left_is s.syntax s.read ∙ s.bound) h

    pub told_why : (r : Result A TextError) → Finds view r (answers_left scope kinds ts)
        → IfErr r (TellsWhy ListStopsAt (IsRefusedAll scope kinds text) text)
    told_why (Ok v) h = tt
    told_why (Err e) h =
        why ListStopsAt (IsRefusedAll scope kinds text) text _ (answers_of scope kinds bs) e
        (sure_answers scope kinds read.spelled)
        (λ r k. record { syntax = bs; read = read; refused = k })
        (subst (λ o. ToldBy o e) (left_is bs read) h)

    pub refused : (r : Result A TextError) → Finds view r (answers_left scope kinds ts)
        → (why : Refusal) → IsRefusedAll scope kinds text why → RefusesAs why r
    refused (Ok v) h why s =
        let e : answers (view v) ≡ refuses why = sym h ∙ left_is s.syntax s.read ∙ s.refused in cc
    refused (Err e) h why s = subst (λ o. ToldBy o e) (left_is s.syntax s.read ∙ s.refused) h

module _ (scope : Fields) (kinds : List Kind) (xs : List held.SyntaxAnswer) where
  abbrev From : ℕ → Outcome (List Answer)
  From n = answers_left scope kinds (map syntax.answer_in (drop n xs))

  abbrev pub SoFar : ℕ → List Answer → Type 0
  SoFar n out = From 0 ≡ and_then (From n) (λ bs. answers (out ++ bs))

  pub stops : (n : ℕ) (x : held.SyntaxAnswer) (out : List Answer) (e : TextError)
      → n < length xs → x ≡ get_or xs n x → SoFar n out
      → ToldBy (answer_left scope kinds (syntax.answer_in x)) e → ToldBy (From 0) e
  stops n x out e lt at so_far h =
      subst (λ o. ToldBy o e)
      (sym (so_far ∙ ap (λ ys. and_then (answers_left scope kinds (map syntax.answer_in ys))
      (λ bs. answers (out ++ bs))) (drop-cons xs n x lt)))
      (told_first _ _ e
      (told_first (answer_left scope kinds (syntax.answer_in (get_or xs n x))) _ e
      (subst (λ y. ToldBy (answer_left scope kinds (syntax.answer_in y)) e) at h)))
