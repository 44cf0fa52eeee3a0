-- What a parsed text leaves over a scope is what the text means there.
use Rattle.std.proofs.Common.{◌≡◌, ℕ, List, [], ◌∷◌, map, Result, Ok, Err, None, ap, sym, ◌∙◌, subst, refl}
use Rattle.std.proofs.Common.{inl, inr, Vec, Global}
use Rattle.std.specs.Prelude.{IfOk, IfErr}
use Rattle.vortex_types.specs.LogicalTypes.{Fields}
use Rattle.vortex_syntax.specs.Syntax.{Syntax}
use Rattle.vortex_syntax.specs.Postfix.{Step}
use Rattle.vortex_syntax.specs.Grammar.{Reads}
use Rattle.vortex_syntax.specs.Refusals.{TreeStopsAt}
use Rattle.vortex_syntax.specs.AnswerLists.{Told}
use Rattle.vortex_syntax.proofs.Whole.{one_tree}
use Rattle.vortex_expressions.specs.declared.error.TextError.{TextError}
use Rattle.vortex_expressions.specs.declared.refusal.Refusal.{Refusal}
use Rattle.vortex_expressions.specs.Outcomes.{Outcome, answers, refuses, missing, and_then}
use Rattle.vortex_logical.specs.declared.kind.Kind.{Kind}
use Rattle.vortex_expressions.specs.Calls.{names_in}
use Rattle.vortex_expressions.specs.Stacks.{logical_left}
use Rattle.vortex_expressions.specs.Binding.{LogicalTree, ended, logical_of, IsRefusedLogical}
use Rattle.vortex_expressions.specs.Answers.{Answer, with_name, with_first, answers_left}
use Rattle.vortex_expressions.specs.Reading.{Finds, ToldBy, ToldFor, ReadUnlessMemory, RefusesAs}
use Rattle.vortex_expressions.specs.Reading.{TellsWhy}
use Rattle.vortex_functions.specs.Walks.{AllMean}
use Rattle.vortex_expressions.proofs.Whole.{left-is}
use Rattle.vortex_expressions.proofs.Sure.{sure_logical}
use Rattle.vortex_expressions.proofs.Why.{why, unread_why}
use Rattle.vortex_expressions.specs.declared.error.Reason.{Reason}
use Rattle.vortex_expressions.specs.declared.error.Reason.TheVariants as reason
use Rattle.vortex_syntax.specs.declared.error.SyntaxError.TheVariants as syntax
use Rattle.vortex_syntax.specs.Tokens.{Token}
use Rattle.vortex_expressions.proofs.Listing as listed
use Rattle.vortex_program.specs.declared.form.Form.{Form}
use Rattle.vortex_program.specs.declared.form.Form.TheVariants as form
use Rattle.vortex_program.specs.declared.answer.Answer as bound
use Rattle.vortex_program.specs.Naming.{IsNamedAnswer, AreWordsOf, worded}
use Rattle.vortex_program.specs.Programs.{trees_of}
use Rattle.vortex_program.specs.Texts.{IsParsed, ReadsOne, MeansOne, Means, IsRefusedOver, StopsAt}
use Rattle.vortex_program.specs.Texts.{AreAnswersOf}
use Rattle.vortex_program.proofs.NamedTrees.{named_trees}

-- one tree without a name
abbrev one : LogicalTree → List Answer
one t = record { tree = t.tree; kind = t.kind; name = None } ∷ []

abbrev alone : Outcome LogicalTree → Outcome (List Answer)
alone o = and_then o (λ t. answers (one t))

one_left : (o : Outcome LogicalTree)
    → with_first (and_then o (with_name None)) (answers []) ≡ alone o
one_left (answers t) = refl
one_left (refuses r) = refl
one_left missing = refl

told_of : (o : Outcome LogicalTree) (e : TextError) → ToldBy (alone o) e → ToldBy o e
told_of (answers t) e h = h
told_of (refuses r) e h = h
told_of missing e h = h

module _ (scope : Fields) (kinds : List Kind) (text : List ℕ) (ts : List Told)
    (parsed : ReadsOne text ts) where
  left_is : (u : Syntax) → Reads text u
      → answers_left scope kinds ts ≡ alone (logical_of scope kinds u)
  left_is u s =
      ap (answers_left scope kinds) parsed.is
      ∙ ap (λ (ss : List Step).
      with_first (and_then (logical_left scope kinds ss) (with_name None)) (answers []))
      (one_tree text parsed.tree u parsed.read s)
      ∙ ap (λ o. with_first (and_then o (with_name None)) (answers []))
      (left-is (names_in scope kinds) ended u)
      ∙ one_left (logical_of scope kinds u)

  meant : (o : Outcome LogicalTree) (list : List Answer) → logical_of scope kinds parsed.tree ≡ o
      → alone o ≡ answers list → MeansOne scope kinds text list
  meant (answers t) list e h =
      let same : list ≡ one t = cc in
      record {
        one = t;
        said = record { syntax = parsed.tree; read = parsed.read; bound = e };
        is = same;
      }
  meant (refuses r) list e h = cc
  meant missing list e h = cc

  module _ {A : Type 0} (view : A → List Answer) where
    found_one : (r : Result A TextError) → Finds view r (answers_left scope kinds ts)
        → IfOk r (λ v. MeansOne scope kinds text (view v))
    found_one (Ok v) h =
        meant (logical_of scope kinds parsed.tree) (view v) refl
        (sym (left_is parsed.tree parsed.read) ∙ h)
    found_one (Err e) h = tt

    only_one : (r : Result A TextError) → Finds view r (answers_left scope kinds ts)
        → (list : List Answer) → MeansOne scope kinds text list
        → ReadUnlessMemory r (λ v. view v ≡ list)
    only_one (Ok v) h list s =
        let e : answers (view v) ≡ answers (one s.one) =
        sym h ∙ left_is s.said.syntax s.said.read ∙ ap alone s.said.bound in
        let same : view v ≡ one s.one = cc in
        same ∙ sym s.is
    only_one (Err e) h list s =
        subst (λ o. ToldBy o e) (left_is s.said.syntax s.said.read ∙ ap alone s.said.bound) h

    refused_one : (r : Result A TextError) → Finds view r (answers_left scope kinds ts)
        → (w : Refusal) → IsRefusedLogical scope kinds text w → RefusesAs w r
    refused_one (Ok v) h w s =
        let e : answers (view v) ≡ refuses w =
        sym h ∙ left_is s.syntax s.read ∙ ap alone s.refused in cc
    refused_one (Err e) h w s =
        subst (λ o. ToldBy o e) (left_is s.syntax s.read ∙ ap alone s.refused) h

    why_one : (r : Result A TextError) → Finds view r (answers_left scope kinds ts)
        → IfErr r (TellsWhy TreeStopsAt (IsRefusedLogical scope kinds text) text)
    why_one (Ok v) h = tt
    why_one (Err e) h =
        why TreeStopsAt (IsRefusedLogical scope kinds text) text _
        (logical_of scope kinds parsed.tree) e
        (sure_logical scope kinds parsed.tree parsed.read.spelled.levels)
        (λ r k. record { syntax = parsed.tree; read = parsed.read; refused = k })
        (told_of (logical_of scope kinds parsed.tree) e
        (subst (λ o. ToldBy o e) (left_is parsed.tree parsed.read) h))

module _ (scope : Fields) (kinds : List Kind) (text : List ℕ) (ts : List Told) {A : Type 0}
    (view : A → List Answer) where
  pub found : (f : Form) → IsParsed f text ts → (r : Result A TextError)
      → Finds view r (answers_left scope kinds ts) → IfOk r (λ v. Means f scope kinds text (view v))
  found form.Answers p r h = listed.found scope kinds view text p.list ts p.read p.is r h
  found form.Condition p r h = found_one scope kinds text ts p view r h

  pub only : (f : Form) → IsParsed f text ts → (r : Result A TextError)
      → Finds view r (answers_left scope kinds ts) → (list : List Answer)
      → Means f scope kinds text list
      → ReadUnlessMemory r (λ v. view v ≡ list)
  only form.Answers p r h = listed.only scope kinds view text p.list ts p.read p.is r h
  only form.Condition p r h = only_one scope kinds text ts p view r h

  pub refused : (f : Form) → IsParsed f text ts → (r : Result A TextError)
      → Finds view r (answers_left scope kinds ts) → (w : Refusal)
      → IsRefusedOver f scope kinds text w → RefusesAs w r
  refused form.Answers p r h = listed.refused scope kinds view text p.list ts p.read p.is r h
  refused form.Condition p r h = refused_one scope kinds text ts p view r h

  pub told_why : (f : Form) → IsParsed f text ts → (r : Result A TextError)
      → Finds view r (answers_left scope kinds ts)
      → IfErr r (TellsWhy (StopsAt f) (IsRefusedOver f scope kinds text) text)
  told_why form.Answers p r h = listed.told_why scope kinds view text p.list ts p.read p.is r h
  told_why form.Condition p r h = why_one scope kinds text ts p view r h

-- the answers that are left, under their names; or memory ran out
module _ (scope : Fields) (kinds : List Kind) (text : List ℕ) (ts : List Told) (f : Form)
    (parsed : IsParsed f text ts) (list : List Answer)
    (left : answers_left scope kinds ts ≡ answers list) where
  abbrev Named : Result (Vec bound.Answer Global) TextError → Type 0
  Named r =
      ReadUnlessMemory r (λ v. (words : List (List ℕ)) × AreWordsOf text words
      × AllMean (IsNamedAnswer scope) (worded list words) v.items)

  abbrev same : List Answer → List Answer
  same xs = xs

  pub named_found : (r : Result (Vec bound.Answer Global) TextError) → Named r
      → IfOk r (λ v. AreAnswersOf f scope kinds text v.items)
  named_found (Ok v) h = record {
    list = list;
    words = h.0;
    meant = found scope kinds text ts same f parsed (Ok list) left;
    written = h.1;
    each = h.2;
  }
  named_found (Err e) h = tt

  pub named_only : (r : Result (Vec bound.Answer Global) TextError) → Named r
      → (other : List Answer) → Means f scope kinds text other
      → ReadUnlessMemory r (λ v. trees_of v.items ≡ map (λ a. a.tree) other)
  named_only (Ok v) h other s =
      named_trees scope list h.0 v.items h.2
      ∙ ap (map (λ (a : Answer). a.tree))
      (only scope kinds text ts same f parsed (Ok list) left other s)
  named_only (Err e) h other s = h

  pub named_refused : (r : Result (Vec bound.Answer Global) TextError) (w : Refusal)
      → IsRefusedOver f scope kinds text w → RefusesAs w r
  named_refused r w s = absurd (refused scope kinds text ts same f parsed (Ok list) left w s)

  pub named_why : (r : Result (Vec bound.Answer Global) TextError) → Named r
      → IfErr r (TellsWhy (StopsAt f) (IsRefusedOver f scope kinds text) text)
  named_why (Ok v) h = tt
  named_why (Err e) h =
      unread_why (StopsAt f) (IsRefusedOver f scope kinds text) text syntax.OutOfMemory e tt h

module _ (Stops : List Token → ℕ → Type 0) (P Q : Refusal → Type 0)
    (weaker : (r : Refusal) → P r → Q r) (text : List ℕ) where
  for_weaker : (r : Reason) (byte : ℕ) → ToldFor Stops P text r byte
      → ToldFor Stops Q text r byte
  for_weaker reason.NoToken byte h = h
  for_weaker (reason.Unexpected x) byte h = h
  for_weaker reason.TooDeep byte h = h
  for_weaker (reason.Refused r) byte (inl p) = inl (weaker r p)
  for_weaker (reason.Refused r) byte (inr memory) = inr memory

  pub why_weaker : (e : TextError) → TellsWhy Stops P text e → TellsWhy Stops Q text e
  why_weaker e h = for_weaker e.reason e.byte h
