-- The steps of a text leave what the text means.
use Rattle.std.proofs.Common.{◌≡◌, ℕ, List, [], map, Result, Ok, Err, ap, sym, ◌∙◌, subst, None}
use Rattle.std.specs.Prelude.{IfOk, IfErr}
use Rattle.vortex_types.specs.LogicalTypes.{Fields}
use Rattle.vortex_logical.specs.declared.kind.Kind.{Kind}
use Rattle.vortex_syntax.specs.declared.step.Step as written
use Rattle.vortex_syntax.specs.Syntax.{Syntax}
use Rattle.vortex_syntax.specs.Postfix.{step_in, postfix}
use Rattle.vortex_syntax.specs.Grammar.{Reads}
use Rattle.vortex_syntax.specs.Refusals.{TreeStopsAt}
use Rattle.vortex_syntax.proofs.Whole.{one_tree}
use Rattle.vortex_expressions.specs.declared.error.TextError.{TextError}
use Rattle.vortex_expressions.specs.declared.item.LogicalTree as held
use Rattle.vortex_expressions.specs.declared.refusal.Refusal.{Refusal}
use Rattle.vortex_expressions.specs.Outcomes.{Outcome, answers, refuses, and_then}
use Rattle.vortex_expressions.specs.Items.{Item, Tree, settled}
use Rattle.vortex_expressions.specs.Calls.{Names, names_of, names_in}
use Rattle.vortex_expressions.specs.Binding.{item_by, Expresses, IsRefused, LogicalTree}
use Rattle.vortex_expressions.specs.Binding.{logical_in, ended, ExpressesLogical}
use Rattle.vortex_expressions.specs.Binding.{IsRefusedLogical}
use Rattle.vortex_expressions.specs.Stacks.{run, left_as}
use Rattle.vortex_expressions.specs.Reading.{Bound, BoundLogical, Finds, ToldBy, ReadUnlessMemory}
use Rattle.vortex_expressions.specs.Reading.{RefusesAs, TellsWhy}
use Rattle.vortex_expressions.proofs.Whole.{left-is}
use Rattle.vortex_expressions.proofs.SureCalls.{Sure, IsTyped}
use Rattle.vortex_expressions.proofs.Sure.{sure_tree, sure_logical}
use Rattle.vortex_expressions.proofs.Why.{why}

module _ (text : List ℕ) (t : Syntax) (steps : List written.Step) (read : Reads text t)
    (is : map step_in steps ≡ postfix t) where
  -- of any binder
  module _ {A B : Type 0} (columns : Names) (final : Item → Outcome B)
      (view : A → B) where
    abbrev Left : Outcome B
    Left = and_then (run columns (map step_in steps) []) (left_as final)

    abbrev Means : Syntax → Outcome B
    Means u = and_then (item_by columns u) final

    left_is : (u : Syntax) → Reads text u → Left ≡ Means u
    left_is u s =
        ap (λ ss. and_then (run columns ss []) (left_as final)) (is ∙ one_tree text t u read s)
        ∙ left-is columns final u

    meant : (a : A) → Left ≡ answers (view a) → Means t ≡ answers (view a)
    meant a h = sym (left_is t read) ∙ h

    only_one : (r : Result A TextError) → Finds view r Left → (u : Syntax) → Reads text u → (b : B)
        → Means u ≡ answers b → ReadUnlessMemory r (λ a. view a ≡ b)
    only_one (Ok a) h u s b e =
        let same : answers (view a) ≡ answers b = sym h ∙ left_is u s ∙ e in cc
    only_one (Err x) h u s b e = subst (λ o. ToldBy o x) (left_is u s ∙ e) h

    refused_as : (r : Result A TextError) → Finds view r Left → (u : Syntax) → Reads text u
        → (why : Refusal) → Means u ≡ refuses why → RefusesAs why r
    refused_as (Ok a) h u s why e =
        let same : answers (view a) ≡ refuses why = sym h ∙ left_is u s ∙ e in cc
    refused_as (Err x) h u s why e = subst (λ o. ToldBy o x) (left_is u s ∙ e) h

    told_why : (r : Result A TextError) → Finds view r Left → (Refuses : Refusal → Type 0)
        → ((x : Refusal) → Means t ≡ refuses x → Refuses x) → (P : B → Type 0)
        → Sure P (Means t) → IfErr r (TellsWhy TreeStopsAt Refuses text)
    told_why (Ok a) h Refuses f P s = tt
    told_why (Err x) h Refuses f P s =
        why TreeStopsAt Refuses text P (Means t) x s f
        (subst (λ o. ToldBy o x) (left_is t read) h)

  -- over columns without kinds
  module _ (scope : Fields) where
    pub found : (r : Result Tree TextError) → Bound scope steps r
        → IfOk r (λ tree. Expresses scope text tree)
    found (Ok tree) h =
        record {
          syntax = t;
          read = read;
          bound = meant (names_of scope) (settled None) (λ (x : Tree). x) tree h;
        }
    found (Err e) h = tt

    pub only : (r : Result Tree TextError) → Bound scope steps r → (tree : Tree)
        → Expresses scope text tree → ReadUnlessMemory r (λ x. x ≡ tree)
    only r h tree s =
        only_one (names_of scope) (settled None) (λ (x : Tree). x) r h s.syntax s.read tree s.bound

    pub told : (r : Result Tree TextError) → Bound scope steps r
        → IfErr r (TellsWhy TreeStopsAt (IsRefused scope text) text)
    told r h =
        told_why (names_of scope) (settled None) (λ (x : Tree). x) r h (IsRefused scope text)
        (λ x e. record { syntax = t; read = read; refused = e }) IsTyped
        (sure_tree scope t read.spelled.levels)

    pub refused : (r : Result Tree TextError) → Bound scope steps r → (why : Refusal)
        → IsRefused scope text why → RefusesAs why r
    refused r h why s =
        refused_as (names_of scope) (settled None) (λ (x : Tree). x) r h s.syntax s.read why s.refused

  -- over columns with kinds
  module _ (scope : Fields) (kinds : List Kind) where
    pub found_logical : (r : Result held.LogicalTree TextError) → BoundLogical scope kinds steps r
        → IfOk r (λ x. ExpressesLogical scope kinds text (logical_in x))
    found_logical (Ok x) h =
        record {
          syntax = t;
          read = read;
          bound = meant (names_in scope kinds) ended logical_in x h;
        }
    found_logical (Err e) h = tt

    pub only_logical : (r : Result held.LogicalTree TextError) → BoundLogical scope kinds steps r
        → (x : LogicalTree) → ExpressesLogical scope kinds text x
        → ReadUnlessMemory r (λ y. logical_in y ≡ x)
    only_logical r h x s =
        only_one (names_in scope kinds) ended logical_in r h s.syntax s.read x s.bound

    pub told_logical : (r : Result held.LogicalTree TextError) → BoundLogical scope kinds steps r
        → IfErr r (TellsWhy TreeStopsAt (IsRefusedLogical scope kinds text) text)
    told_logical r h =
        told_why (names_in scope kinds) ended logical_in r h (IsRefusedLogical scope kinds text)
        (λ x e. record { syntax = t; read = read; refused = e }) (λ x. Unit {0})
        (sure_logical scope kinds t read.spelled.levels)

    pub refused_logical : (r : Result held.LogicalTree TextError) → BoundLogical scope kinds steps r
        → (why : Refusal) → IsRefusedLogical scope kinds text why → RefusesAs why r
    refused_logical r h why s =
        refused_as (names_in scope kinds) ended logical_in r h s.syntax s.read why s.refused
