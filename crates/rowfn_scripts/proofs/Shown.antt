-- Only trees of places and shipped functions have texts.
use Rattle.std.proofs.Common.{◌≡◌, Option, Some, None, List, [], ◌∷◌, ◌++◌, ℕ, refl, ap, subst}
use Rattle.std.specs.Prelude.{codes, IfSome}
use Rattle.std.specs.Option.{option_and_then}
use Rattle.vortex_interface.specs.Bound.{OnlyPlaces, AllOnlyPlaces}
use Rattle.vortex_interface.specs.Weights.{OnlyShipped, AllShipped}
use Rattle.vortex_interface.specs.Shipped.{shipped_text}
use Rattle.vortex_interface.specs.Functions.{ours, custom}
use Rattle.vortex_interface.specs.Trees.{place, held, Tree, leaf, constant, call as call_tree, Trees}
use Rattle.vortex_interface.specs.Trees.{no_trees, tree}
use Rattle.vortex_interface.specs.Printing.{tree_text, tree_texts, with_text, function_text}
use Rattle.vortex_interface.specs.Printing.{literal_text}
use Rattle.rowfn_scripts.specs.Sessions.{SessionView, Step, shown_by}
use Rattle.rowfn_scripts.specs.Fitting.{HasText}

-- a tree with a text is a call of a shipped function on trees with texts
pub of_some : {A B : Type 0} (f : A → Option B) (o : Option A) (y : B)
    → option_and_then f o ≡ Some y → (x : A) × (o ≡ Some x)
of_some f None y e = cc
of_some f (Some x) y e = (x, refl)

pub of_both : (a : Option (List ℕ)) (b : Option (List (List ℕ))) (texts : List (List ℕ))
    → with_text a b ≡ Some texts
    → ((x : List ℕ) × (a ≡ Some x)) × ((xs : List (List ℕ)) × (b ≡ Some xs))
of_both None b texts e = cc
of_both (Some x) None texts e = cc
of_both (Some x) (Some xs) texts e = ((x, refl), (xs, refl))

abbrev pub HaveTexts : {V O : Type 0} → Trees V O → Type 0
HaveTexts ts = (texts : List (List ℕ)) × (tree_texts ts ≡ Some texts)

pub no_text : {V O : Type 0} (f : V) (c : O) (o : Option (List (List ℕ))) (text : List ℕ)
    → option_and_then (function_text (custom f c)) o ≡ Some text → ⊥
no_text f c None text e = cc
no_text f c (Some texts) text e = cc

no_held_text : (text : List ℕ) → None ≡ Some text → ⊥
no_held_text text e = cc

module _ {V O : Type 0} where
  mutual
    pub of_text : (t : Tree V O) → HasText t → OnlyPlaces t × OnlyShipped t
    of_text (leaf (place p name k)) h = (tt, tt)
    of_text (leaf (held c)) h = absurd (no_held_text h.0 h.1)
    of_text (constant s) h = (tt, tt)
    of_text (call_tree (custom f o) ts) h = absurd (no_text f o (tree_texts ts) h.0 h.1)
    of_text (call_tree (ours f) ts) h =
        let text = function_text {V = V} {O = O} (ours f) in
        let more = of_texts ts (of_some text (tree_texts ts) h.0 h.1) in
        (more.0, (tt, more.1))

    of_texts : (ts : Trees V O) → HaveTexts ts → AllOnlyPlaces ts × AllShipped ts
    of_texts no_trees h = (tt, tt)
    of_texts (tree t ts) h =
        let texts = of_both (tree_text t) (tree_texts ts) h.0 h.1 in
        let first = of_text t texts.0 in
        let more = of_texts ts texts.1 in
        ((first.0, more.0), (first.1, more.1))

  mutual
    pub text_of : (t : Tree V O) → OnlyPlaces t → OnlyShipped t → HasText t
    text_of (leaf (place p name k)) a b = (codes "$." ++ name, refl)
    text_of (leaf (held c)) a b = absurd a
    text_of (constant s) a b = (literal_text s.dtype s.value, refl)
    text_of (call_tree (custom f o) ts) a b = absurd b.0
    text_of (call_tree (ours f) ts) a b =
        let texts = texts_of ts a b.1 in (
          shipped_text f texts.0,
          ap (option_and_then (function_text {V = V} {O = O} (ours f))) texts.1,
        )

    texts_of : (ts : Trees V O) → AllOnlyPlaces ts → AllShipped ts → HaveTexts ts
    texts_of no_trees a b = ([], refl)
    texts_of (tree t ts) a b =
        let first = text_of t a.0 b.0 in
        let more = texts_of ts a.1 b.1 in
        (first.0 ∷ more.0, λ i. with_text (first.1 i) (more.1 i))

-- the step that prints the text
pub shows_text : {V O : Type 0} (s : SessionView V O) (x : Tree V O) (r : Step V O) (h : HasText x)
    → IfSome (tree_text x) (λ text. r ≡ shown_by text s) → r ≡ shown_by h.0 s
shows_text s x r h e = subst (λ (o : Option (List ℕ)). IfSome o (λ text. r ≡ shown_by text s)) h.1 e
