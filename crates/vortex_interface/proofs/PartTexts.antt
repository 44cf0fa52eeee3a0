-- The text of an argument, and the remaining parts of a call's text.
use Rattle.std.proofs.Common.{◌≡◌, ℕ, zero, suc, ◌-◌, ◌<◌, ◌≤◌, List, [], ◌∷◌, ◌++◌, Some}
use Rattle.std.proofs.Common.{None, refl, sym, ap, ◌∙◌, arith, subst}
use Rattle.std.proofs.lemmas.List.{append_assoc, append-nil}
use Rattle.std.specs.Prelude.{slice_get}
use Rattle.vortex_interface.specs.CallTexts.{text_at, told}
use Rattle.vortex_interface.specs.Texts.{AreTold}

-- the text of an argument that exists, and of one that does not
pub text_got : (texts : List (List ℕ)) (k : ℕ) (text : List ℕ) → slice_get texts k ≡ Some text
    → text_at k texts ≡ text
text_got [] k text e = cc
text_got (t ∷ ts) zero text e = cc
text_got (t ∷ ts) (suc k) text e = text_got ts k text e

pub text_past : (texts : List (List ℕ)) (k : ℕ) → slice_get texts k ≡ None → text_at k texts ≡ []
text_past [] k e = refl
text_past (t ∷ ts) zero e = cc
text_past (t ∷ ts) (suc k) e = text_past ts k e

-- the remaining text from the k-th of the parts on begins with the k-th
pub told_next : (before : ℕ → List ℕ) (printed : ℕ → ℕ) (k n : ℕ) (texts : List (List ℕ)) → k < n
    → told before printed k (n - k) texts
    ≡ before k ++ text_at (printed k) texts ++ told before printed (suc k) (n - suc k) texts
told_next before printed k n texts lt =
    let more : n - k ≡ suc (n - suc k) = omega arith in
    ap (λ left. told before printed k left texts) more

-- past the last part nothing is left
pub told_past : (before : ℕ → List ℕ) (printed : ℕ → ℕ) (k n : ℕ) (texts : List (List ℕ)) → n ≤ k
    → told before printed k (n - k) texts ≡ []
told_past before printed k n texts le =
    let none : n - k ≡ zero = omega arith in
    ap (λ left. told before printed k left texts) none

module _ (part : ℕ → List ℕ → ℕ → Type 0) (n : ℕ) (texts : List (List ℕ)) where
  -- the parts before the k-th are appended to the text; with the remaining ones it is the whole
  -- text
  abbrev pub Telling : List ℕ → ℕ → List ℕ → Type 0
  Telling old k out =
      (told : List ℕ) × (out ≡ old ++ told)
      × ((rest : List ℕ) → AreTold part k (n - k) texts rest → AreTold part 0 n texts (told ++ rest))

  pub telling_begins : (old : List ℕ) → Telling old 0 old
  telling_begins old =
      ([], sym (append-nil old), λ rest h. subst (λ m. AreTold part 0 m texts rest) all h)
    where
      all : n - 0 ≡ n
      all = omega arith

  pub telling_goes_on : (old : List ℕ) (k : ℕ) (out text mid argued new : List ℕ) (place : ℕ)
      → k < n → Telling old k out → part k text place
      → mid ≡ out ++ text → argued ≡ text_at place texts → new ≡ mid ++ argued
      → Telling old (suc k) new
  telling_goes_on old k out text mid argued new place lt t p m a e =
      let more : n - k ≡ suc (n - suc k) = omega arith in
      let argument = text_at place texts in (
        t.0 ++ text ++ argument,
        e ∙ (λ j. m j ++ a j)
            ∙ ap (λ bs. bs ++ text ++ argument) t.1
            ∙ ap (λ bs. bs ++ argument) (append_assoc old t.0 text)
            ∙ append_assoc old (t.0 ++ text) argument,
        λ rest h.
            subst (AreTold part 0 n texts)
            (sym (append_assoc t.0 (text ++ argument) rest)
            ∙ ap (λ bs. bs ++ rest) (sym (append_assoc t.0 text argument)))
            (t.2 (text ++ argument ++ rest)
            (subst (λ left. AreTold part k left texts (text ++ argument ++ rest)) (sym more)
            (text, place, rest, p, h, refl))),
      )

  pub telling_ends : (old out : List ℕ) (k : ℕ) → n ≤ k → Telling old k out
      → (told : List ℕ) × (out ≡ old ++ told) × AreTold part 0 n texts told
  telling_ends old out k past t =
      let none : n - k ≡ zero = omega arith in
      let end : AreTold part k (n - k) texts [] =
      subst (λ left. AreTold part k left texts []) (sym none) refl in
      (t.0, t.1, subst (AreTold part 0 n texts) (append-nil t.0) (t.2 [] end))
