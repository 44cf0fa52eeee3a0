-- Whether the last step is a bare name.
use Rattle.std.proofs.Common.{◌≡◌, ℕ, ◌-◌, List, [], ◌∷◌, ◌++◌, map, take, reverse, Some, None, refl}
use Rattle.std.proofs.Common.{ap, sym, ◌∙◌, append_assoc, false}
use Rattle.std.specs.Option.{option_map}
use Rattle.std.proofs.lemmas.List.{append-nil, map-append, reverse-append}
use Rattle.vortex_syntax.specs.declared.step.Step as read
use Rattle.vortex_syntax.specs.Frames.{Frame}
use Rattle.vortex_syntax.specs.Frames as frame
use Rattle.vortex_syntax.specs.declared.frame.Mode.TheVariants as mode
use Rattle.vortex_syntax.specs.Tokens.{name, text}
use Rattle.vortex_syntax.specs.Postfix.{Step, step_in, operand, typed, name_back, last_name}
use Rattle.vortex_syntax.specs.Levels.{atom_level}
use Rattle.vortex_syntax.specs.Reading.{state, call_of, titled, word_of}
use Rattle.vortex_syntax.proofs.LastName.{name_last}

no_front : (xs : List read.Step) → take (0 - 1) xs ≡ []
no_front [] = refl
no_front (x ∷ xs) = refl

none_last : (xs : List read.Step) → xs ≡ [] → last_name (map step_in xs) ≡ None
unfolding last_name
none_last xs e = ap (λ v. name_back (reverse (map step_in v))) e

pub none_left : (xs ys : List read.Step) (n : ℕ) → xs ≡ ys ++ [] → ys ≡ take (n - 1) xs → n ≡ 0
    → last_name (map step_in xs) ≡ None
none_left xs ys n e k h =
    none_last xs (e ∙ append-nil ys ∙ k ∙ ap (λ m. take (m - 1) xs) h ∙ no_front xs)

back_by : (s : Step) (xs : List Step) → None ≡ option_map (λ x. x.1) (last_name (s ∷ []))
    → name_back (s ∷ xs) ≡ None
unfolding last_name
back_by (operand (name w)) xs h = absurd cc
back_by s xs h = refl

last_first : (xs : List read.Step) (s : read.Step)
    → reverse (map step_in (xs ++ (s ∷ []))) ≡ step_in s ∷ reverse (map step_in xs)
last_first xs s =
    ap reverse (map-append step_in xs (s ∷ []))
    ∙ reverse-append (map step_in xs) (step_in s ∷ [])

pub unnamed_last : (xs ys : List read.Step) (s : read.Step) → xs ≡ ys ++ (s ∷ [])
    → None ≡ option_map (λ x. x.1) (last_name (step_in s ∷ [])) → last_name (map step_in xs) ≡ None
unfolding last_name
unnamed_last xs ys s e h =
    ap (λ v. name_back (reverse (map step_in v))) e ∙ ap name_back (last_first ys s)
    ∙ back_by (step_in s) (reverse (map step_in ys)) h

some_word : (w v : List ℕ) → Some w ≡ Some v → w ≡ v
some_word w v e = cc

named_is : (s : Step) (w : List ℕ) → Some w ≡ option_map (λ x. x.1) (last_name (s ∷ []))
    → s ≡ operand (name w)
unfolding last_name
named_is (operand (name v)) w h = ap (λ u. operand (name u)) (sym (some_word w v h))
named_is s w h = absurd cc

pub named_last : (xs ys : List read.Step) (s : read.Step) (w : List ℕ) → xs ≡ ys ++ (s ∷ [])
    → Some w ≡ option_map (λ x. x.1) (last_name (step_in s ∷ []))
    → map step_in xs ≡ map step_in ys ++ (operand (name w) ∷ [])
named_last xs ys s w e h =
    ap (map step_in) e ∙ map-append step_in ys (s ∷ [])
    ∙ ap (λ t. map step_in ys ++ (t ∷ [])) (named_is (step_in s) w h)

-- a call of the name
pub opened : (fs gs : List Frame) (xs zs out : List Step) (w : List ℕ)
    → gs ≡ frame.Arguments w 0 ∷ fs → zs ≡ xs → out ≡ xs ++ (operand (name w) ∷ [])
    → Some (state mode.Want gs zs) ≡ call_of fs (last_name out)
opened fs gs xs zs out w e k h =
    ap (λ hs. Some (state mode.Want hs zs)) e
    ∙ ap (λ ys. Some (state mode.Want (frame.Arguments w 0 ∷ fs) ys)) k
    ∙ sym (ap (call_of fs) (ap last_name h ∙ name_last xs w))

-- a literal of the type of that name
pub titled_is : (fs gs : List Frame) (xs ys zs : List Step) (w bs : List ℕ) → gs ≡ fs
    → ys ≡ xs ++ (operand (text bs) ∷ []) → zs ≡ ys ++ (typed w false ∷ [])
    → Some (state (mode.Have atom_level) gs zs) ≡ titled fs xs w bs
titled_is fs gs xs ys zs w bs e k j =
    ap (λ hs. Some (state (mode.Have atom_level) hs zs)) e
    ∙ ap (λ us. Some (state (mode.Have atom_level) fs us))
    (j ∙ ap (λ us. us ++ (typed w false ∷ [])) k
    ∙ append_assoc xs (operand (text bs) ∷ []) (typed w false ∷ []))

-- the name before a text or a number
pub name_taken : (xs out : List Step) (w : List ℕ) → out ≡ xs ++ (operand (name w) ∷ [])
    → Some (xs, w) ≡ last_name out
name_taken xs out w h = sym (ap last_name h ∙ name_last xs w)

-- a word before `from`
pub word_taken : (f w : List ℕ) (fs gs hs : List Frame) (xs ys zs out : List Step) → gs ≡ fs
    → hs ≡ frame.Extract f ∷ gs → ys ≡ xs ++ (operand (text w) ∷ []) → zs ≡ ys
    → out ≡ xs ++ (operand (name w) ∷ [])
    → Some (state mode.Want hs zs) ≡ word_of f fs (last_name out)
word_taken f w fs gs hs xs ys zs out e k j i h =
    ap (λ us. Some (state mode.Want us zs)) (k ∙ ap (λ us. frame.Extract f ∷ us) e)
    ∙ ap (λ us. Some (state mode.Want (frame.Extract f ∷ fs) us)) (i ∙ j)
    ∙ sym (ap (word_of f fs) (ap last_name h ∙ name_last xs w))
