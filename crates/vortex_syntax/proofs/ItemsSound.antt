-- What the tokens of a list of items do to what was read.
use Rattle.std.proofs.Common.{◌≡◌, ℕ, suc, ◌≤◌, Bool, List, [], ◌∷◌, ◌++◌, Some, ap, sym, subst}
use Rattle.std.proofs.Common.{◌∙◌, append_assoc, lit≤}
use Rattle.std.proofs.lemmas.List.{append-nil}
use Rattle.vortex_syntax.specs.declared.token.Sign.TheVariants as sign
use Rattle.vortex_syntax.specs.Frames.{Frame, top_hole}
use Rattle.vortex_syntax.specs.Frames as frame
use Rattle.vortex_syntax.specs.declared.frame.Mode.TheVariants as mode
use Rattle.vortex_syntax.specs.Tokens.{Token, sign}
use Rattle.vortex_syntax.specs.Syntax as tree
use Rattle.vortex_syntax.specs.Syntax.{Syntax, Arguments}
use Rattle.vortex_syntax.specs.Levels.{Fits, predicate_level, concat_level}
use Rattle.vortex_syntax.specs.Spelling.{spelling, all_spelled, with_not, in_tokens}
use Rattle.vortex_syntax.specs.Postfix.{Step, listed, argument_count, postfix, all_postfix}
use Rattle.vortex_syntax.specs.Reading as specs
use Rattle.vortex_syntax.specs.Reading.{State, state}
use Rattle.vortex_syntax.proofs.Held.{Held, listing, written, held, IsSound}
use Rattle.vortex_syntax.proofs.Before.{Behind, more_tokens, as_tokens, as_steps, pushed}
use Rattle.vortex_syntax.proofs.Before.{HasOperand, HoldsIn, along}
use Rattle.vortex_syntax.proofs.Grown.{Holding, grown, completed}

-- the bracket
begun_list : (n : Bool) (a : Syntax)
    → (spelling a ++ with_not n sign.In) ++ (sign sign.Open ∷ [])
    ≡ spelling a ++ (in_tokens n ++ [])
begun_list n a = append_assoc (spelling a) (with_not n sign.In) (sign sign.Open ∷ [])
    ∙ ap (λ ts. spelling a ++ ts) (sym (append-nil (in_tokens n)))

pub in_follows : (n : Bool) (l : ℕ) (fs : List Frame) (out : List Step) (t : Token) (s : State)
    (before : List Token) → specs.after_in n fs out t ≡ Some s
    → HasOperand l fs out before (with_not n sign.In) → concat_level ≤ l
    → top_hole fs ≤ predicate_level → HoldsIn s (before ++ (t ∷ []))
in_follows n l fs out (sign sign.Open) s before e a le place =
    let last : List Token = sign sign.Open ∷ [] in
    let here = spelling a.tree ++ with_not n sign.In in
    let h : Held = listing n a.tree tree.no_arguments in
    along (state mode.Want (frame.Items n 0 ∷ fs) out) s (before ++ last) e
    (pushed h fs out (before ++ last)
    (as_steps fs out (before ++ last) (postfix a.tree) (held h) (written h)
    (sym (append-nil (postfix a.tree)))
    (as_tokens fs out (before ++ last) (postfix a.tree) (here ++ last) (written h)
    (begun_list n a.tree) (more_tokens fs out before (postfix a.tree) here last a.behind)))
    (subst (λ (m : ℕ). concat_level ≤ m) a.level le, a.fits, tt) place)
in_follows n l fs out t s before e a le place = absurd cc

-- an item, and the end
in_list : (a b c d : List Token) → (a ++ (b ++ c)) ++ d ≡ a ++ (b ++ (c ++ d))
in_list a b c d = simp append_assoc

list_steps : (a b c d : List Step) → ((a ++ b) ++ c) ++ d ≡ a ++ (b ++ (c ++ d))
list_steps a b c d = simp append_assoc

module _ (n : Bool) (k : ℕ) (a : Syntax) (args : Arguments) (b : Syntax) (fs : List Frame)
    (out : List Step) (before : List Token) where
  pub item_is : k ≡ argument_count args → IsSound (listing n a args) → Fits b
      → top_hole fs ≤ predicate_level → Holding (listing n a args) b fs out before
      → Behind (frame.Items n (suc k) ∷ fs) out (before ++ (sign sign.Comma ∷ [])) [] []
  item_is e s f place r =
      let comma : List Token = sign sign.Comma ∷ [] in
      subst (λ (m : ℕ). Behind (frame.Items n (suc m) ∷ fs) out (before ++ comma) [] []) (sym e)
      (grown (listing n a args) (listing n a (tree.argument args b)) b (sign sign.Comma) fs out before
      (append_assoc (postfix a) (all_postfix args) (postfix b))
      (in_list (spelling a) (in_tokens n) (all_spelled args) (spelling b ++ comma))
      (s.0, s.1, (s.2, f)) place r)

  pub listed_is : k ≡ argument_count args → IsSound (listing n a args) → Fits b
      → top_hole fs ≤ predicate_level → Holding (listing n a args) b fs out before
      → HasOperand predicate_level fs (out ++ (listed n (suc k) ∷ []))
      (before ++ (sign sign.Close ∷ [])) []
  listed_is e s f place r =
      let close : List Token = sign sign.Close ∷ [] in
      let x : Step = listed n (suc (argument_count args)) in
      subst (λ (m : ℕ). HasOperand predicate_level fs (out ++ (listed n (suc m) ∷ []))
      (before ++ close) []) (sym e)
      (completed (listing n a args) b (tree.listed n a args b) x sign.Close fs out before
      (list_steps (postfix a) (all_postfix args) (postfix b) (x ∷ []))
      (in_list (spelling a) (in_tokens n) (all_spelled args) (spelling b ++ close))
      (s.0, s.1, s.2, f) place (lit≤ tt) r)
