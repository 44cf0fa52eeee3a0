-- The token at which reading stops.
use Rattle.std.proofs.Common.{◌≡◌, ℕ, ◌+◌, ◌<◌, ◌≤◌, List, [], ◌∷◌, ◌++◌, length, map, take, get_or}
use Rattle.std.proofs.Common.{Some, None, refl, ap, sym, subst, ◌∙◌, append_assoc, arith}
use Rattle.std.proofs.lemmas.List.{map_more, take-map, take_all, length-map}
use Rattle.vortex_syntax.specs.Frames.{Frame}
use Rattle.vortex_syntax.specs.declared.frame.Mode.TheVariants as mode
use Rattle.vortex_syntax.specs.Tokens.{Token}
use Rattle.vortex_syntax.specs.Syntax.{Syntax}
use Rattle.vortex_syntax.specs.Postfix.{Step, postfix}
use Rattle.vortex_syntax.specs.Grammar.{Spells}
use Rattle.vortex_syntax.specs.Reading.{State, state, next, run, steps_of}
use Rattle.vortex_syntax.specs.Refusals.{Begins, TreeStopsAt}
use Rattle.vortex_syntax.proofs.Before.{HoldsIn}
use Rattle.vortex_syntax.proofs.Complete.{whole_read}
use Rattle.vortex_syntax.proofs.Sound.{step_sound}
use Rattle.vortex_syntax.proofs.Steps.{goes, fails}
use Rattle.vortex_syntax.proofs.Begun.{holds_begins}

-- the tokens before lead to the state
pub record LeadsTo (before : List Token) (s : State) : Type 0 where
  pub ran : (us : List Token) → steps_of (before ++ us) ≡ run s us
  pub holds : HoldsIn s before

pub at_first : (fs : List Frame) (out : List Step) → fs ≡ [] → out ≡ []
    → LeadsTo [] (state mode.Want fs out)
unfolding steps_of
at_first fs out e k = record {
  ran = λ us. rw (e, k) refl;
  holds = record { hs = []; frames = e; steps = k; tokens = refl; nested = tt };
}

one_more : (before us : List Token) (t : Token) (s r : State) → LeadsTo before s
    → next s.mode s.frames s.steps t ≡ Some r
    → steps_of ((before ++ (t ∷ [])) ++ us) ≡ run r us
one_more before us t s r l h =
    ap steps_of (append_assoc before (t ∷ []) us) ∙ l.ran (t ∷ us) ∙ goes s t us r h

pub leads_on : (before : List Token) (t : Token) (s r : State) → LeadsTo before s
    → next s.mode s.frames s.steps t ≡ Some r → LeadsTo (before ++ (t ∷ [])) r
leads_on before t s r l h = record {
  ran = λ us. one_more before us t s r l h;
  holds = step_sound s.mode s.frames s.steps t r before h l.holds;
}

-- no expression continues with a token that nothing follows
pub not_begun : (before : List Token) (t : Token) (s : State) → LeadsTo before s
    → next s.mode s.frames s.steps t ≡ None → ¬ Begins (before ++ (t ∷ []))
not_begun before t s l h b =
    let read : None ≡ Some (postfix b.tree) =
    sym (ap steps_of (append_assoc before (t ∷ []) b.more) ∙ l.ran (t ∷ b.more)
    ∙ fails s t b.more h)
    ∙ ap steps_of b.tokens ∙ whole_read b.tree b.levels in
    cc

-- the same by the code's tokens
module _ {A : Type 0} (f : A → Token) (xs : List A) (i : ℕ) where
  pub goes_to : (x : A) (s r : State) → i < length xs → LeadsTo (map f (take i xs)) s
      → next s.mode s.frames s.steps (f (get_or xs i x)) ≡ Some r
      → LeadsTo (map f (take (i + 1) xs)) r
  goes_to x s r lt l h =
      subst (λ (ts : List Token). LeadsTo ts r) (sym (map_more f xs i x lt))
      (leads_on (map f (take i xs)) (f (get_or xs i x)) s r l h)

  pub stops_at : (x : A) (s : State) → i < length xs → LeadsTo (map f (take i xs)) s
      → next s.mode s.frames s.steps (f (get_or xs i x)) ≡ None → TreeStopsAt (map f xs) i
  stops_at x s lt l h = record {
    within = omega (arith, lt, length-map xs f);
    before = subst (λ (ts : List Token). Begins ts) (sym (take-map f i xs))
        (holds_begins s.mode s.frames s.steps (map f (take i xs)) l.holds);
    token = λ _ b.
        not_begun (map f (take i xs)) (f (get_or xs i x)) s l h
        (subst (λ (ts : List Token). Begins ts) (take-map f (i + 1) xs ∙ map_more f xs i x lt) b);
    end = λ e t k. omega (arith, lt, e, length-map xs f);
  }

  no_tree : steps_of (map f xs) ≡ None → (t : Syntax) → ¬ Spells (map f xs) t
  no_tree h t k =
      let read : None ≡ Some (postfix t) =
      sym h ∙ ap steps_of k.tokens ∙ whole_read t k.levels in
      cc

  pub stops_behind : (s : State) → length xs ≤ i → LeadsTo (map f (take i xs)) s
      → steps_of (map f xs) ≡ None → TreeStopsAt (map f xs) (length xs)
  stops_behind s le l h = record {
    within = omega (arith, length-map xs f);
    before = subst (λ (ts : List Token). Begins ts)
        (ap (map f) (take_all i xs le)
        ∙ ap (map f) (sym (take_all (length xs) xs (omega arith)))
        ∙ sym (take-map f (length xs) xs))
        (holds_begins s.mode s.frames s.steps (map f (take i xs)) l.holds);
    token = λ lt b. omega (arith, lt, length-map xs f);
    end = λ e. no_tree h;
  }
