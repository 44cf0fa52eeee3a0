-- The matcher's walk over a text, with the one place to which it can go back.
use Rattle.std.proofs.Common.{◌≡◌, ◌⊎◌, inl, inr, ℕ, zero, suc, ◌+◌, ◌≤◌, Bool, true, false}
use Rattle.std.proofs.Common.{Option, Some, None, List, [], ◌∷◌, length, take, drop, refl, sym}
use Rattle.std.proofs.Common.{ap, subst, ◌∙◌, arith, add-one}
use Rattle.std.proofs.Math.Seq.{drop-append_seam}
use Rattle.std.proofs.lemmas.List.{take-append-drop, drop-drop}
use Rattle.vortex_like.specs.Tokens.{Token, any, one, character, is_any, accepts, Match}
use Rattle.vortex_like.specs.Places.{begins_with_any, first_accepts}

-- a match after the last `%` that begins later than the backtracking point
abbrev pub MatchesLater : Bool → Option (List Token × List ℕ) → Type 0
MatchesLater fold None = ⊥
MatchesLater fold (Some p) = (j : ℕ) × Match fold p.0 (drop (suc j) p.1)

-- what matches there after that many more characters: its rest matches here after as many
abbrev pub Follows : Bool → List Token → List ℕ → Option (List Token × List ℕ) → Type 0
Follows fold left rest None = Unit {0}
Follows fold left rest (Some p) =
    (j : ℕ) → Match fold p.0 (drop j p.1) → Match fold left (drop j rest)

-- how many characters there are from the backtracking point on
abbrev pub room : List ℕ → Option (List Token × List ℕ) → ℕ
room whole None = length whole
room whole (Some p) = length p.1

-- the tokens match the whole text exactly where the remaining ones match its rest, or match later
pub record Stands (fold : Bool) (tokens : List Token) (whole : List ℕ) (left : List Token)
    (rest : List ℕ) (back : Option (List Token × List ℕ)) : Type 0 where
  pub sound : Match fold left rest ⊎ MatchesLater fold back → Match fold tokens whole
  pub complete : Match fold tokens whole → Match fold left rest ⊎ MatchesLater fold back
  pub follows : Follows fold left rest back
  pub shorter : length rest ≤ room whole back

module _ (fold : Bool) where
  pub any_after : (ts : List Token) (text : List ℕ) → Match fold (any ∷ ts) text
      → (j : ℕ) × Match fold ts (drop j text)
  any_after ts text h = (
    length h.0,
    subst (λ (t : List ℕ). Match fold ts t)
        (sym (ap (λ (t : List ℕ). drop (length h.0) t) h.2 ∙ drop-append_seam h.0 h.1)) h.3,
  )

  pub after_any : (ts : List Token) (text : List ℕ) (j : ℕ) → Match fold ts (drop j text)
      → Match fold (any ∷ ts) text
  after_any ts text j m = (take j text, drop j text, sym (take-append-drop j text), m)

  -- a token for one character
  pub tail_match : (t : Token) (ts : List Token) (text : List ℕ) → is_any t ≡ false
      → Match fold (t ∷ ts) text → Match fold ts (drop 1 text)
  tail_match any ts text e h = cc
  tail_match one ts text e h =
      subst (λ (s : List ℕ). Match fold ts s) (sym (ap (λ (s : List ℕ). drop 1 s) h.2)) h.3
  tail_match (character own) ts text e h =
      subst (λ (s : List ℕ). Match fold ts s) (sym (ap (λ (s : List ℕ). drop 1 s) h.2)) h.4

  pub cons_match : (t : Token) (ts : List Token) (c : ℕ) (rest : List ℕ) → is_any t ≡ false
      → accepts fold t c ≡ true → Match fold ts rest → Match fold (t ∷ ts) (c ∷ rest)
  cons_match any ts c rest e a m = cc
  cons_match one ts c rest e a m = (c, rest, refl, m)
  cons_match (character own) ts c rest e a m = (c, rest, refl, a, m)

  pub no_match_of_nothing : (t : Token) (ts : List Token) → is_any t ≡ false
      → Match fold (t ∷ ts) [] → ⊥
  no_match_of_nothing any ts e h = cc
  no_match_of_nothing one ts e h = let f = h.2 in cc
  no_match_of_nothing (character own) ts e h = let f = h.2 in cc

  pub stuck : (ts : List Token) (c : ℕ) (rest : List ℕ) → begins_with_any ts ≡ false
      → first_accepts fold ts c ≡ false → Match fold ts (c ∷ rest) → ⊥
  stuck [] c rest e a h = cc
  stuck (any ∷ ts) c rest e a h = cc
  stuck (one ∷ ts) c rest e a h = cc
  stuck (character own ∷ ts) c rest e a h = let f = h.2 in let g = h.3 in cc

module _ (fold : Bool) (tokens : List Token) (whole : List ℕ) where
  pub walk_start : Stands fold tokens whole tokens whole None
  walk_start = record {
    sound = λ h. by h;
    complete = λ m. inl m;
    follows = tt;
    shorter = omega arith;
  }
    where
      by : Match fold tokens whole ⊎ ⊥ → Match fold tokens whole
      by (inl m) = m
      by (inr h) = absurd h

  pub walk_any : (ts : List Token) (rest : List ℕ) (back : Option (List Token × List ℕ))
      → Stands fold tokens whole (any ∷ ts) rest back
      → Stands fold tokens whole ts rest (Some (ts, rest))
  walk_any ts rest back s = record {
    sound = λ h. s.sound (inl (wider h));
    complete = λ m. next back s.follows (s.complete m);
    follows = λ j m. m;
    shorter = omega arith;
  }
    where
      wider : Match fold ts rest ⊎ MatchesLater fold (Some (ts, rest))
          → Match fold (any ∷ ts) rest
      wider (inl m) = after_any fold ts rest 0 m
      wider (inr h) = after_any fold ts rest (suc h.0) h.1

      here : (j : ℕ) → Match fold ts (drop j rest)
          → Match fold ts rest ⊎ MatchesLater fold (Some (ts, rest))
      here zero m = inl m
      here (suc j) m = inr (j, m)

      next : (b : Option (List Token × List ℕ)) → Follows fold (any ∷ ts) rest b
          → Match fold (any ∷ ts) rest ⊎ MatchesLater fold b
          → Match fold ts rest ⊎ MatchesLater fold (Some (ts, rest))
      next b f (inl m) = let a = any_after fold ts rest m in here a.0 a.1
      next None f (inr h) = absurd h
      next (Some p) f (inr h) =
          let a = any_after fold ts (drop (suc h.0) rest) (f (suc h.0) h.1) in
          here (suc h.0 + a.0)
          (subst (λ (t : List ℕ). Match fold ts t) (drop-drop a.0 (suc h.0) rest) a.1)

  pub walk_accept : (t : Token) (ts : List Token) (c : ℕ) (rest : List ℕ)
      (back : Option (List Token × List ℕ)) → is_any t ≡ false → accepts fold t c ≡ true
      → Stands fold tokens whole (t ∷ ts) (c ∷ rest) back → Stands fold tokens whole ts rest back
  walk_accept t ts c rest back single accepted s = record {
    sound = λ h. s.sound (wider h);
    complete = λ m. narrower (s.complete m);
    follows = after back s.follows;
    shorter = omega (arith, s.shorter);
  }
    where
      wider : Match fold ts rest ⊎ MatchesLater fold back
          → Match fold (t ∷ ts) (c ∷ rest) ⊎ MatchesLater fold back
      wider (inl m) = inl (cons_match fold t ts c rest single accepted m)
      wider (inr h) = inr h

      narrower : Match fold (t ∷ ts) (c ∷ rest) ⊎ MatchesLater fold back
          → Match fold ts rest ⊎ MatchesLater fold back
      narrower (inl m) = inl (tail_match fold t ts (c ∷ rest) single m)
      narrower (inr h) = inr h

      after : (b : Option (List Token × List ℕ)) → Follows fold (t ∷ ts) (c ∷ rest) b
          → Follows fold ts rest b
      after None f = tt
      after (Some p) f = λ j m.
          subst (λ (x : List ℕ). Match fold ts x)
          (drop-drop 1 j (c ∷ rest) ∙ ap (λ (n : ℕ). drop n (c ∷ rest)) (add-one j))
          (tail_match fold t ts (drop j (c ∷ rest)) single (f j m))

  pub walk_back : (left again : List Token) (rest : List ℕ) (x : ℕ) (later : List ℕ)
      → (Match fold left rest → ⊥)
      → Stands fold tokens whole left rest (Some (again, x ∷ later))
      → Stands fold tokens whole again later (Some (again, later))
  walk_back left again rest x later stuck_here s = record {
    sound = λ h. s.sound (inr (wider h));
    complete = λ m. next (s.complete m);
    follows = λ j m. m;
    shorter = omega arith;
  }
    where
      wider : Match fold again later ⊎ MatchesLater fold (Some (again, later))
          → MatchesLater fold (Some (again, x ∷ later))
      wider (inl m) = (0, m)
      wider (inr h) = (suc h.0, h.1)

      here : (j : ℕ) → Match fold again (drop j later)
          → Match fold again later ⊎ MatchesLater fold (Some (again, later))
      here zero m = inl m
      here (suc j) m = inr (j, m)

      next : Match fold left rest ⊎ MatchesLater fold (Some (again, x ∷ later))
          → Match fold again later ⊎ MatchesLater fold (Some (again, later))
      next (inl m) = absurd (stuck_here m)
      next (inr h) = here h.0 h.1

  pub ends_past : (back : Option (List Token × List ℕ)) → Stands fold tokens whole [] [] back
      → Match fold tokens whole
  ends_past back s = s.sound (inl refl)

  pub ends_before : (t : Token) (ts : List Token) (back : Option (List Token × List ℕ))
      → is_any t ≡ false → Stands fold tokens whole (t ∷ ts) [] back
      → Match fold tokens whole → ⊥
  ends_before t ts back single s m = by back s.follows (s.complete m)
    where
      by : (b : Option (List Token × List ℕ)) → Follows fold (t ∷ ts) [] b
          → Match fold (t ∷ ts) [] ⊎ MatchesLater fold b → ⊥
      by b f (inl h) = no_match_of_nothing fold t ts single h
      by None f (inr h) = h
      by (Some p) f (inr h) = no_match_of_nothing fold t ts single (f (suc h.0) h.1)
