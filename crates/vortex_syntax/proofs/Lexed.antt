-- A text is read piece by piece.
use Rattle.std.proofs.Common.{◌≡◌, ℕ, ◌<◌, ◌≤◌, rules, arith, true, ◌==◌, List, [], ◌∷◌, ◌++◌}
use Rattle.std.proofs.Common.{length, Some, None, refl, ap, sym, subst, ◌∙◌, append_assoc}
use Rattle.std.proofs.lemmas.Bool.{eqb-true}
use Rattle.std.proofs.lemmas.List.{append-nil}
use Rattle.vortex_syntax.specs.Tokens.{Token}
use Rattle.vortex_syntax.specs.Pieces.{Piece, gap, token, Cut, first_piece}
use Rattle.vortex_syntax.specs.Lexing.{Lexes, none, gap_first, token_first}

-- the text is the tokens so far, and those of the rest
pub record SoFar (text : List ℕ) (ts : List Token) (rest : List ℕ) : Type 0 where
  pub within : length rest ≤ length text
  pub whole : (us : List Token) → Lexes rest us → Lexes text (ts ++ us)
  pub only : (vs : List Token) → Lexes text vs → (us : List Token) × (vs ≡ ts ++ us) × Lexes rest us

pub begins : (text : List ℕ) → SoFar text [] text
begins text = record { within = search rules; whole = λ us h. h; only = λ vs h. (vs, refl, h) }

abbrev rest_of : List ℕ → Cut → List ℕ
rest_of xs None = xs
rest_of xs (Some x) = x.1

abbrev pub piece_of : Cut → Piece
piece_of None = gap
piece_of (Some x) = x.0

abbrev cut : Piece → List ℕ → Cut
cut p xs = Some (p, xs)

-- bytes that begin with a gap, with a token, and with neither
pub after_gap : {text rest : List ℕ} {vs : List Token} → Lexes text vs
    → first_piece text ≡ Some (gap, rest) → Lexes rest vs
unfolding first_piece
after_gap none h = absurd cc
after_gap {rest = rest} (gap_first {rest = r} {ts = ts} k l) h =
    subst (λ (xs : List ℕ). Lexes xs ts) (ap (rest_of []) (sym k ∙ h)) l
after_gap {rest = rest} (token_first {rest = r} {t = t} k l) h =
    absurd (let e : token t ≡ gap = ap piece_of (sym k ∙ h) in cc)

token_is : (t u : Token) → token t ≡ token u → t ≡ u
token_is t u h = cc

pub after_token : {text rest : List ℕ} {t : Token} {vs : List Token} → Lexes text vs
    → first_piece text ≡ Some (token t, rest) → (us : List Token) × (vs ≡ t ∷ us) × Lexes rest us
unfolding first_piece
after_token none h = absurd cc
after_token {t = t} (gap_first k l) h =
    absurd (let e : gap ≡ token t = ap piece_of (sym k ∙ h) in cc)
after_token {t = t} (token_first {rest = r} {t = u} {ts = ts} k l) h = (
  ts,
  ap (λ (v : Token). v ∷ ts) (token_is u t (ap piece_of (sym k ∙ h))),
  subst (λ (xs : List ℕ). Lexes xs ts) (ap (rest_of []) (sym k ∙ h)) l,
)

pub no_piece : {text : List ℕ} {vs : List Token} (b : ℕ) (bs : List ℕ) → Lexes text vs
    → text ≡ b ∷ bs → first_piece text ≡ None → ⊥
no_piece b bs none e h = cc
no_piece b bs (gap_first k l) e h = let f = sym k ∙ h in cc
no_piece b bs (token_first k l) e h = let f = sym k ∙ h in cc

-- a text is at most one list of tokens
pub one_list : {text : List ℕ} {ts vs : List Token} → Lexes text ts → Lexes text vs → ts ≡ vs
unfolding first_piece
one_list none none = refl
one_list none (gap_first k l) = absurd cc
one_list none (token_first k l) = absurd cc
one_list (gap_first k l) m = one_list l (after_gap m k)
one_list (token_first {t = t} k l) m = let r = after_token m k in
    ap (λ (us : List Token). t ∷ us) (one_list l r.2) ∙ sym r.1

-- no tokens are read where no piece begins
pub stuck : (text : List ℕ) (ts : List Token) (now : List ℕ) → SoFar text ts now
    → 0 < length now → first_piece now ≡ None → (vs : List Token) → ¬ Lexes text vs
stuck text ts [] s lt h vs l = omega (arith, lt)
stuck text ts (b ∷ bs) s lt h vs l = no_piece b bs (s.only vs l).2 refl h

pub to_gap : (text : List ℕ) (ts : List Token) (now rest : List ℕ)
    → first_piece now ≡ Some (gap, rest) → length rest < length now → SoFar text ts now
    → SoFar text ts rest
to_gap text ts now rest h lt s = record {
  within = omega (arith, lt, s.within);
  whole = λ us l. s.whole us (gap_first h l);
  only = λ vs l. let r = s.only vs l in (r.0, r.1, after_gap r.2 h);
}

pub to_token : (text : List ℕ) (ts : List Token) (now rest : List ℕ) (t : Token)
    → first_piece now ≡ Some (token t, rest) → length rest < length now → SoFar text ts now
    → SoFar text (ts ++ t ∷ []) rest
to_token text ts now rest t h lt s = record {
  within = omega (arith, lt, s.within);
  whole = λ us l. subst (λ (vs : List Token). Lexes text vs) (sym (append_assoc ts (t ∷ []) us))
      (s.whole (t ∷ us) (token_first h l));
  only = λ vs l.
      let r = s.only vs l in
      let n = after_token r.2 h in
      (n.0, r.1 ∙ ap (λ (us : List Token). ts ++ us) n.1 ∙ sym (append_assoc ts (t ∷ []) n.0), n.2);
}

pub at_end : (text : List ℕ) (ts : List Token) → SoFar text ts [] → Lexes text ts
at_end text ts s = subst (λ (vs : List Token). Lexes text vs) (append-nil ts) (s.whole [] none)

no_items : (xs : List ℕ) → true ≡ (length xs == 0) → xs ≡ []
no_items [] h = refl
no_items (x ∷ xs) h =
    absurd (let k : length (x ∷ xs) ≡ 0 = eqb-true (length (x ∷ xs)) 0 (sym h) in
    let j : ⊥ = omega (arith, k) in j)

pub ended : (text : List ℕ) (ts : List Token) (rest : List ℕ) → true ≡ (length rest == 0)
    → SoFar text ts rest → Lexes text ts
ended text ts rest h s =
    at_end text ts (subst (λ (xs : List ℕ). SoFar text ts xs) (no_items rest h) s)
