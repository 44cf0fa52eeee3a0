-- Where the tokens of a text begin.
use Rattle.std.proofs.Common.{◌≡◌, ℕ, ◌+◌, ◌<◌, ◌≤◌, List, [], ◌∷◌, ◌++◌, length, get_or, Some}
use Rattle.std.proofs.Common.{None, refl, ap, sym, subst, ◌∙◌, below_more, arith, length-append}
use Rattle.std.proofs.lemmas.List.{get_or_append_left, get_or_past}
use Rattle.std.proofs.Math.Seq.{get_or-append_seam}
use Rattle.vortex_syntax.specs.Tokens.{Token}
use Rattle.vortex_syntax.specs.Pieces.{gap, token, first_piece}
use Rattle.vortex_syntax.specs.Refusals.{Reaches, nothing, gap_first, token_first, StandsAt}
use Rattle.vortex_syntax.specs.Refusals.{HasNoToken}
use Rattle.vortex_syntax.proofs.Lexed.{piece_of}

pub to_gap : {text now rest : List ℕ} {ts : List Token} → Reaches text ts now
    → first_piece now ≡ Some (gap, rest) → Reaches text ts rest
to_gap nothing h = gap_first h nothing
to_gap (gap_first k r) h = gap_first k (to_gap r h)
to_gap (token_first k r) h = token_first k (to_gap r h)

pub to_token : {text now rest : List ℕ} {ts : List Token} {t : Token} → Reaches text ts now
    → first_piece now ≡ Some (token t, rest) → Reaches text (ts ++ (t ∷ [])) rest
to_token nothing h = token_first h nothing
to_token (gap_first k r) h = gap_first k (to_token r h)
to_token (token_first k r) h = token_first k (to_token r h)

-- the tokens so far, each at its place, before the rest
pub record Placed (text : List ℕ) (ts : List Token) (places : List ℕ) (end : ℕ)
    (rest : List ℕ) : Type 0 where
  pub reached : Reaches text ts rest
  pub count : length places ≡ length ts
  pub ends : end ≡ length text
  pub each : (n : ℕ) → n < length ts → StandsAt text n (get_or places n end)

pub none_placed : (text : List ℕ) → Placed text [] [] (length text) text
none_placed text = record {
  reached = nothing;
  count = refl;
  ends = refl;
  each = λ n lt. absurd (let k : ⊥ = omega (arith, lt) in k);
}

nothing_left : (now : List ℕ) → length now ≡ 0 → (r : List ℕ) → first_piece now ≡ Some (gap, r) → ⊥
unfolding first_piece
nothing_left [] e r k = cc
nothing_left (b ∷ bs) e r k = omega (arith, e)

module _ (text : List ℕ) (ts : List Token) (places : List ℕ) (end : ℕ) (now : List ℕ) where
  pub placed_gap : (rest : List ℕ) → first_piece now ≡ Some (gap, rest)
      → Placed text ts places end now → Placed text ts places end rest
  placed_gap rest h p = record {
    reached = to_gap p.reached h;
    count = p.count;
    ends = p.ends;
    each = p.each;
  }

  here : (rest : List ℕ) (t : Token) (place : ℕ) → first_piece now ≡ Some (token t, rest)
      → place + length now ≡ length text → Placed text ts places end now
      → StandsAt text (length ts) place
  here rest t place h e p = record {
    before = ts;
    rest = now;
    reached = p.reached;
    count = refl;
    place = e;
    no_gap = λ r k. absurd (let both : token t ≡ gap = ap piece_of (sym h ∙ k) in cc);
  }

  pub placed_token : (rest : List ℕ) (t : Token) (place : ℕ)
      → first_piece now ≡ Some (token t, rest) → place + length now ≡ length text
      → Placed text ts places end now
      → Placed text (ts ++ (t ∷ [])) (places ++ (place ∷ [])) end rest
  placed_token rest t place h e p = record {
    reached = to_token p.reached h;
    count = omega (arith, length-append places (place ∷ []), length-append ts (t ∷ []), p.count);
    ends = p.ends;
    each = λ n lt.
        below_more (λ k. StandsAt text k (get_or (places ++ (place ∷ [])) k end)) (length ts)
        (λ k le. subst (StandsAt text k)
        (sym (get_or_append_left places (place ∷ []) end k (omega (arith, le, p.count))))
        (p.each k le))
        (subst (λ k. StandsAt text (length ts) (get_or (places ++ (place ∷ [])) k end)) p.count
        (subst (StandsAt text (length ts)) (sym (get_or-append_seam places place [] end))
        (here rest t place h e p)))
        n (omega (arith, lt, length-append ts (t ∷ [])));
  }

  pub no_token : (place : ℕ) → 0 < length now → first_piece now ≡ None
      → place + length now ≡ length text → Placed text ts places end now → HasNoToken text place
  no_token place more h e p =
      record { before = ts; rest = now; reached = p.reached; place = e; more = more; none = h }

  at_end : length now ≡ 0 → Placed text ts places end now
      → StandsAt text (length ts) (get_or places (length ts) end)
  at_end e p = subst (StandsAt text (length ts))
      (sym (get_or_past places (length ts) end (omega (arith, p.count)))) (record {
        before = ts;
        rest = now;
        reached = p.reached;
        count = refl;
        place = omega (arith, e, p.ends);
        no_gap = nothing_left now e;
      })

  pub all_placed : length now ≡ 0 → Placed text ts places end now
      → (n : ℕ) → n ≤ length ts → StandsAt text n (get_or places n end)
  all_placed e p n le =
      below_more (λ k. StandsAt text k (get_or places k end)) (length ts) p.each (at_end e p) n
      (omega (arith, le))
