-- Why a whole text fails.
use Rattle.std.proofs.Common.{◌≡◌, ℕ, ◌≤◌, true, List, length, sym, subst, Result, Ok, Err, IfErr}
use Rattle.vortex_syntax.specs.declared.error.SyntaxError.{SyntaxError}
use Rattle.vortex_syntax.specs.declared.error.SyntaxError.TheVariants.{NoToken, Unexpected, TooDeep}
use Rattle.vortex_syntax.specs.declared.error.SyntaxError.TheVariants.{OutOfMemory}
use Rattle.vortex_syntax.specs.declared.places.TokenPlaces.{TokenPlaces}
use Rattle.vortex_syntax.specs.Tokens.{Token}
use Rattle.vortex_syntax.specs.Lexing.{Lexes}
use Rattle.vortex_syntax.specs.Nesting.{nests}
use Rattle.vortex_syntax.specs.Refusals.{StandsAt, HasNoTokens, RefusesBy, NamesPlace, place_in}

pub if_err : {X : Type 0} (P Q : SyntaxError → Type 0) → ((e : SyntaxError) → P e → Q e)
    → (r : Result X SyntaxError) → IfErr r P → IfErr r Q
if_err P Q f (Ok x) h = tt
if_err P Q f (Err e) h = f e h

module _ (text : List ℕ) (Stops : List Token → ℕ → Type 0) where
  -- a text without tokens
  pub by_tokens : (e : SyntaxError) → HasNoTokens text e → RefusesBy Stops text e
  by_tokens (NoToken b) h = h
  by_tokens (Unexpected b x) h = absurd h
  by_tokens (TooDeep b) h = absurd h
  by_tokens OutOfMemory h = tt

  -- tokens that stop at a byte
  pub by_places : (ts : List Token) (places : TokenPlaces) → Lexes text ts → nests ts ≡ true
      → ((n : ℕ) → Stops ts n → n ≤ length ts)
      → ((n : ℕ) → n ≤ length ts → StandsAt text n (place_in places n))
      → (e : SyntaxError) → NamesPlace (Stops ts) places e → RefusesBy Stops text e
  by_places ts places l n within stands (NoToken b) h = absurd h
  by_places ts places l n within stands (Unexpected b x) h = record {
    ts = ts;
    number = h.0;
    lexed = l;
    stops = (n, h.1);
    stands = subst (λ (m : ℕ). StandsAt text h.0 m) (sym h.2) (stands h.0 (within h.0 h.1));
  }
  by_places ts places l n within stands (TooDeep b) h = absurd h
  by_places ts places l n within stands OutOfMemory h = tt
