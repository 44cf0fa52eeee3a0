-- The token at which brackets nest too deep.
use Rattle.std.proofs.Common.{◌≡◌, ℕ, ◌+◌, ◌<◌, List, [], ◌∷◌, ◌++◌, length, map, take, get_or}
use Rattle.std.proofs.Common.{true, false, refl, ap, sym, ◌∙◌, arith}
use Rattle.std.proofs.lemmas.List.{append-nil, map_more, take-map, length-map}
use Rattle.vortex_syntax.specs.declared.token.Sign.TheVariants as sign
use Rattle.vortex_syntax.specs.Tokens.{Token, function, sign}
use Rattle.vortex_syntax.specs.Nesting.{nesting_limit, opens, nests_from, nests}
use Rattle.vortex_syntax.specs.Refusals.{NestsTooDeepAt}

one_deeper : (d : ℕ) (t : Token) → opens t ≡ true → d ≡ nesting_limit
    → nests_from d (t ∷ []) ≡ false
one_deeper d (sign sign.Open) e k = rw k refl
one_deeper d (function w) e k = rw k refl
one_deeper d t e k = absurd cc

pub too_deep_at : {A : Type 0} (f : A → Token) (xs : List A) (i : ℕ) (x : A) (d : ℕ)
    → i < length xs → ((us : List Token) → nests (map f (take i xs) ++ us) ≡ nests_from d us)
    → opens (f (get_or xs i x)) ≡ true → d ≡ nesting_limit → NestsTooDeepAt (map f xs) i
too_deep_at f xs i x d lt so_far e k = record {
  within = omega (arith, lt, length-map xs f);
  before = ap nests (take-map f i xs ∙ sym (append-nil (map f (take i xs)))) ∙ so_far [];
  too_deep = ap nests (take-map f (i + 1) xs ∙ map_more f xs i x lt)
      ∙ so_far (f (get_or xs i x) ∷ []) ∙ one_deeper d (f (get_or xs i x)) e k;
}
