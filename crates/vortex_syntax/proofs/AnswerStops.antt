-- The token at which a list of answers stops.
use Rattle.std.proofs.Common.{◌≡◌, ℕ, ◌+◌, ◌-◌, ◌≤◌, List, ◌∷◌, length, map, take, drop, Some, ap}
use Rattle.std.proofs.Common.{sym, subst, ◌∙◌, arith, length-append, zero-add}
use Rattle.std.proofs.lemmas.List.{length-map, length-take-le}
use Rattle.vortex_syntax.specs.declared.error.SyntaxError.{SyntaxError}
use Rattle.vortex_syntax.specs.declared.error.SyntaxError.TheVariants.{NoToken, Unexpected, TooDeep}
use Rattle.vortex_syntax.specs.declared.error.SyntaxError.TheVariants.{OutOfMemory}
use Rattle.vortex_syntax.specs.declared.places.TokenPlaces.{TokenPlaces}
use Rattle.vortex_syntax.specs.declared.token.Sign.TheVariants as sign
use Rattle.vortex_syntax.specs.Tokens.{Token, sign}
use Rattle.vortex_syntax.specs.AnswerLists.{Told}
use Rattle.vortex_syntax.specs.AnswerParts.{answer_parts, answer_of}
use Rattle.vortex_syntax.specs.Refusals.{TreeStopsAt, tree_tokens, PartsStopAt, first, later}
use Rattle.vortex_syntax.specs.Refusals.{ListStopsAt, NamesPlace, place_in}
use Rattle.vortex_syntax.proofs.AnswerNames.{answer_found, tree_within}
use Rattle.vortex_syntax.proofs.AnswerSplits as splits
use Rattle.vortex_syntax.proofs.AnswerSplits.{Parts, parts_of}

-- it is one of the list's, or the end
within_parts : {ts : List Token} {ps : List (List Token)} {n : ℕ} → Parts ts ps → PartsStopAt ps n
    → n ≤ length ts
within_parts {ts = ts} splits.whole (first h) = omega (arith, h.within, tree_within ts)
within_parts splits.whole (later s h) = elim h [ ]
within_parts (splits.first {vs = vs} us e p) (first h) =
    omega (arith, h.within, tree_within us, ap length e, length-append us (sign sign.Comma ∷ vs))
within_parts (splits.first {vs = vs} us e p) (later s h) =
    omega (arith, within_parts p h, ap length e, length-append us (sign sign.Comma ∷ vs))

pub within : (ts : List Token) (n : ℕ) → ListStopsAt ts n → n ≤ length ts
within ts n h = within_parts (parts_of ts) h

-- numbers of tokens in a part are numbers in the whole list, shifted
pub names_more : (P Q : ℕ → Type 0) (p q : TokenPlaces) (i : ℕ)
    → ((n : ℕ) → P n → Q (i + n))
    → ((n : ℕ) → place_in p n ≡ place_in q (i + n)) → (e : SyntaxError)
    → NamesPlace P p e → NamesPlace Q q e
names_more P Q p q i f k (NoToken b) h = absurd h
names_more P Q p q i f k (Unexpected b x) h = (i + h.0, f h.0 h.1, h.2 ∙ k h.0)
names_more P Q p q i f k (TooDeep b) h = absurd h
names_more P Q p q i f k OutOfMemory h = tt

-- the whole list stops where the tokens from i on do
abbrev pub StopsWith : List Token → ℕ → List Token → Type 0
StopsWith all i ts = (n : ℕ) → ListStopsAt ts n → ListStopsAt all (i + n)

pub stops_with_all : (all ts : List Token) → ts ≡ all → StopsWith all 0 ts
stops_with_all all ts e n h =
    subst (λ (m : ℕ). ListStopsAt all m) (sym (zero-add n))
    (subst (λ (us : List Token). ListStopsAt us n) e h)

pub stops_first : (all : List Token) (i : ℕ) (ts p : List Token) (ps : List (List Token))
    → answer_parts ts ≡ p ∷ ps → StopsWith all i ts
    → (n : ℕ) → TreeStopsAt (tree_tokens p) n → ListStopsAt all (i + n)
stops_first all i ts p ps cut so_far n h =
    so_far n (subst (λ (qs : List (List Token)). PartsStopAt qs n) (sym cut) (first h))

pub stops_later : (all : List Token) (i : ℕ) (ts p us : List Token) (x : Told) (k : ℕ)
    → answer_parts ts ≡ p ∷ answer_parts us → answer_of p ≡ Some x
    → length p ≡ k → StopsWith all i ts → StopsWith all (i + (k + 1)) us
stops_later all i ts p us x k cut answer count so_far n h =
    let a = answer_found p x answer in
    let here : ListStopsAt ts (length p + 1 + n) =
    subst (λ (qs : List (List Token)). PartsStopAt qs (length p + 1 + n)) (sym cut)
    (later a.1 h) in
    subst (λ (m : ℕ). ListStopsAt all m)
    (let e : i + (length p + 1 + n) ≡ i + (k + 1) + n = omega (arith, count) in e)
    (so_far (length p + 1 + n) here)

pub part_length : {A : Type 0} (f : A → Token) (xs : List A) (i n : ℕ)
    → n ≤ length (drop i xs) → length (map f (take (i + n - i) (drop i xs))) ≡ n
part_length f xs i n le =
    length-map (take (i + n - i) (drop i xs)) f
    ∙ length-take-le (i + n - i) (drop i xs) (omega (arith, le))
    ∙ (let e : i + n - i ≡ n = omega arith in e)
