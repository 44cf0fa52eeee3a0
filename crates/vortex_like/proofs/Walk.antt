-- The state of the matcher's loop.
use Rattle.std.proofs.Common.{◌≡◌, inl, inr, ℕ, ◌+◌, ◌-◌, ◌*◌, ◌^◌, ◌≤◌, ◌<◌, Bool, true, false}
use Rattle.std.proofs.Common.{Option, Some, None, List, [], ◌∷◌, length, take, drop, get_or, refl}
use Rattle.std.proofs.Common.{ap}
use Rattle.std.proofs.Common.{subst, sym, ◌∙◌, arith, eq-eqb}
use Rattle.std.specs.Prelude.{◌↔◌, IsTrue, nat_eq, not}
use Rattle.std.specs.Str.{chars}
use Rattle.std.proofs.Math.Nat.{mul-le-mul}
use Rattle.std.proofs.lemmas.Bool.{cases_lt}
use Rattle.std.proofs.lemmas.List.{drop_all, drop_more, take_all, append-nil}
use Rattle.std.proofs.lemmas.List.Sums.{count_by_more_no, count_by_more_yes}
use denote.Ref.{Bor}
use Rattle.vortex_like.specs.Tokens.{Token, any, one, character, is_any, accepts, Match}
use Rattle.vortex_like.specs.Places.{begins_with_any, first_accepts, asked}
use Rattle.vortex_like.specs.Backs.{IsFurther}
use Rattle.vortex_like.specs.declared.matching.Place.{Place}
use Rattle.vortex_like.proofs.Counting.{steps_left, steps_any, steps_accept, steps_back}
use Rattle.vortex_like.proofs.Walking.{Stands, room, walk_start, walk_any, walk_accept, walk_back}
use Rattle.vortex_like.proofs.Walking.{ends_past, ends_before, stuck}

abbrev pub back_of : List Token → Option Place → Option (List Token × List ℕ)
back_of tokens None = None
back_of tokens (Some p) = Some (drop p.at tokens, chars p.text.now)

abbrev pub BackWithin : List Token → Option Place → Type 0
BackWithin tokens None = Unit {0}
BackWithin tokens (Some p) = p.at ≤ length tokens

-- the tokens before an index that need a character
abbrev pub asked_before : ℕ → List Token → ℕ
asked_before at tokens = asked (take at tokens)

abbrev pub BackLooked : List Token → Option Place → ℕ → Type 0
BackLooked tokens None looks = Unit {0}
BackLooked tokens (Some p) looks = asked_before p.at tokens ≤ looks

abbrev pub steps : List Token → List ℕ → ℕ → Option Place → ℕ
steps tokens whole at back =
    steps_left (length tokens) (length tokens - at) (room whole (back_of tokens back))

pub record IsWalk (fold : Bool) (tokens : List Token) (whole : List ℕ) (at : ℕ) (rest : List ℕ)
    (back : Option Place) (looks : ℕ) : Type 0 where
  pub within : at ≤ length tokens
  pub back_within : BackWithin tokens back
  pub stands : Stands fold tokens whole (drop at tokens) rest (back_of tokens back)
  pub looked : asked_before at tokens ≤ looks
  pub back_looked : BackLooked tokens back looks
  pub counted : looks + steps tokens whole at back + 1 ≤ (length whole + 1) * (length tokens + 1)
  pub unlooked : 0 < asked tokens → looks ≡ 0 → rest ≡ whole

any_is : (t : Token) → is_any t ≡ true → t ≡ any
any_is any e = refl
any_is one e = cc
any_is (character c) e = cc

-- where any sequence is next
pub any_there : (tokens : List Token) (at : ℕ) → begins_with_any (drop at tokens) ≡ true
    → (at < length tokens) × (drop at tokens ≡ any ∷ drop (at + 1) tokens)
    × (asked_before (at + 1) tokens ≡ asked_before at tokens)
any_there tokens at e =
    elim (cases_lt at (length tokens)) [
      | inl lt ↦ there lt
      | inr le ↦
          absurd (past (subst (λ (ts : List Token). begins_with_any ts ≡ true)
          (drop_all at tokens le) e))
    ]
  where
    past : false ≡ true → ⊥
    past f = cc

    there : at < length tokens
        → (at < length tokens) × (drop at tokens ≡ any ∷ drop (at + 1) tokens)
        × (asked_before (at + 1) tokens ≡ asked_before at tokens)
    there lt =
        let split = drop_more tokens at any lt in
        let sequence : is_any (get_or tokens at any) ≡ true =
        subst (λ (ts : List Token). begins_with_any ts ≡ true) split e in (
          lt,
          split
              ∙ ap (λ (t : Token). t ∷ drop (at + 1) tokens)
              (any_is (get_or tokens at any) sequence),
          count_by_more_no (λ t. not (is_any t)) tokens at any lt (ap not sequence),
        )

-- a token for one character that is next
pub record IsNext (tokens : List Token) (at : ℕ) (t : Token) : Type 0 where
  pub within : at < length tokens
  pub split : drop at tokens ≡ t ∷ drop (at + 1) tokens
  pub single : is_any t ≡ false
  pub asks : asked_before (at + 1) tokens ≡ asked_before at tokens + 1

pub next_there : (tokens : List Token) (at : ℕ) → begins_with_any (drop at tokens) ≡ false
    → at < length tokens → (t : Token) × IsNext tokens at t
next_there tokens at e lt =
    let split = drop_more tokens at any lt in
    let single : is_any (get_or tokens at any) ≡ false =
    subst (λ (ts : List Token). begins_with_any ts ≡ false) split e in (
      get_or tokens at any,
      record {
        within = lt;
        split = split;
        single = single;
        asks = count_by_more_yes (λ t. not (is_any t)) tokens at any lt (ap not single);
      },
    )

pub accepted_there : (fold : Bool) (tokens : List Token) (at c : ℕ)
    → begins_with_any (drop at tokens) ≡ false → first_accepts fold (drop at tokens) c ≡ true
    → (t : Token) × IsNext tokens at t × (accepts fold t c ≡ true)
accepted_there fold tokens at c e yes_there =
    elim (cases_lt at (length tokens)) [
      | inl lt ↦
          let n = next_there tokens at e lt in (
            n.0,
            n.1,
            subst (λ (ts : List Token). first_accepts fold ts c ≡ true) n.1.split yes_there,
          )
      | inr le ↦
          absurd
          (past (subst (λ (ts : List Token). first_accepts fold ts c ≡ true) (drop_all at tokens le)
          yes_there))
    ]
  where
    past : false ≡ true → ⊥
    past f = cc

module _ (fold : Bool) (tokens : List Token) (whole : List ℕ) where
  still_looked : (back : Option Place) {looks looks' : ℕ} → looks ≤ looks'
      → BackLooked tokens back looks → BackLooked tokens back looks'
  still_looked None le h = tt
  still_looked (Some p) le h = omega arith

  pub start : IsWalk fold tokens whole 0 whole None 0
  start = record {
    within = omega arith;
    back_within = tt;
    stands = walk_start fold tokens whole;
    looked = omega arith;
    back_looked = tt;
    counted = omega arith;
    unlooked = λ _ _. refl;
  }

  pub passes_any : (at looks : ℕ) (text : Bor (List ℕ)) (back : Option Place)
      → begins_with_any (drop at tokens) ≡ true
      → IsWalk fold tokens whole at (chars text.now) back looks
      → IsWalk fold tokens whole (at + 1) (chars text.now)
      (Some (record { at = at + 1; text = text })) looks
  passes_any at looks text back e w =
      let there = any_there tokens at e in
      let h = there.0 in
      record {
        within = omega arith;
        back_within = omega arith;
        stands =
            walk_any fold tokens whole (drop (at + 1) tokens) (chars text.now) (back_of tokens back)
            (subst
            (λ (ts : List Token).
            Stands fold tokens whole ts (chars text.now) (back_of tokens back))
            there.1 w.stands);
        looked = omega (arith, there.2, w.looked);
        back_looked = omega (arith, there.2, w.looked);
        counted =
            omega (
              arith,
              steps_any (length tokens) at (room whole (back_of tokens back))
                  (length (chars text.now))
                  h w.stands.shorter,
              w.counted,
            );
        unlooked = w.unlooked;
      }

  pub passes_one : (at c looks looks' : ℕ) (rest : List ℕ) (back : Option Place)
      → begins_with_any (drop at tokens) ≡ false → first_accepts fold (drop at tokens) c ≡ true
      → (at < length tokens → looks' ≡ looks + 1)
      → IsWalk fold tokens whole at (c ∷ rest) back looks
      → IsWalk fold tokens whole (at + 1) rest back looks'
  passes_one at c looks looks' rest back e accepted counts w =
      let there = accepted_there fold tokens at c e accepted in
      let next = there.1 in
      let more : looks' ≡ looks + 1 = counts next.within in
      record {
        within = omega (arith, next.within);
        back_within = w.back_within;
        stands =
            walk_accept fold tokens whole there.0 (drop (at + 1) tokens) c rest
            (back_of tokens back) next.single there.2
            (subst (λ (ts : List Token). Stands fold tokens whole ts (c ∷ rest)
            (back_of tokens back))
            next.split w.stands);
        looked = omega (arith, next.asks, w.looked);
        back_looked = still_looked back (omega arith) w.back_looked;
        counted =
            omega (
              arith,
              steps_accept (length tokens) at (room whole (back_of tokens back)) next.within,
              w.counted,
            );
        unlooked = λ _ none. absurd (omega arith);
      }

  -- a token that rejects a character was compared, and where none is left one was before
  pub refused_looked : (at looks looks' : ℕ) (rest : List ℕ) (back : Option Place)
      → (at < length tokens → looks' ≡ looks + 1) → looks ≤ looks'
      → IsWalk fold tokens whole at rest back looks → 0 < asked tokens → 0 < looks'
  refused_looked at looks looks' rest back counts le w some =
      elim (cases_lt at (length tokens)) [
        | inl lt ↦ omega (arith, counts lt)
        | inr past ↦
            let all : asked_before at tokens ≡ asked tokens = ap asked (take_all at tokens past) in
            omega (arith, w.looked)
      ]

  pub goes_back : (at c x looks looks' : ℕ) (rest : List ℕ) (place : Place) (later : Bor (List ℕ))
      → begins_with_any (drop at tokens) ≡ false → first_accepts fold (drop at tokens) c ≡ false
      → looks' ≤ looks + 1 → looks ≤ looks' → (at < length tokens → looks' ≡ looks + 1)
      → chars place.text.now ≡ x ∷ chars later.now
      → IsWalk fold tokens whole at (c ∷ rest) (Some place) looks
      → IsWalk fold tokens whole place.at (chars later.now)
      (Some (record { at = place.at; text = later })) looks'
  goes_back at c x looks looks' rest place later e refused le more counts split w =
      let stands =
      subst
      (λ (text : List ℕ).
      Stands fold tokens whole (drop at tokens) (c ∷ rest) (Some (drop place.at tokens, text)))
      split w.stands in
      let fewer : length (chars place.text.now) ≡ length (chars later.now) + 1 =
      ap (λ (text : List ℕ). length text) split ∙ omega arith in
      record {
        within = w.back_within;
        back_within = w.back_within;
        stands =
            walk_back fold tokens whole (drop at tokens) (drop place.at tokens) (c ∷ rest) x
            (chars later.now) (stuck fold (drop at tokens) c rest e refused) stands;
        looked = omega (arith, w.back_looked);
        back_looked = omega (arith, w.back_looked);
        counted =
            omega (
              arith,
              steps_back (length tokens) at place.at (length (chars later.now)),
              subst
                  (λ (n : ℕ).
                  looks + steps_left (length tokens) (length tokens - at) n + 1
                  ≤ (length whole + 1) * (length tokens + 1))
                  fewer w.counted,
            );
        unlooked = λ some none.
            let looked : 0 < looks' =
            refused_looked at looks looks' (c ∷ rest) (Some place) counts more w some in
            absurd (omega arith);
      }

  pub goes_further : (at c looks looks' : ℕ) (rest : List ℕ) (back : Option Place) (place : Place)
      → begins_with_any (drop at tokens) ≡ false → first_accepts fold (drop at tokens) c ≡ false
      → looks' ≤ looks + 1 → looks ≤ looks' → (at < length tokens → looks' ≡ looks + 1)
      → IsFurther back place
      → IsWalk fold tokens whole at (c ∷ rest) back looks
      → IsWalk fold tokens whole place.at (chars place.text.now) (Some place) looks'
  goes_further at c looks looks' rest None place e refused le more counts further w =
      absurd further
  goes_further at c looks looks' rest (Some from) place e refused le more counts further w =
      subst
      (λ (n : ℕ).
      IsWalk fold tokens whole n (chars place.text.now)
      (Some (record { at = n; text = place.text })) looks')
      (sym further.0)
      (goes_back at c further.1.0 looks looks' rest from place.text e refused le more counts
      further.1.1 w)

  -- a sequence at the end matches what is left
  pub ends_any : (at looks : ℕ) (text : Bor (List ℕ)) (back : Option Place)
      → begins_with_any (drop at tokens) ≡ true → at + 1 ≡ length tokens
      → IsWalk fold tokens whole at (chars text.now) back looks
      → Match fold tokens whole × (asked tokens ≤ looks)
  ends_any at looks text back e last w =
      let there = any_there tokens at e in
      let all : asked_before (at + 1) tokens ≡ asked tokens =
      ap asked (take_all (at + 1) tokens (omega arith)) in
      let only : drop at tokens ≡ any ∷ [] =
      there.1 ∙ ap (λ (ts : List Token). any ∷ ts) (drop_all (at + 1) tokens (omega arith)) in (
        w.stands.sound
            (inl
            (subst (λ (ts : List Token). Match fold ts (chars text.now)) (sym only)
            (chars text.now, [], sym (append-nil (chars text.now)), refl))),
        omega (arith, w.looked, there.2, all),
      )

  pub ends : (at looks : ℕ) (back : Option Place) → begins_with_any (drop at tokens) ≡ false
      → IsWalk fold tokens whole at [] back looks
      → IsTrue (nat_eq at (length tokens)) ↔ Match fold tokens whole
  ends at looks back e w = (
    λ h. past (same h),
    λ m. elim (cases_lt at (length tokens)) [
      | inl lt ↦ absurd (before lt m)
      | inr le ↦ eq-eqb at (length tokens) (omega (arith, w.within))
    ],
  )
    where
      same : IsTrue (nat_eq at (length tokens)) → at ≡ length tokens
      same h = grind arith

      past : at ≡ length tokens → Match fold tokens whole
      past q =
          ends_past fold tokens whole (back_of tokens back)
          (subst (λ (ts : List Token). Stands fold tokens whole ts [] (back_of tokens back))
          (drop_all at tokens (omega arith)) w.stands)

      before : at < length tokens → Match fold tokens whole → ⊥
      before lt m =
          let n = next_there tokens at e lt in
          ends_before fold tokens whole n.0 (drop (at + 1) tokens) (back_of tokens back) n.1.single
          (subst (λ (ts : List Token). Stands fold tokens whole ts [] (back_of tokens back))
          n.1.split w.stands) m

  pub ends_looked : (at looks : ℕ) (rest : List ℕ) (back : Option Place)
      → IsWalk fold tokens whole at rest back looks → IsTrue (nat_eq at (length tokens))
      → asked tokens ≤ looks
  ends_looked at looks rest back w h =
      let same : at ≡ length tokens = grind arith in
      let all : asked_before at tokens ≡ asked tokens =
      ap asked (take_all at tokens (omega arith)) in
      omega (arith, w.looked)

  -- at the end of a text that is not empty
  pub end_looked : (at looks : ℕ) (back : Option Place) → IsWalk fold tokens whole at [] back looks
      → 0 < asked tokens → (whole ≡ [] → ⊥) → 0 < looks
  end_looked at looks back w some full =
      elim (cases_lt 0 looks) [
        | inl lt ↦ lt
        | inr le ↦ absurd (full (sym (w.unlooked some (omega arith))))
      ]

  pub can_look : (at looks : ℕ) (rest : List ℕ) (back : Option Place) → length whole < 2 ^ 64
      → length tokens < 2 ^ 64 → IsWalk fold tokens whole at rest back looks
      → at < length tokens → looks < 2 ^ 128 - 1
  can_look at looks rest back few_characters few_tokens w lt =
      let a : length whole + 1 ≤ 2 ^ 64 = omega arith in
      let b : length tokens + 1 ≤ 2 ^ 64 = omega arith in
      omega (arith, w.counted, mul-le-mul a b)
