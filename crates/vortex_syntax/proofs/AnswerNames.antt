-- An answer's name: its last token, where `as` comes before it.
use Rattle.std.proofs.Common.{◌≡◌, ◌&&◌, ◌++◌, ◌∷◌, [], Bool, true, cond, List, length, map}
use Rattle.std.proofs.Common.{reverse, Option, Some, None, IfSome, refl, ap, sym, ◌∙◌, arith, ◌≤◌}
use Rattle.std.proofs.Common.{length-append}
use Rattle.std.proofs.lemmas.List.{append-nil, map-append, reverse-append, reverse-reverse}
use Rattle.vortex_syntax.specs.declared.token.Sign.TheVariants as sign
use Rattle.vortex_syntax.specs.declared.frame.Mode.TheVariants as mode
use Rattle.vortex_syntax.specs.Tokens.{Token, sign}
use Rattle.vortex_syntax.specs.Syntax.{Syntax}
use Rattle.vortex_syntax.specs.Levels.{Fits}
use Rattle.vortex_syntax.specs.Spelling.{spelling}
use Rattle.vortex_syntax.specs.Postfix.{Step, postfix}
use Rattle.vortex_syntax.specs.Reading.{state, steps_of}
use Rattle.vortex_syntax.specs.AnswerLists.{Answer, is_name, name_tokens, SpellsAnswer, Told, told}
use Rattle.vortex_syntax.specs.AnswerParts.{is_as, name_back, split_name, told_as, split_answer}
use Rattle.vortex_syntax.specs.AnswerParts.{answer_of}
use Rattle.vortex_syntax.specs.Refusals.{unless_named, tree_tokens}
use Rattle.vortex_syntax.proofs.Complete.{whole_read}
use Rattle.vortex_syntax.proofs.Sound.{whole_found}
use Rattle.vortex_syntax.proofs.AnswerTokens.{no_name}

-- the code's split, by its last two tokens
module _ {A : Type 0} (f : A → Token) where
  pub no_token : (xs : List A) → length xs ≡ 0 → None ≡ split_name (map f xs)
  unfolding split_name
  no_token [] h = refl
  no_token (x ∷ xs) h = absurd (omega (arith, h))

  last_first : (xs : List A) (x : A) → reverse (map f (xs ++ (x ∷ []))) ≡ f x ∷ reverse (map f xs)
  last_first xs x = ap reverse (map-append f xs (x ∷ [])) ∙ reverse-append (map f xs) (f x ∷ [])

  pub one_token : (xs ys : List A) (n : A) → xs ≡ ys ++ (n ∷ []) → length ys ≡ 0
      → None ≡ split_name (map f xs)
  unfolding split_name
  one_token xs [] n e h = ap (λ v. split_name (map f v)) (sym e)
  one_token xs (y ∷ ys) n e h = absurd (omega (arith, h))

  pub two_tokens : (xs ys zs : List A) (n t : A) → xs ≡ ys ++ (n ∷ []) → ys ≡ zs ++ (t ∷ [])
      → split_name (map f xs) ≡ cond (is_as (f t) && is_name (f n)) (Some (map f zs, f n)) None
  unfolding split_name
  two_tokens xs ys zs n t e h =
      ap name_back
      (ap (λ v. reverse (map f v)) e ∙ last_first ys n ∙ ap (λ v. f n ∷ reverse (map f v)) h
      ∙ ap (λ v. f n ∷ v) (last_first zs t))
      ∙ ap (λ v. cond (is_as (f t) && is_name (f n)) (Some (v, f n)) None)
      (reverse-reverse (map f zs))

-- what a name is split from
pub named_at : (us : List Token) (n : Token) → is_name n ≡ true
    → split_name (us ++ (sign sign.As ∷ n ∷ [])) ≡ Some (us, n)
unfolding split_name
named_at us n h = ap name_back (reverse-append us (sign sign.As ∷ n ∷ []))
    ∙ rw h (ap (λ v. Some (v, n)) (reverse-reverse us))

as_is : (t : Token) → is_as t ≡ true → t ≡ sign sign.As
as_is (sign sign.As) h = refl
as_is t h = absurd cc

record Named (ts : List Token) (x : List Token × Token) : Type 0 where
  tokens : ts ≡ x.0 ++ (sign sign.As ∷ x.1 ∷ [])
  is : is_name x.1 ≡ true

some_pair : (x y : List Token × Token) → Some x ≡ Some y → x ≡ y
some_pair x y e = cc

named_if : (n t : Token) (rs : List Token) (x : List Token × Token) (b c : Bool) → is_as t ≡ b
    → is_name n ≡ c → cond (b && c) (Some (reverse rs, n)) None ≡ Some x
    → Named (reverse (n ∷ t ∷ rs)) x
named_if n t rs x true true h k e =
    let p : (reverse rs, n) ≡ x = some_pair (reverse rs, n) x e in
    record {
      tokens =
          ap (λ u. reverse (n ∷ u ∷ rs)) (as_is t h)
          ∙ ap (λ us. reverse (n ∷ sign sign.As ∷ us)) (sym (reverse-reverse rs))
          ∙ ap reverse (sym (reverse-append (reverse rs) (sign sign.As ∷ n ∷ [])))
          ∙ reverse-reverse (reverse rs ++ (sign sign.As ∷ n ∷ []))
          ∙ ap (λ (y : List Token × Token). y.0 ++ (sign sign.As ∷ y.1 ∷ [])) p;
      is = ap (λ (y : List Token × Token). is_name y.1) (sym p) ∙ k;
    }
named_if n t rs x b c h k e = absurd cc

named_back : (rs : List Token) (x : List Token × Token) → name_back rs ≡ Some x
    → Named (reverse rs) x
named_back (n ∷ t ∷ rs) x e = named_if n t rs x (is_as t) (is_name n) refl refl e
named_back rs x e = absurd cc

named_by : (ts : List Token) (x : List Token × Token) → split_name ts ≡ Some x → Named ts x
unfolding split_name
named_by ts x e = let n = named_back (reverse ts) x e in
    record { tokens = sym (reverse-reverse ts) ∙ n.tokens; is = n.is }

-- an answer has at least as many tokens as its tree
tree_shorter : (ts : List Token) (o : Option (List Token × Token)) → split_name ts ≡ o
    → length (unless_named ts o) ≤ length ts
tree_shorter ts None e = omega arith
tree_shorter ts (Some x) e =
    let n = named_by ts x e in
    omega (arith, ap length n.tokens, length-append x.0 (sign sign.As ∷ x.1 ∷ []))

pub tree_within : (ts : List Token) → length (tree_tokens ts) ≤ length ts
tree_within ts = tree_shorter ts (split_name ts) refl

-- an answer that is read is spelled by its tokens
is_told : (x y : Told) → Some x ≡ Some y → y ≡ x
is_told x y e = cc

told_some : (n : Option Token) (o : Option (List Step)) (x : Told) → told_as n o ≡ Some x
    → (xs : List Step) × (o ≡ Some xs) × (x ≡ record { steps = xs; name = n })
told_some n None x e = absurd cc
told_some n (Some xs) x e = (xs, refl, is_told (record { steps = xs; name = n }) x e)

found_by : (ts : List Token) (x : Told) (o : Option (List Token × Token)) → split_name ts ≡ o
    → split_answer ts o ≡ Some x → (a : Answer) × SpellsAnswer ts a × (x ≡ told a)
found_by ts x None k e =
    let s = told_some None (steps_of ts) x e in
    let f = whole_found ts s.0 s.1 in (
      record { tree = f.tree; name = None },
      record {
        levels = f.fits;
        named = tt;
        tokens = f.tokens
            ∙ sym (append-nil (spelling f.tree));
      },
      s.2 ∙ ap (λ xs. record { steps = xs; name = None }) f.steps,
    )
found_by ts x (Some y) k e =
    let s = told_some (Some y.1) (steps_of y.0) x e in
    let f = whole_found y.0 s.0 s.1 in
    let n = named_by ts y k in (
      record { tree = f.tree; name = Some y.1 },
      record {
        levels = f.fits;
        named = n.is;
        tokens = n.tokens
            ∙ ap (λ us. us ++ (sign sign.As ∷ y.1 ∷ [])) f.tokens;
      },
      s.2 ∙ ap (λ xs. record { steps = xs; name = Some y.1 }) f.steps,
    )

pub answer_found : (ts : List Token) (x : Told) → answer_of ts ≡ Some x
    → (a : Answer) × SpellsAnswer ts a × (x ≡ told a)
unfolding answer_of
answer_found ts x e = found_by ts x (split_name ts) refl e

-- an answer that its tokens spell is read
unnamed : (ts : List Token) (t : Syntax) → Fits t → ts ≡ spelling t
    → (o : Option (List Token × Token)) → split_name ts ≡ o → split_name ts ≡ None
unfolding steps_of
unnamed ts t f e None k = k
unnamed ts t f e (Some x) k =
    let n = named_by ts x k in
    let h : steps_of (x.0 ++ (sign sign.As ∷ x.1 ∷ [])) ≡ Some (postfix t) =
    ap steps_of (sym n.tokens ∙ e) ∙ whole_read t f in
    absurd (no_name x.0 (state mode.Want [] []) x.1 (postfix t) h)

read_by : (ts : List Token) (t : Syntax) (o : Option Token) → Fits t
    → IfSome o (λ n. is_name n ≡ true) → ts ≡ spelling t ++ name_tokens o
    → answer_of ts ≡ Some (record { steps = postfix t; name = o })
unfolding answer_of
read_by ts t None f h e =
    let k : ts ≡ spelling t = e ∙ append-nil (spelling t) in
    ap (split_answer ts) (unnamed ts t f k (split_name ts) refl)
    ∙ ap (told_as None) (ap steps_of k ∙ whole_read t f)
read_by ts t (Some n) f h e = ap (split_answer ts) (ap split_name e ∙ named_at (spelling t) n h)
    ∙ ap (told_as (Some n)) (whole_read t f)

pub answer_read : (ts : List Token) (a : Answer) → SpellsAnswer ts a → answer_of ts ≡ Some (told a)
answer_read ts a s = read_by ts a.tree a.name s.levels s.named s.tokens
