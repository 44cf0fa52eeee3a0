-- Columns behind the tokens of a type.
use Rattle.std.proofs.Common.{◌≡◌, ◌∙◌, ◌<◌, ℕ, zero, suc, ◌+◌, List, [], ◌∷◌, drop, map, refl, sym, ap, ap₂, true, arith}
use Rattle.std.proofs.Common.{get_or, length, Option, Some, None, Bor, if◌then◌else◌, Bool}
use Rattle.std.specs.List.{drop-map, slice_get}
use Rattle.vortex_syntax.specs.Tokens.{Token, token_in}
use Rattle.vortex_syntax.specs.declared.token.Token as read
use Rattle.vortex_syntax.specs.declared.token.Token.TheVariants as variant
use Rattle.rowfn_queries.specs.declared.scope.ScopeReason.TheVariants as reason
use Rattle.rowfn_queries.specs.Outcomes.{Outcome, answers, refuses, and_then}
use Rattle.rowfn_queries.specs.DeclaredColumns.{DeclaredColumns, with_column}
use Rattle.rowfn_queries.specs.DeclaredTypes.{TypeAt, type_at}
use Rattle.rowfn_queries.specs.Scopes.{after, more_behind, columns_behind, placed_behind, named_behind}
use Rattle.rowfn_queries.specs.Scopes.{new_name, is_as, given_place}

after_drop : (n : ℕ) (d : DeclaredColumns) (ts : List Token)
    → after n d ts ≡ more_behind d (drop n ts)
after_drop zero d [] = refl
after_drop zero d (t ∷ ts) = refl
after_drop (suc n) d [] = refl
after_drop (suc n) d (t ∷ ts) = after_drop n d ts

drop_one : (n : ℕ) (x : read.Token) (xs : List read.Token) → drop (n + 1) (x ∷ xs) ≡ drop n xs
drop_one n x xs =
    let next : n + 1 ≡ suc n = omega arith in
    ap (λ (k : ℕ). drop k (x ∷ xs)) next

drop_two : (n : ℕ) (x y : read.Token) (xs : List read.Token) → drop (n + 2) (x ∷ y ∷ xs) ≡ drop n xs
drop_two n x y xs =
    let next : n + 2 ≡ suc (suc n) = omega arith in
    ap (λ (k : ℕ). drop k (x ∷ y ∷ xs)) next

-- a name and its type
pub named_so : (d : DeclaredColumns) (place : Option ℕ) (xs zs : List read.Token) (a b : read.Token)
    (w : List ℕ) (u : TypeAt) → 1 < length xs → b ≡ get_or xs 1 b
    → new_name d.fields (token_in (get_or xs 0 a)) ≡ answers w → zs ≡ drop 2 xs
    → type_at (token_in b) (map token_in zs) ≡ answers u
    → named_behind d place (map token_in xs)
    ≡ more_behind (with_column d place w u.column) (map token_in (drop (u.further + 2) xs))
named_so d place [] zs a b w u lt is named rest typed = absurd (omega (arith, lt))
named_so d place (x ∷ []) zs a b w u lt is named rest typed = absurd (omega (arith, lt))
named_so d place (x ∷ y ∷ xs) zs a b w u lt is named rest typed =
    let ts = map token_in xs in
    let next = with_column d place w u.column in
    let here : type_at (token_in y) ts ≡ answers u =
    ap₂ (λ (t : read.Token) (l : List read.Token). type_at (token_in t) (map token_in l)) (sym is) (sym rest)
    ∙ typed in
    ap (λ (o : Outcome (List ℕ)). and_then o (λ w. and_then (type_at (token_in y) ts)
    (λ u. after u.further (with_column d place w u.column) ts))) named
    ∙ ap (λ (o : Outcome TypeAt). and_then o (λ u. after u.further (with_column d place w u.column) ts)) here
    ∙ after_drop u.further next ts
    ∙ ap (more_behind next) (drop-map token_in u.further xs ∙ ap (map token_in) (sym (drop_two u.further x y xs)))

-- `as` and a name and its type, behind a place
pub placed_so : (d e : DeclaredColumns) (o : Outcome ℕ) (p : ℕ) (xs zs : List read.Token) (x : read.Token)
    (n : ℕ) → o ≡ answers p → slice_get xs 0 ≡ Some x → is_as (token_in x) ≡ true → zs ≡ drop 1 xs
    → named_behind d (Some p) (map token_in zs) ≡ more_behind e (map token_in (drop n zs))
    → placed_behind d o (map token_in xs) ≡ more_behind e (map token_in (drop (n + 1) xs))
placed_so d e o p [] zs x n place get said rest same = absurd (none get)
  where
    none : None ≡ Some x → ⊥
    none h = cc
placed_so d e o p (y ∷ xs) zs x n place get said rest same =
    let first : y ≡ x = cc in
    ap (λ (o : Outcome ℕ). placed_behind d o (token_in y ∷ map token_in xs)) place
    ∙ ap (λ (b : Bool). if b then named_behind d (Some p) (map token_in xs) else refuses reason.NoAs)
    (ap (λ (t : read.Token). is_as (token_in t)) first ∙ said)
    ∙ ap (λ (l : List read.Token). named_behind d (Some p) (map token_in l)) (sym rest)
    ∙ same
    ∙ ap (λ (l : List read.Token). more_behind e (map token_in (drop n l))) rest
    ∙ ap (λ (l : List read.Token). more_behind e (map token_in l)) (sym (drop_one n y xs))

-- a place and what follows it
pub numbered_so : (d e : DeclaredColumns) (xs zs : List read.Token) (a : read.Token) (digits : Bor (List ℕ))
    (n : ℕ) → 0 < length xs → get_or xs 0 a ≡ variant.Number digits → zs ≡ drop 1 xs
    → placed_behind d (given_place digits.now) (map token_in zs) ≡ more_behind e (map token_in (drop n zs))
    → columns_behind d (map token_in xs) ≡ more_behind e (map token_in (drop (n + 1) xs))
numbered_so d e [] zs a digits n lt is rest same = absurd (omega (arith, lt))
numbered_so d e (x ∷ xs) zs a digits n lt is rest same =
    ap (λ (t : read.Token). columns_behind d (token_in t ∷ map token_in xs)) is
    ∙ ap (λ (l : List read.Token). placed_behind d (given_place digits.now) (map token_in l)) (sym rest)
    ∙ same
    ∙ ap (λ (l : List read.Token). more_behind e (map token_in (drop n l))) rest
    ∙ ap (λ (l : List read.Token). more_behind e (map token_in l)) (sym (drop_one n x xs))

-- no place, but a name
pub unnumbered : (d : DeclaredColumns) (xs : List read.Token) (a : read.Token) → 0 < length xs
    → ((digits : Bor (List ℕ)) → get_or xs 0 a ≡ variant.Number digits → ⊥)
    → columns_behind d (map token_in xs) ≡ named_behind d None (map token_in xs)
unnumbered d [] a lt none = absurd (omega (arith, lt))
unnumbered d (variant.Name w ∷ xs) a lt none = refl
unnumbered d (variant.Nullable w ∷ xs) a lt none = refl
unnumbered d (variant.Function w ∷ xs) a lt none = refl
unnumbered d (variant.Quoted w ∷ xs) a lt none = refl
unnumbered d (variant.Number w ∷ xs) a lt none = absurd (none w refl)
unnumbered d (variant.Text w ∷ xs) a lt none = refl
unnumbered d (variant.Sign s ∷ xs) a lt none = refl
