-- The syntax of a call by its name: its level, its tokens, how it nests, and that it fits.
use Rattle.std.proofs.Common.{◌≡◌, ℕ, suc, Bool, true, false, ◌&&◌, List, [], ◌∷◌, ◌++◌, refl, ap}
use Rattle.std.proofs.Common.{◌∙◌, append_assoc, nat_lt, cond, ◌≤◌, arith}
use Rattle.vortex_syntax.specs.Nesting.{nesting_limit}
use Rattle.vortex_syntax.specs.declared.token.Sign.TheVariants as sign
use Rattle.vortex_syntax.specs.Tokens.{Token, function, sign}
use Rattle.vortex_syntax.specs.Syntax.{Syntax, Arguments, no_arguments, argument}
use Rattle.vortex_syntax.specs.Levels.{level, Fits, AllFit, takes_in, first_level, first_of}
use Rattle.vortex_syntax.specs.Levels.{concat_level, or_level}
use Rattle.vortex_syntax.specs.Spelling.{spelling, all_spelled}
use Rattle.vortex_expressions.specs.Writing.{applied_from, named_syntax}
use Rattle.vortex_expressions.specs.WritingSteps.{nests_behind, all_nest_behind}

-- a property of each
abbrev pub AllOf : (Syntax → Type 0) → List Syntax → Type 0
AllOf P [] = Unit {0}
AllOf P (a ∷ bs) = P a × AllOf P bs

level_from : (w : List ℕ) (args : Arguments) (a : Syntax) (bs : List Syntax)
    → level (applied_from w args a bs) ≡ 12
level_from w args a [] = refl
level_from w args a (b ∷ bs) = level_from w (argument args a) b bs

pub level_named : (w : List ℕ) (bs : List Syntax) → level (named_syntax w bs) ≡ 12
level_named w [] = refl
level_named w (a ∷ bs) = level_from w no_arguments a bs

-- any tree may come first, but in a call of a function that takes `in`
any_first : (w : List ℕ) (a : Syntax) → takes_in w ≡ false → first_level w ≤ level a
any_first w a h =
    let is : first_level w ≡ or_level = ap (λ b. cond b concat_level or_level) h in
    omega (arith, is)

fits_from : (w : List ℕ) (args : Arguments) (a : Syntax) (bs : List Syntax) → takes_in w ≡ false
    → AllFit args → Fits a → AllOf Fits bs → Fits (applied_from w args a bs)
fits_from w args a [] u h k j = (h, k, any_first w (first_of args a) u)
fits_from w args a (b ∷ bs) u h k j = fits_from w (argument args a) b bs u (h, k) j.0 j.1

pub fits_named : (w : List ℕ) (bs : List Syntax) → takes_in w ≡ false → AllOf Fits bs
    → Fits (named_syntax w bs)
fits_named w [] u h = tt
fits_named w (a ∷ bs) u h = fits_from w no_arguments a bs u tt h.0 h.1

-- the tokens from one argument on, and of all arguments
abbrev pub spelled_from : Syntax → List Syntax → List Token
spelled_from a [] = spelling a ++ (sign sign.Close ∷ [])
spelled_from a (b ∷ bs) = spelling a ++ (sign sign.Comma ∷ spelled_from b bs)

abbrev pub call_spelled : List Syntax → List Token
call_spelled [] = sign sign.Close ∷ []
call_spelled (a ∷ bs) = spelled_from a bs

spelling_from : (w : List ℕ) (args : Arguments) (a : Syntax) (bs : List Syntax)
    → spelling (applied_from w args a bs) ≡ function w ∷ (all_spelled args ++ spelled_from a bs)
spelling_from w args a [] = refl
spelling_from w args a (b ∷ bs) =
    let comma : List Token = sign sign.Comma ∷ [] in
    spelling_from w (argument args a) b bs
    ∙ ap (λ ts. function w ∷ ts)
    (append_assoc (all_spelled args) (spelling a ++ comma) (spelled_from b bs)
    ∙ ap (λ ts. all_spelled args ++ ts) (append_assoc (spelling a) comma (spelled_from b bs)))

pub spelling_named : (w : List ℕ) (bs : List Syntax)
    → spelling (named_syntax w bs) ≡ function w ∷ call_spelled bs
spelling_named w [] = refl
spelling_named w (a ∷ bs) = spelling_from w no_arguments a bs

-- whether they nest no deeper than allowed
abbrev pub nest_from : ℕ → Syntax → List Syntax → Bool
nest_from d a [] = nests_behind d a
nest_from d a (b ∷ bs) = nests_behind d a && nest_from d b bs

abbrev pub call_nests : ℕ → List Syntax → Bool
call_nests d [] = true
call_nests d (a ∷ bs) = nest_from d a bs

and_grouped : (a b c : Bool) → ((a && b) && c) ≡ (a && (b && c))
and_grouped a b c = by a
  where
    by : (a : Bool) → ((a && b) && c) ≡ (a && (b && c))
    by true = refl
    by false = refl

nested_from : (d : ℕ) (w : List ℕ) (args : Arguments) (a : Syntax) (bs : List Syntax)
    → nests_behind d (applied_from w args a bs)
    ≡ (nat_lt d nesting_limit && (all_nest_behind (suc d) args && nest_from (suc d) a bs))
nested_from d w args a [] = refl
nested_from d w args a (b ∷ bs) =
    nested_from d w (argument args a) b bs
    ∙ ap (λ v. nat_lt d nesting_limit && v)
    (and_grouped (all_nest_behind (suc d) args) (nests_behind (suc d) a) (nest_from (suc d) b bs))

and_true : (b : Bool) → b ≡ (b && true)
and_true true = refl
and_true false = refl

pub nests_named : (d : ℕ) (w : List ℕ) (bs : List Syntax)
    → nests_behind d (named_syntax w bs) ≡ (nat_lt d nesting_limit && call_nests (suc d) bs)
nests_named d w [] = and_true (nat_lt d nesting_limit)
nests_named d w (a ∷ bs) = nested_from d w no_arguments a bs
