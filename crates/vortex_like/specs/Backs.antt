-- The backtracking point of the matcher.
use Rattle.std.specs.Prelude.{◌≡◌, ℕ, [], ◌∷◌, Option, Some, None}
use Rattle.std.specs.Str.{chars}
use Rattle.vortex_like.specs.declared.matching.Place.{Place}

-- there is none, or no character is left there
abbrev pub IsLast : Option Place → Type 0
IsLast None = Unit {0}
IsLast (Some p) = chars p.text.now ≡ []

-- the same tokens, one character later
abbrev pub IsFurther : Option Place → Place → Type 0
IsFurther None q = ⊥
IsFurther (Some p) q =
    (q.at ≡ p.at) × ((c : ℕ) × (chars p.text.now ≡ c ∷ chars q.text.now))
