-- The shapes of patterns with a literal part.
use Rattle.std.specs.Prelude.{◌≡◌, ℕ, true, false, List, [], ◌∷◌, ◌++◌, map, Option}
use Rattle.std.specs.Str.{chars}
use Rattle.vortex_like.specs.Tokens.{Token, any, character, tokens_of}
use Rattle.vortex_like.specs.Forms.{is_literal, is_literal_then_percent, is_percent_then}
use Rattle.vortex_like.specs.Forms.{plain_form}
use Rattle.vortex_like.specs.declared.form.LikeForm.{LikeForm}
use Rattle.vortex_like.specs.declared.form.LikeForm.TheVariants as form
use Rattle.vortex_like.specs.declared.form.PatternShape.{PatternShape}
use Rattle.vortex_like.specs.declared.form.PatternShape.TheVariants.{Whole, Front, End}
use Rattle.vortex_like.specs.declared.form.PatternShape.TheVariants.{Inside, Other}

abbrev pub shape_form : PatternShape → LikeForm
shape_form (Whole literal) = form.Eq
shape_form (Front literal) = form.StartsWith
shape_form (End literal) = form.EndsWith
shape_form (Inside literal) = form.Contains
shape_form Other = form.Tokens

-- the tokens of a pattern with that literal part
abbrev pub whole_tokens : List ℕ → List Token
whole_tokens literal = map character literal

abbrev pub front_tokens : List ℕ → List Token
front_tokens literal = map character literal ++ any ∷ []

abbrev pub end_tokens : List ℕ → List Token
end_tokens literal = any ∷ map character literal

abbrev pub inside_tokens : List ℕ → List Token
inside_tokens literal = any ∷ (map character literal ++ any ∷ [])

-- what a shape means for the tokens of a pattern
abbrev pub HasShapeTokens : Option ℕ → List ℕ → PatternShape → Type 0
HasShapeTokens escape pattern (Whole literal) = tokens_of escape pattern
    ≡ whole_tokens (chars literal.now)
HasShapeTokens escape pattern (Front literal) = tokens_of escape pattern
    ≡ front_tokens (chars literal.now)
HasShapeTokens escape pattern (End literal) = tokens_of escape pattern
    ≡ end_tokens (chars literal.now)
HasShapeTokens escape pattern (Inside literal) = tokens_of escape pattern
    ≡ inside_tokens (chars literal.now)
HasShapeTokens escape pattern Other = Unit {0}

-- the shape is that of a literal part, or of one and `%`; Other for what is neither
abbrev pub IsFrontOf : Option ℕ → List ℕ → PatternShape → Type 0
IsFrontOf escape pattern (Whole literal) =
    (is_literal escape pattern ≡ true) × HasShapeTokens escape pattern (Whole literal)
IsFrontOf escape pattern (Front literal) =
    (is_literal escape pattern ≡ false) × (is_literal_then_percent escape pattern ≡ true)
    × HasShapeTokens escape pattern (Front literal)
IsFrontOf escape pattern Other =
    (is_literal escape pattern ≡ false) × (is_literal_then_percent escape pattern ≡ false)
IsFrontOf escape pattern shape = ⊥

-- the same for `%` and such a pattern
abbrev pub IsPercentOf : Option ℕ → List ℕ → PatternShape → Type 0
IsPercentOf escape pattern (End literal) =
    (is_percent_then is_literal escape pattern ≡ true) × HasShapeTokens escape pattern (End literal)
IsPercentOf escape pattern (Inside literal) =
    (is_percent_then is_literal escape pattern ≡ false)
    × (is_percent_then is_literal_then_percent escape pattern ≡ true)
    × HasShapeTokens escape pattern (Inside literal)
IsPercentOf escape pattern Other =
    (is_percent_then is_literal escape pattern ≡ false)
    × (is_percent_then is_literal_then_percent escape pattern ≡ false)
IsPercentOf escape pattern shape = ⊥

-- the first shape that fits
pub record IsShapeOf (escape : Option ℕ) (pattern : List ℕ) (shape : PatternShape)
    : Type 0 where
  pub form : plain_form escape pattern ≡ shape_form shape
  pub tokens : HasShapeTokens escape pattern shape
