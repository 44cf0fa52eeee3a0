-- The view of the test that a pattern is compiled to.
use Rattle.std.specs.Prelude.{◌≡◌, ℕ, Bool, true, false, List, string_bytes, Option, nat_eq}
use Rattle.std.specs.List.{starts_with, ends_with}
use Rattle.std.specs.Str.{chars, bytes_eq}
use Rattle.vortex_like.specs.ByteTests.{holds_inside, folds_alike, front_folds_alike}
use Rattle.vortex_like.specs.ByteTests.{end_folds_alike}
use Rattle.vortex_like.specs.Tokens.{Token, tokens_of, is_match}
use Rattle.vortex_like.specs.Shapes.{whole_tokens, front_tokens, end_tokens, inside_tokens}
use Rattle.vortex_like.specs.declared.form.LikeForm.{LikeForm}
use Rattle.vortex_like.specs.declared.form.LikeForm.TheVariants as form
use Rattle.vortex_like.specs.declared.form_test.FormTest.{FormTest}
use Rattle.vortex_like.specs.declared.form_test.FormTest.TheVariants.{Eq, StartsWith, EndsWith}
use Rattle.vortex_like.specs.declared.form_test.FormTest.TheVariants.{Contains, IEqAscii}
use Rattle.vortex_like.specs.declared.form_test.FormTest.TheVariants.{IStartsWithAscii}
use Rattle.vortex_like.specs.declared.form_test.FormTest.TheVariants.{IEndsWithAscii, Tokens, SmallInside}

abbrev pub test_form : FormTest → LikeForm
test_form (Eq t) = form.Eq
test_form (StartsWith t) = form.StartsWith
test_form (EndsWith t) = form.EndsWith
test_form (Contains t) = form.Contains
test_form (IEqAscii t) = form.IEqAscii
test_form (IStartsWithAscii t) = form.IStartsWithAscii
test_form (IEndsWithAscii t) = form.IEndsWithAscii
test_form (Tokens t) = form.Tokens
test_form (SmallInside t) = form.Tokens

-- the tokens that it is equivalent to
abbrev pub test_tokens : FormTest → List Token
test_tokens (Eq t) = whole_tokens (chars (string_bytes t.literal))
test_tokens (StartsWith t) = front_tokens (chars (string_bytes t.literal))
test_tokens (EndsWith t) = end_tokens (chars (string_bytes t.literal))
test_tokens (Contains t) = inside_tokens (chars t.finder)
test_tokens (IEqAscii t) = whole_tokens t.text
test_tokens (IStartsWithAscii t) = front_tokens t.text
test_tokens (IEndsWithAscii t) = end_tokens t.text
test_tokens (Tokens t) = t.tokens.items
test_tokens (SmallInside t) = t.tokens.tokens.items

-- and whether it ignores case
abbrev pub test_folds : FormTest → Bool
test_folds (IEqAscii t) = true
test_folds (IStartsWithAscii t) = true
test_folds (IEndsWithAscii t) = true
test_folds (Tokens t) = t.case_insensitive
test_folds (SmallInside t) = t.tokens.case_insensitive
test_folds t = false

-- the result for bytes that it may read, text or not
abbrev pub form_said : FormTest → List ℕ → Bool
form_said (Eq t) bytes = bytes_eq (string_bytes t.literal) bytes
form_said (StartsWith t) bytes = starts_with nat_eq bytes (string_bytes t.literal)
form_said (EndsWith t) bytes = ends_with nat_eq bytes (string_bytes t.literal)
form_said (Contains t) bytes = holds_inside t.finder bytes
form_said (IEqAscii t) bytes = folds_alike t.text bytes
form_said (IStartsWithAscii t) bytes = front_folds_alike t.text bytes
form_said (IEndsWithAscii t) bytes = end_folds_alike t.text bytes
form_said (Tokens t) bytes = is_match t.case_insensitive t.tokens.items (chars bytes)
form_said (SmallInside t) bytes =
    is_match t.tokens.case_insensitive t.tokens.tokens.items (chars bytes)

-- the forms for ASCII texts only
abbrev pub is_ascii_form : LikeForm → Bool
is_ascii_form form.IEqAscii = true
is_ascii_form form.IStartsWithAscii = true
is_ascii_form form.IEndsWithAscii = true
is_ascii_form f = false

-- the test for a pattern with that escape, with or without folding, of that form
pub record IsTestOf (escape : Option ℕ) (pattern : List ℕ) (past_case : Bool) (f : LikeForm)
    (t : FormTest) : Type 0 where
  pub tokens : test_tokens t ≡ tokens_of escape pattern
  pub folds : test_folds t ≡ past_case
  pub form : test_form t ≡ f
