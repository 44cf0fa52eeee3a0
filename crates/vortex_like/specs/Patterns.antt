-- The view of a pattern, and the result of LIKE for two values.
use Rattle.std.specs.Prelude.{ℕ, List, Bool, not, if◌then◌else◌, Option}
use Rattle.std.specs.Str.{chars}
use Rattle.vortex_types.specs.Values.{Value, null, truth, text}
use Rattle.vortex_like.specs.declared.options.LikeOptions.{LikeOptions}
use Rattle.vortex_like.specs.Tokens.{Token, tokens_of, is_match}
use Rattle.vortex_like.specs.Forms.{form_of}
use Rattle.vortex_like.specs.declared.form.LikeForm.{LikeForm}

-- the tokens, whether case is ignored, whether every text to match is ASCII, and the pattern's form
pub record PatternView : Type 0 where
  pub tokens : List Token
  pub case_insensitive : Bool
  pub ascii_haystack : Bool
  pub form : LikeForm

-- the pattern of these bytes with that escape
abbrev pub pattern_of : Option ℕ → List ℕ → Bool → Bool → PatternView
pattern_of escape bytes case_insensitive ascii_haystack =
    record {
      tokens = tokens_of escape (chars bytes);
      case_insensitive = case_insensitive;
      ascii_haystack = ascii_haystack;
      form = form_of escape (chars bytes) case_insensitive ascii_haystack;
    }

-- the result of LIKE for a text and a pattern, by their bytes
abbrev pub like : LikeOptions → List ℕ → List ℕ → Bool
like options bytes pattern =
    let tokens = tokens_of options.escape (chars pattern) in
    let found = is_match options.case_insensitive tokens (chars bytes) in
    if options.negated then not found else found

-- null if either value is null
abbrev pub like_value : LikeOptions → Value → Value → Value
like_value options (text bytes) (text pattern) = truth (like options bytes pattern)
like_value options v w = null
