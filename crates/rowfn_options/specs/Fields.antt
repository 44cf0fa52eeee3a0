-- Which bytes separate fields and begin comments, and which texts are null between them.
use Rattle.std.specs.Prelude.{◌≡◌, ◌<◌, ◌||◌, ◌==◌, ℕ, Bool, false, List, [], ◌∷◌, nat_eq, All}
use Rattle.std.specs.Prelude.{Option, Some, None, IfSome}
use Rattle.std.specs.Borrow.{Bor}
use Rattle.std.specs.List.{list_any, starts_with}

-- a quote, or a byte that ends a line
abbrev pub is_quote_or_end : ℕ → Bool
is_quote_or_end byte = (byte == 34) || ((byte == 13) || (byte == 10))

-- a byte may be between two fields: one of ASCII that is neither
pub record MayPart (delimiter : ℕ) : Type 0 where
  pub ascii : delimiter < 128
  pub plain : is_quote_or_end delimiter ≡ false

-- a byte may begin comments: one of ASCII that is no quote, no end of a line and no delimiter
pub record MayComment (delimiter output_delimiter byte : ℕ) : Type 0 where
  pub parts : MayPart byte
  pub no_delimiter : (byte == delimiter) ≡ false
  pub no_output_delimiter : (byte == output_delimiter) ≡ false

-- a byte ends a field that stands in no quotes, or asks for quotes
abbrev pub ends_field : ℕ → ℕ → Bool
ends_field delimiter byte = (byte == delimiter) || is_quote_or_end byte

-- a text begins with a byte order mark, which is skipped at the start of an input
abbrev pub has_mark : List ℕ → Bool
has_mark text = starts_with nat_eq text (239 ∷ 187 ∷ 191 ∷ [])

-- a text begins with that byte
abbrev pub begins_with : Option ℕ → List ℕ → Bool
begins_with None text = false
begins_with (Some byte) [] = false
begins_with (Some byte) (b ∷ bs) = b == byte

module _ (delimiter output_delimiter : ℕ) (comment : Option ℕ) where
  -- the bytes with a meaning of their own in a line are such
  pub record AreBytes : Type 0 where
    pub delimiter_parts : MayPart delimiter
    pub output_delimiter_parts : MayPart output_delimiter
    pub comment_begins : IfSome comment (MayComment delimiter output_delimiter)

  -- a text may be null: in no quotes it is one field, also where it is the first of the input or of
  -- a line
  pub record MayBeNull (null : List ℕ) : Type 0 where
    pub whole : list_any (ends_field delimiter) null ≡ false
    pub whole_in_output : list_any (ends_field output_delimiter) null ≡ false
    pub unmarked : has_mark null ≡ false
    pub no_comment : begins_with comment null ≡ false

  -- fields are separated by such bytes, and each text for null is such a text
  pub record AreFields (null : List ℕ) (more_nulls : List (Bor (List ℕ))) : Type 0 where
    pub bytes : AreBytes
    pub null_stands : MayBeNull null
    pub more_stand : All (λ n. MayBeNull n.now) more_nulls
