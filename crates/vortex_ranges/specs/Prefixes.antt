-- Whether texts between two ends can begin with a prefix, or match a pattern.
use Rattle.std.specs.Prelude.{◌≡◌, ◌≢◌, ◌&&◌, ◌||◌, ◌++◌, ℕ, List, [], ◌∷◌, Bool, true, false}
use Rattle.std.specs.Prelude.{not, map, Option, Some, IsUtf8, nat_eq, if◌then◌else◌, ⊤}
use Rattle.std.specs.List.{starts_with}
use Rattle.std.specs.Cow.{cow_str_bytes}
use Rattle.std.specs.Str.{chars}
use Rattle.vortex_types.specs.LogicalTypes.{LogicalType}
use Rattle.vortex_types.specs.Values.{Value, text}
use Rattle.vortex_like.specs.declared.options.LikeOptions.{LikeOptions}
use Rattle.vortex_like.specs.Tokens.{any, character, tokens_of, is_match, Match}
use Rattle.vortex_like.specs.declared.variant.LikeVariant.{LikeVariant}
use Rattle.vortex_like.specs.declared.variant.LikeVariant.TheVariants.{Exact, Prefix}
use Rattle.vortex_ranges.specs.declared.like.Matches.{Matches}
use Rattle.vortex_ranges.specs.Ranges.{RangeView, Admits, is_above, is_over, only}
use Rattle.vortex_interface.specs.Shipped.{Like, shipped_type, shipped_means}
use Rattle.vortex_ranges.specs.Calls.{AdmitsCalls}
use Rattle.vortex_ranges.specs.Truths.{truths}

-- a low end above each text that begins with the prefix
abbrev pub is_past : List ℕ → Option Value → Bool
is_past prefix (Some (text low)) =
    is_above (text low) (text prefix) && not (starts_with nat_eq low prefix)
is_past prefix low = false

-- no text between the ends begins with the prefix
abbrev pub excludes_prefix : RangeView → List ℕ → Bool
excludes_prefix r prefix = is_over r.high (text prefix) || is_past prefix r.low

-- an end begins with the prefix
abbrev pub begins_with : List ℕ → Option Value → Bool
begins_with prefix (Some (text end)) = starts_with nat_eq end prefix
begins_with prefix end = false

-- each text between the ends begins with the prefix, as both ends do
abbrev pub shares_prefix : RangeView → List ℕ → Bool
shares_prefix r prefix = begins_with prefix r.low && begins_with prefix r.high

-- the text matches the pattern, negated or not
abbrev pub matches : LikeOptions → List ℕ → List ℕ → Bool
matches options bytes pattern =
    is_match options.case_insensitive (tokens_of options.escape (chars pattern)) (chars bytes)

-- no admitted text matches an admitted pattern
abbrev pub NoneMatch : LikeOptions → RangeView → RangeView → Type 0
NoneMatch options r s =
    (bytes pattern : List ℕ) → IsUtf8 bytes → IsUtf8 pattern → Admits r (text bytes)
    → Admits s (text pattern) → matches options bytes pattern ≡ false

-- each admitted text matches each admitted pattern
abbrev pub AllMatch : LikeOptions → RangeView → RangeView → Type 0
AllMatch options r s =
    (bytes pattern : List ℕ) → IsUtf8 bytes → IsUtf8 pattern → Admits r (text bytes)
    → Admits s (text pattern) → matches options bytes pattern ≡ true

-- no admitted text matches unless that is possible, and each does if that is certain
abbrev pub AreMatches : LikeOptions → RangeView → RangeView → Matches → Type 0
AreMatches options r s m =
    (m.possible ≡ false → NoneMatch options r s) × (m.certain ≡ true → AllMatch options r s)

-- the range of Like, by whether a text may match, and whether each does; without a text or a pattern
-- there is only null
abbrev pub likeness : LikeOptions → Bool → Bool → RangeView → RangeView → RangeView
likeness options possible certain r s =
    truths (r.may_be_null || s.may_be_null)
    ((r.may_be_value && s.may_be_value) && (if options.negated then possible else not certain))
    ((r.may_be_value && s.may_be_value) && (if options.negated then not certain else possible))

-- the only text that is admitted
abbrev pub IsOnlyText : RangeView → List ℕ → Type 0
IsOnlyText r known = (bytes : List ℕ) → Admits r (text bytes) → bytes ≡ known

-- no admitted text begins with the prefix, or is the other text, by their characters
abbrev pub NoneBegins : RangeView → List ℕ → Type 0
NoneBegins r prefix =
    (bytes rest : List ℕ) → IsUtf8 bytes → Admits r (text bytes)
    → ¬ (chars bytes ≡ chars prefix ++ rest)

abbrev pub NoneEquals : RangeView → List ℕ → Type 0
NoneEquals r exact =
    (bytes : List ℕ) → IsUtf8 bytes → Admits r (text bytes) → ¬ (chars bytes ≡ chars exact)

-- no admitted text is the one that a pattern stands for, or begins with its prefix
abbrev pub NoneIs : RangeView → LikeVariant → Type 0
NoneIs r (Exact exact) = NoneEquals r (cow_str_bytes exact)
NoneIs r (Prefix prefix) = NoneBegins r (cow_str_bytes prefix)

-- no admitted text matches the pattern of that case
abbrev pub NoneIsLike : Option ℕ → RangeView → List ℕ → Type 0
NoneIsLike escape r pattern =
    (bytes : List ℕ) → IsUtf8 bytes → Admits r (text bytes)
    → ¬ Match false (tokens_of escape (chars pattern)) (chars bytes)

-- each admitted text matches it
abbrev pub AllAreLike : Option ℕ → RangeView → List ℕ → Type 0
AllAreLike escape r pattern =
    (bytes : List ℕ) → IsUtf8 bytes → Admits r (text bytes)
    → Match false (tokens_of escape (chars pattern)) (chars bytes)

-- the same two of a pattern that is known
abbrev pub AreLike : Option ℕ → RangeView → List ℕ → Matches → Type 0
AreLike escape r pattern m =
    (m.possible ≡ false → NoneIsLike escape r pattern)
    × (m.certain ≡ true → AllAreLike escape r pattern)

-- the range admits the outcome of each call of Like on what the two admit
abbrev pub AdmitsLike : LikeOptions → RangeView → RangeView → RangeView → Type 0
AdmitsLike options r s result =
    (t : LogicalType)
    → AdmitsCalls (shipped_type (Like options)) (shipped_means (Like options)) t (r ∷ s ∷ [])
    result

-- the pattern is a prefix, which is not empty, and then `%`
abbrev pub IsPrefixPattern : Option ℕ → List ℕ → List ℕ → Type 0
IsPrefixPattern escape pattern prefix =
    (prefix ≢ [])
    × (tokens_of escape (chars pattern) ≡ map character (chars prefix) ++ any ∷ [])

-- the range of Like of such a pattern: no text matches only where none begins with the prefix, and
-- each does only where the ends share it
abbrev pub prefix_range : LikeOptions → List ℕ → RangeView → RangeView → RangeView
prefix_range options prefix r s =
    likeness options (not (excludes_prefix r prefix)) (shares_prefix r prefix) r s

abbrev pub IsPrefixRange : LikeOptions → RangeView → RangeView → RangeView → Type 0
IsPrefixRange options r s result =
    options.case_insensitive ≡ false → (pattern prefix : List ℕ) → s ≡ only (text pattern)
    → IsUtf8 pattern → IsUtf8 prefix → IsPrefixPattern options.escape pattern prefix
    → result ≡ prefix_range options prefix r s

abbrev pub ArePrefixRange : LikeOptions → List RangeView → RangeView → Type 0
ArePrefixRange options (r ∷ s ∷ []) result = IsPrefixRange options r s result
ArePrefixRange options rs result = ⊤
