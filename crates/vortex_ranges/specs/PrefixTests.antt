-- What is found of a pattern of a prefix and `%`.
use Rattle.std.specs.Prelude.{◌≡◌, ℕ, List, Bool, false, not, Option, Some, None, IsUtf8, ⊤}
use Rattle.std.specs.Cow.{cow_str_bytes}
use Rattle.std.specs.Str.{chars}
use Rattle.vortex_types.specs.Values.{Value, text}
use Rattle.vortex_like.specs.declared.options.LikeOptions.{LikeOptions}
use Rattle.vortex_like.specs.declared.variant.LikeVariant.{LikeVariant}
use Rattle.vortex_like.specs.declared.variant.LikeVariant.TheVariants.{Exact, Prefix}
use Rattle.vortex_ranges.specs.declared.like.Matches.{Matches}
use Rattle.vortex_ranges.specs.Ranges.{RangeView, only}
use Rattle.vortex_ranges.specs.Prefixes.{excludes_prefix, shares_prefix, IsPrefixPattern}

-- the text of an end
abbrev pub text_in : Option Value → Option (List ℕ)
text_in (Some (text bytes)) = Some bytes
text_in end = None

-- of a range that admits that text alone, it is found
abbrev pub FindsOnly : RangeView → Option (List ℕ) → Type 0
FindsOnly r found =
    (bytes : List ℕ) → IsUtf8 bytes → r ≡ only (text bytes) → found ≡ Some bytes

-- of a variant that is a prefix, whether some text begins with it
abbrev pub TellsBegun : RangeView → LikeVariant → Bool → Type 0
TellsBegun r (Exact exact) b = ⊤
TellsBegun r (Prefix prefix) b =
    (bytes : List ℕ) → IsUtf8 bytes → chars (cow_str_bytes prefix) ≡ chars bytes
    → b ≡ not (excludes_prefix r bytes)

-- and whether each does
abbrev pub TellsShared : Option ℕ → RangeView → List ℕ → LikeVariant → Bool → Type 0
TellsShared escape r pattern (Exact exact) b = ⊤
TellsShared escape r pattern (Prefix prefix) b =
    (bytes : List ℕ) → IsUtf8 bytes → chars (cow_str_bytes prefix) ≡ chars bytes
    → IsPrefixPattern escape pattern bytes → b ≡ shares_prefix r bytes

-- of the pattern, both
abbrev pub TellsPrefix : Option ℕ → RangeView → List ℕ → Matches → Type 0
TellsPrefix escape r pattern m =
    (prefix : List ℕ) → IsUtf8 prefix → IsPrefixPattern escape pattern prefix
    → (m.possible ≡ not (excludes_prefix r prefix)) × (m.certain ≡ shares_prefix r prefix)

-- of the only pattern that a range admits
abbrev pub TellsPattern : LikeOptions → RangeView → RangeView → Matches → Type 0
TellsPattern options r s m =
    options.case_insensitive ≡ false → (pattern : List ℕ) → IsUtf8 pattern
    → s ≡ only (text pattern) → TellsPrefix options.escape r pattern m
