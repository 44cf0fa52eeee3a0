-- The bytes of the options of a LIKE, and what byte strings are read as.
use Rattle.std.specs.Prelude.{◌≡◌, ℕ, zero, suc, ◌+◌, ◌-◌, ◌==◌, ◌&&◌, nat_lt, not, List, []}
use Rattle.std.specs.Prelude.{◌∷◌, Bool, true, false, Option, Some, None, MatchOption}
use Rattle.std.specs.Prelude.{if◌then◌else◌, ⊤}
use Rattle.std.specs.Option.{option_and_then}
use Rattle.std.specs.Char.{IsScalar}
use Rattle.std.proofs.Math.Utf8.{scalar}
use Rattle.std.specs.Int.{w32, to_be_bytes, from_be_bytes}
use Rattle.std.specs.Str.{bytes_eq}
use Rattle.vortex_errors.specs.OptionBytes.{two_bits}
use Rattle.vortex_like.specs.Tokens.{backslash}
use Rattle.vortex_like.specs.declared.options.LikeOptions.{LikeOptions}

-- The first byte has bit 0 if the LIKE is negated and bit 1 if it ignores case; it is the only byte
-- if the escape is the backslash. Another escape sets bit 2, and follows as four bytes, big-endian;
-- no escape sets bit 3.
abbrev pub escape_bytes : ℕ → Option ℕ → List ℕ
escape_bytes bits None = (bits + 8) ∷ []
escape_bytes bits (Some e) =
    if e == backslash then bits ∷ [] else (bits + 4) ∷ to_be_bytes w32 e

abbrev pub like_bytes : LikeOptions → List ℕ
like_bytes options =
    escape_bytes (two_bits options.negated options.case_insensitive) options.escape

abbrev pub asked : Bool → Bool → Option ℕ → LikeOptions
asked negated past_case escape =
    record { negated = negated; case_insensitive = past_case; escape = escape }

-- the options of two bits
abbrev pub with_bits : ℕ → Option ℕ → Option LikeOptions
with_bits zero escape = Some (asked false false escape)
with_bits (suc zero) escape = Some (asked true false escape)
with_bits (suc (suc zero)) escape = Some (asked false true escape)
with_bits (suc (suc (suc zero))) escape = Some (asked true true escape)
with_bits bits escape = None

-- the escape in the bytes after the first: the big-endian character of these four, unless that is
-- the backslash
abbrev pub escape_read : List ℕ → Option ℕ
escape_read number =
    let c = from_be_bytes w32 number in
    if bytes_eq (to_be_bytes w32 c) number && (scalar c && not (c == backslash))
    then Some c else None

abbrev pub like_read : List ℕ → Option LikeOptions
like_read [] = None
like_read (b ∷ []) =
    if nat_lt b 8 then with_bits b (Some backslash) else with_bits (b - 8) None
like_read (b ∷ number) =
    if nat_lt b 4 then None
    else option_and_then (λ c. with_bits (b - 4) (Some c)) (escape_read number)

-- the escape, if there is one, is a character
abbrev pub HasCharacter : LikeOptions → Type 0
HasCharacter options = MatchOption options.escape ⊤ IsScalar

-- back: what is written is read back
-- alone: nothing else is read
pub record IsLikeFormat : Type 0 where
  pub back : (o : LikeOptions) → HasCharacter o → like_read (like_bytes o) ≡ Some o
  pub alone : (bytes : List ℕ) (o : LikeOptions) → like_read bytes ≡ Some o
      → bytes ≡ like_bytes o
