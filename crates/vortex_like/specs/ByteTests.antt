-- Results of byte tests for any bytes, text or not.
use Rattle.std.specs.Prelude.{ℕ, Bool, List, map, length, take, drop, ◌-◌, ◌%◌, nat_eq}
use Rattle.std.specs.List.{list_any, starts_with}
use Rattle.std.specs.Str.{bytes_eq}
use Rattle.unicode.specs.CaseFolding.{simple_fold}
use Rattle.vortex_like.specs.AsciiFolds.{folded}
use Rattle.vortex_like.specs.Tokens.{endings}

-- some suffix of the bytes begins with the literal
abbrev pub holds_inside : List ℕ → List ℕ → Bool
holds_inside literal bytes =
    list_any (λ ending. starts_with nat_eq ending literal) (endings bytes)

-- the folding of each ASCII byte; other bytes are treated as some ASCII byte
abbrev pub folded_bytes : List ℕ → List ℕ
folded_bytes bytes = map (λ b. simple_fold (b % 128)) bytes

-- the bytes fold to the foldings of the literal's characters
abbrev pub folds_alike : List ℕ → List ℕ → Bool
folds_alike literal bytes = bytes_eq (folded_bytes bytes) (folded literal)

-- and so does a prefix, or a suffix, of the literal's length
abbrev pub front_folds_alike : List ℕ → List ℕ → Bool
front_folds_alike literal bytes = folds_alike literal (take (length literal) bytes)

abbrev pub end_folds_alike : List ℕ → List ℕ → Bool
end_folds_alike literal bytes = folds_alike literal (drop (length bytes - length literal) bytes)
