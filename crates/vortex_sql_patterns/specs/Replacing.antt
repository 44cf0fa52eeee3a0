-- Texts in which what matches a pattern is replaced.
use Rattle.std.specs.Prelude.{◌+◌, ◌-◌, ◌==◌, ◌&&◌, ◌||◌, ◌++◌, ℕ, zero, suc, List, [], ◌∷◌}
use Rattle.std.specs.Prelude.{Option, Some, None, Bool, nat_le, if◌then◌else◌, chars, length}
use Rattle.std.specs.Prelude.{option_map, drop, slice_range, encode_utf8}
use Rattle.regex.specs.Patterns.{Match, Re, find_str}
use Rattle.regex.specs.Replace.{bytes_of}
use Rattle.regex.specs.Writes.{group_of}
use Rattle.vortex_sql_patterns.specs.PatternFunctions.{behind}

-- what is seen of a match: where it begins and ends, and what each of its groups spans
pub record Found : Type 0 where
  pub start : ℕ
  pub end : ℕ
  pub group : ℕ → Option (ℕ × ℕ)

abbrev pub seen : Match → Found
seen m = record { start = m.start; end = m.trace.end; group = group_of m }

-- the leftmost match that begins at a byte or behind it
abbrev pub found_at : Re → List ℕ → ℕ → Option Found
found_at re bs at = option_map seen (find_str re bs at)

-- what a group spans, where group 0 is the match; nothing where it took no part
abbrev pub group_in : List ℕ → Found → ℕ → List ℕ
group_in bs f n = bytes_of bs (if n == 0 then Some (f.start, f.end) else f.group n)

-- the signs that mean something behind a backslash: another one, `&`, and `1` to `9`
abbrev pub is_escaped : ℕ → Bool
is_escaped d = (d == 92) || ((d == 38) || (nat_le 49 d && nat_le d 57))

-- a backslash, the match, or the group of that number
abbrev pub escaped : (ℕ → List ℕ) → ℕ → List ℕ
escaped group d = if d == 92 then 92 ∷ [] else if d == 38 then group 0 else group (d - 48)

-- what the characters of a replacement write; any others stand for themselves
abbrev pub written : (ℕ → List ℕ) → List ℕ → List ℕ
written group [] = []
written group (c ∷ []) = encode_utf8 c
written group (c ∷ d ∷ cs) =
    if (c == 92) && is_escaped d then escaped group d ++ written group cs
    else encode_utf8 c ++ written group (d ∷ cs)

-- the text from a byte on, with something written in place of a match and those behind it, but of
-- no more than n
abbrev pub replaced_on : (Found → List ℕ) → List ℕ → (ℕ → Option Found) → ℕ → ℕ → Option Found
    → List ℕ
replaced_on write bs next zero at o = drop at bs
replaced_on write bs next (suc n) at None = drop at bs
replaced_on write bs next (suc n) at (Some f) =
    slice_range bs at f.start
    ++ (write f ++ replaced_on write bs next n f.end (next (behind (f.start, f.end))))

-- each match, or the first alone
abbrev pub limit : Bool → List ℕ → ℕ
limit all bs = if all then length bs + 1 else 1

abbrev pub replaced : Bool → List ℕ → List ℕ → (ℕ → Option Found) → List ℕ
replaced all bs rs next =
    replaced_on (λ f. written (group_in bs f) (chars rs)) bs next (limit all bs) 0 (next 0)
