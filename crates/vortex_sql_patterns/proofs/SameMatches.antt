-- What a compiled pattern matches.
use Rattle.std.proofs.Common.{◌≡◌, ◌≢◌, ◌≤◌, ◌<◌, ◌⊎◌, inl, inr, ℕ, zero, suc, ℤ, pos, negsuc, true, List, Option, Some, None}
use Rattle.std.proofs.Common.{IsSomeAnd, length, get_or, refl, ap, sym, ◌∙◌, cond, subst}
use Rattle.std.specs.Prelude.{chars, not, option_and_then, option_map, IfSome, ◌==◌, if◌then◌else◌}
use mathlib.Core.Path.{fun_ext}
use Rattle.std.proofs.lemmas.Bool.{le-leb, lt-leb}
use Rattle.regex.specs.Patterns.{Match, Re, SameCaptures, default_config, find_str, Reads, Refuses}
use Rattle.regex.specs.Strings.{regex_names, regex_pattern, regex_source, regex_config, IsReadFromSource}
use Rattle.regex.specs.Names.{names_of}
use Rattle.regex.specs.Failures.{IsRightKind}
use Rattle.regex.specs.Sources.{IsRefusal}
use Rattle.regex.specs.declared.error.Error.{Error}
use Rattle.regex.specs.declared.error.Error.TheVariants.{Syntax}
use Rattle.regex_syntax.specs.declared.error.Error as parser
use Rattle.regex.specs.declared.string.regex.Regex.{Regex}
use Rattle.regex.proofs.ForCallers.{is_match_alike, span_alike}
use Rattle.regex_syntax.specs.Brackets.{Nested}
use Rattle.regex_syntax.specs.Grammar.{Names, group_count, read}
use Rattle.regex_syntax.specs.declared.error.ErrorKind.{ErrorKind}
use Rattle.regex_syntax.specs.declared.error.ErrorKind.TheVariants.{OutOfMemory, NestLimitExceeded}
use Rattle.vortex_types.specs.Values.{truth}
use Rattle.vortex_interface.specs.Outcomes.{gives}
use Rattle.vortex_sql_patterns.specs.Patterns.{groups_in, groups_read, pattern_in, shallow, IsPatternOf}
use Rattle.vortex_sql_patterns.specs.PatternFunctions.{answered, asked, counted, group_at, IsReadBy}
use Rattle.vortex_sql_patterns.specs.PatternFunctions.{count_in, spanned, part, place, read_by}
use Rattle.vortex_sql_patterns.specs.Replacing.{Found, seen}
use Rattle.vortex_sql_patterns.proofs.Alike.{found_as}
use Rattle.vortex_sql_patterns.specs.declared.functions.PatternFunction.{PatternFunction}
use Rattle.vortex_sql_patterns.specs.declared.functions.PatternFunction.TheVariants as function

-- what the grammar reads, where it is nested at most so deep, and else none
shallow_read : (o : Option (Nested Re × Names)) (a : Re) (names : Names)
    → IsSomeAnd o (λ (re, found). (re.depth ≤ 250) × SameCaptures a re.value × (names ≡ found)
    × (group_count a ≤ length names))
    → (re : Re) × (shallow o ≡ Some re) × SameCaptures a re
shallow_read None a names h = absurd h
shallow_read (Some (re, found)) a names h =
    (re.value, ap (λ b. cond b (Some re.value) None) (le-leb re.depth 250 h.0), h.1)

pub pattern_of_regex : (r : Regex) (ps : List ℕ) → regex_source r ≡ ps
    → regex_config r ≡ default_config → IsReadFromSource r → IsPatternOf ps (regex_pattern r)
unfolding Reads
pattern_of_regex r ps is_source is_config is_read =
    shallow_read (read default_config (chars ps)) (regex_pattern r) (names_of r.pattern.names.items)
    (rw (is_source, is_config) at is_read)

-- and as many names as its groups
groups_named : (o : Option (Nested Re × Names)) (a : Re) (names : Names)
    → IsSomeAnd o (λ (re, found). (re.depth ≤ 250) × SameCaptures a re.value × (names ≡ found)
    × (group_count a ≤ length names))
    → length names ≡ groups_read o
groups_named None a names h = absurd h
groups_named (Some (re, found)) a names h = ap length h.2

pub groups_of_regex : (r : Regex) (ps : List ℕ) → regex_source r ≡ ps
    → regex_config r ≡ default_config → IsReadFromSource r
    → length (regex_names r) ≡ groups_in ps
unfolding Reads
groups_of_regex r ps is_source is_config is_read =
    groups_named (read default_config (chars ps)) (regex_pattern r) (names_of r.pattern.names.items)
    (rw (is_source, is_config) at is_read)

refused : (o : Option (Nested Re × Names)) (k : ErrorKind) → k ≢ OutOfMemory
    → (k ≡ OutOfMemory) ⊎ ((o ≡ None)
    ⊎ ((k ≡ NestLimitExceeded) × IfSome o (λ (re, _). 250 < re.depth)))
    → shallow o ≡ None
refused o k right (inl e) = absurd (right e)
refused o k right (inr (inl e)) = ap shallow e
refused None k right (inr (inr h)) = refl
refused (Some (re, found)) k right (inr (inr h)) =
    ap (λ b. cond b (Some re.value) None) (lt-leb re.depth 250 h.1)

pub no_pattern : (ps : List ℕ) (x : Error) (e : parser.Error) → x ≡ Syntax e
    → IsRightKind default_config ps x → IsRefusal default_config ps x → pattern_in ps ≡ None
unfolding Refuses
no_pattern ps x e is right refusal =
    refused (read default_config (chars ps)) e.kind (subst (IsRightKind default_config ps) is right)
    (refusal e is)

abbrev seen_span : ℤ → Found → Option (ℕ × ℕ)
seen_span (pos n) f = if n == 0 then Some (f.start, f.end) else f.group n
seen_span (negsuc n) f = None

through : (n : ℤ) (o : Option Match)
    → option_and_then (spanned n) o ≡ option_and_then (seen_span n) (option_map seen o)
through n None = refl
through (pos n) (Some m) = refl
through (negsuc n) (Some m) = refl

-- of an expression that matches as the pattern does, the same is found in a text
module _ (bs : List ℕ) (bytes : (k : ℕ) → get_or bs k 0 < 256) (re as_read : Re)
    (same : SameCaptures re as_read) where
  group_alike : (n : ℤ) → group_at n as_read bs ≡ group_at n re bs
  group_alike n =
      through n (find_str as_read bs 0)
      ∙ ap (option_and_then (seen_span n)) (sym (found_as bs bytes re as_read same 0))
      ∙ sym (through n (find_str re bs 0))

  asked_alike : (n : ℤ) (f : PatternFunction) → asked f n bs as_read ≡ asked f n bs re
  asked_alike n function.Part = ap (part bs) (group_alike n)
  asked_alike n function.Like =
      ap (λ b. gives (truth b)) (sym (is_match_alike same bs bytes true 0))
  asked_alike n function.AnyCase =
      ap (λ b. gives (truth b)) (sym (is_match_alike same bs bytes true 0))
  asked_alike n function.NotLike =
      ap (λ b. gives (truth (not b))) (sym (is_match_alike same bs bytes true 0))
  asked_alike n function.NotAnyCase =
      ap (λ b. gives (truth (not b))) (sym (is_match_alike same bs bytes true 0))
  asked_alike n function.Substr = ap (part bs) (sym (span_alike same bs bytes true 0))
  asked_alike n function.Instr =
      ap (λ o. counted (place bs o)) (sym (span_alike same bs bytes true 0))
  asked_alike n function.Count =
      ap (λ next. counted (count_in bs next)) (fun_ext (λ at. sym (span_alike same bs bytes true at)))

pub same_answer : (f : PatternFunction) (n : ℤ) (bs ps : List ℕ) (re : Re) → IsReadBy f ps re
    → ((k : ℕ) → get_or bs k 0 < 256)
    → answered f n bs (pattern_in (read_by f ps)) ≡ asked f n bs re
same_answer f n bs ps re (as_read, e, same) bytes =
    ap (answered f n bs) e ∙ asked_alike bs bytes re as_read same n f
