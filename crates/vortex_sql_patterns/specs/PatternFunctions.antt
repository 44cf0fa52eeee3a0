-- What is asked of a text and a pattern: `regexp_like`, `regexp_substr`, `regexp_instr` and
-- `regexp_count`, what the operators `~*`, `!~` and `!~*` are, and `substring(s from p)`.
use Rattle.std.specs.Prelude.{◌+◌, ◌==◌, codes, ℕ, ℤ, zero, suc, pos, negsuc, List, Option, Some, None}
use Rattle.std.specs.Prelude.{Bool, true, false, not, ◌++◌, refl, if◌then◌else◌}
use Rattle.std.specs.Prelude.{chars, is_some, length, nat_lt, option_and_then, option_map}
use Rattle.std.specs.Prelude.{slice_range, take}
use Rattle.regex.specs.Patterns.{Match, Re, find_str, span}
use Rattle.regex.specs.Writes.{group_of}
use Rattle.vortex_errors.specs.declared.arity.Arity.TheVariants.{Exact}
use Rattle.vortex_types.specs.declared.dtype.PType.TheVariants.{I64}
use Rattle.vortex_types.specs.LogicalTypes.{bool_type, integer_type, text_type}
use Rattle.vortex_types.specs.Values.{Value, null, truth}
use Rattle.vortex_interface.specs.Outcomes.{Outcome, gives, faults, GivesType}
use Rattle.vortex_sql_rows.specs.declared.faults.RowFault.TheVariants.{NoPattern, TextTooLong}
use Rattle.vortex_sql_rows.specs.declared.types.Gives.{Gives}
use Rattle.vortex_sql_rows.specs.declared.types.Gives.TheVariants as answer
use Rattle.vortex_sql_rows.specs.declared.types.Kind.TheVariants.{Text}
use Rattle.vortex_sql_rows.specs.declared.types.Nulls.{Nulls}
use Rattle.vortex_sql_rows.specs.declared.types.Nulls.TheVariants.{Always, WhereAny}
use Rattle.vortex_sql_rows.specs.declared.types.Takes.TheVariants.{Alike}
use Rattle.vortex_sql_rows.specs.Faults.{faults_by}
use Rattle.vortex_sql_rows.specs.Integers.{checked, checked_fits, int_or_fault}
use Rattle.vortex_sql_rows.specs.Row.{Row, LawfulRow, NullOnlyBy, row_gives}
use Rattle.vortex_sql_rows.specs.Shapes.{on_one, two_texts, two_texts_lawful, both_texts}
use Rattle.vortex_sql_texts.specs.MadeTexts.{made_fits, text_or_fault}
use Rattle.vortex_sql_rows.specs.Types.{ptype_in}
use Rattle.vortex_sql_patterns.specs.Patterns.{groups_in, pattern_in, IsPatternOf}
use Rattle.vortex_sql_patterns.specs.declared.functions.PatternFunction.{PatternFunction}
use Rattle.vortex_sql_patterns.specs.declared.functions.PatternFunction.TheVariants as function

-- what the leftmost match spans that begins at a byte or behind it
abbrev pub span_at : Re → List ℕ → ℕ → Option (ℕ × ℕ)
span_at re bs at = option_map span (find_str re bs at)

-- the part of a text that a match spans; null where there is none
abbrev pub part : List ℕ → Option (ℕ × ℕ) → Outcome
part bs None = gives null
part bs (Some s) = text_or_fault (slice_range bs s.0 s.1)

-- what a group spans, where group 0 is the match; none where it took no part, and where there is no
-- such group
abbrev pub spanned : ℤ → Match → Option (ℕ × ℕ)
spanned (pos n) m = if n == 0 then Some (span m) else group_of m n
spanned (negsuc n) m = None

-- what it spans in the first match
abbrev pub group_at : ℤ → Re → List ℕ → Option (ℕ × ℕ)
group_at n re bs = option_and_then (spanned n) (find_str re bs 0)

-- the first of so many groups, or group 0 where there is no other
abbrev pub first_of : ℕ → ℤ
first_of count = if nat_lt 1 count then pos 1 else pos 0

-- the place of the character that a match begins with, where the first has place 1; 0 where there
-- is no match
abbrev pub place : List ℕ → Option (ℕ × ℕ) → ℕ
place bs None = 0
place bs (Some s) = length (chars (take s.0 bs)) + 1

-- where the search for the next match begins: behind an empty one a byte further
abbrev pub behind : ℕ × ℕ → ℕ
behind s = if s.0 == s.1 then s.1 + 1 else s.1

-- a match and those behind it, one after the other, but no more than n
abbrev pub count_on : (ℕ → Option (ℕ × ℕ)) → ℕ → Option (ℕ × ℕ) → ℕ
count_on next zero o = 0
count_on next (suc n) None = 0
count_on next (suc n) (Some s) = count_on next n (next (behind s)) + 1

-- a text has at most one more than it has bytes
abbrev pub count_in : List ℕ → (ℕ → Option (ℕ × ℕ)) → ℕ
count_in bs next = count_on next (length bs + 1) (next 0)

abbrev pub counted : ℕ → Outcome
counted n = int_or_fault TextTooLong (checked I64 (pos n))

abbrev pub has_match : Re → List ℕ → Bool
has_match re bs = is_some (find_str re bs 0)

-- whether the pattern has a match in the text, or none, what the first match spans, where it
-- begins, how many matches there are, one after the other, and what group n spans in the first
abbrev pub asked : PatternFunction → ℤ → List ℕ → Re → Outcome
asked function.Like n bs re = gives (truth (has_match re bs))
asked function.AnyCase n bs re = gives (truth (has_match re bs))
asked function.NotLike n bs re = gives (truth (not (has_match re bs)))
asked function.NotAnyCase n bs re = gives (truth (not (has_match re bs)))
asked function.Substr n bs re = part bs (span_at re bs 0)
asked function.Instr n bs re = counted (place bs (span_at re bs 0))
asked function.Count n bs re = counted (count_in bs (span_at re bs))
asked function.Part n bs re = part bs (group_at n re bs)

-- a fault where there is no pattern
abbrev pub answered : PatternFunction → ℤ → List ℕ → Option Re → Outcome
answered f n bs None = faults_by NoPattern
answered f n bs (Some re) = asked f n bs re

-- in a pattern after `(?i)` case does not count
abbrev pub in_any_case : List ℕ → List ℕ
in_any_case ps = codes "(?i)" ++ ps

-- what is read as the pattern
abbrev pub read_by : PatternFunction → List ℕ → List ℕ
read_by function.AnyCase ps = in_any_case ps
read_by function.NotAnyCase ps = in_any_case ps
read_by f ps = ps

-- an expression that matches as the pattern does
abbrev pub IsReadBy : PatternFunction → List ℕ → Re → Type 0
IsReadBy f ps re = IsPatternOf (read_by f ps) re

-- the first group of the pattern that is read
abbrev pub first_group : PatternFunction → List ℕ → ℤ
first_group f ps = first_of (groups_in (read_by f ps))

-- a text and the text of a pattern
abbrev pub answer_to : PatternFunction → List ℕ → List ℕ → Outcome
answer_to f bs ps = answered f (first_group f ps) bs (pattern_in (read_by f ps))

abbrev pub id_of : PatternFunction → List ℕ
id_of function.Like = codes "sql.regexp_like"
id_of function.Substr = codes "sql.regexp_substr"
id_of function.Instr = codes "sql.regexp_instr"
id_of function.Count = codes "sql.regexp_count"
id_of function.AnyCase = codes "sql.texticregexeq"
id_of function.NotLike = codes "sql.textregexne"
id_of function.NotAnyCase = codes "sql.texticregexne"
id_of function.Part = codes "sql.textregexsubstr"

abbrev pub gives_of : PatternFunction → Gives
gives_of function.Like = answer.Truth
gives_of function.AnyCase = answer.Truth
gives_of function.NotLike = answer.Truth
gives_of function.NotAnyCase = answer.Truth
gives_of function.Substr = answer.Text
gives_of function.Part = answer.Text
gives_of function.Instr = answer.Integer I64
gives_of function.Count = answer.Integer I64

-- there may be no part that matches
abbrev pub nulls_of : PatternFunction → Nulls
nulls_of function.Substr = Always
nulls_of function.Part = Always
nulls_of f = WhereAny

abbrev pub pattern_row : PatternFunction → Row
pattern_row f = record {
  id = id_of f;
  arity = Exact 2;
  types = record { takes = Alike Text; nulls = nulls_of f; gives = gives_of f };
  strict = true;
  infallible = false;
  of = two_texts (answer_to f);
}

-- the outcome of a row, null included
abbrev pub outcome_of : PatternFunction → List Value → Outcome
outcome_of f = row_gives (pattern_row f) I64

truth_typed : (n : ℤ) (bs : List ℕ) (o : Option Re)
    → GivesType (bool_type false) (answered function.Like n bs o)
truth_typed n bs None = tt
truth_typed n bs (Some re) = tt

no_truth_typed : (n : ℤ) (bs : List ℕ) (o : Option Re)
    → GivesType (bool_type false) (answered function.NotLike n bs o)
no_truth_typed n bs None = tt
no_truth_typed n bs (Some re) = tt

any_case_typed : (n : ℤ) (bs : List ℕ) (o : Option Re)
    → GivesType (bool_type false) (answered function.AnyCase n bs o)
any_case_typed n bs None = tt
any_case_typed n bs (Some re) = tt

no_any_case_typed : (n : ℤ) (bs : List ℕ) (o : Option Re)
    → GivesType (bool_type false) (answered function.NotAnyCase n bs o)
no_any_case_typed n bs None = tt
no_any_case_typed n bs (Some re) = tt

nullable : (o : Outcome) → GivesType (text_type false) o → GivesType (text_type true) o
nullable (faults f) h = tt
nullable (gives null) h = refl
nullable (gives v) h = h

part_typed : (bs : List ℕ) (o : Option (ℕ × ℕ)) → GivesType (text_type true) (part bs o)
part_typed bs None = refl
part_typed bs (Some s) =
    nullable (text_or_fault (slice_range bs s.0 s.1)) (made_fits (slice_range bs s.0 s.1))

found_typed : (n : ℤ) (bs : List ℕ) (o : Option Re)
    → GivesType (text_type true) (answered function.Substr n bs o)
found_typed n bs None = tt
found_typed n bs (Some re) = part_typed bs (span_at re bs 0)

pub group_typed : (n : ℤ) (bs : List ℕ) (o : Option Re)
    → GivesType (text_type true) (answered function.Part n bs o)
group_typed n bs None = tt
group_typed n bs (Some re) = part_typed bs (group_at n re bs)

substr_typed : (o : Option (List ℕ × List ℕ))
    → GivesType (text_type true) (on_one (λ x. answer_to function.Substr x.0 x.1) o)
substr_typed None = refl
substr_typed (Some x) = found_typed (first_group function.Substr x.1) x.0 (pattern_in x.1)

grouped_typed : (o : Option (List ℕ × List ℕ))
    → GivesType (text_type true) (on_one (λ x. answer_to function.Part x.0 x.1) o)
grouped_typed None = refl
grouped_typed (Some x) = group_typed (first_group function.Part x.1) x.0 (pattern_in x.1)

pub may_be_null : (vs : List Value) (o : Outcome) → NullOnlyBy Always vs o
may_be_null vs (faults f) = tt
may_be_null vs (gives null) = refl
may_be_null vs (gives v) = tt

place_typed : (n : ℤ) (bs : List ℕ) (o : Option Re)
    → GivesType (integer_type I64 false) (answered function.Instr n bs o)
place_typed n bs None = tt
place_typed n bs (Some re) =
    checked_fits TextTooLong I64 (pos (place bs (span_at re bs 0)))

count_typed : (n : ℤ) (bs : List ℕ) (o : Option Re)
    → GivesType (integer_type I64 false) (answered function.Count n bs o)
count_typed n bs None = tt
count_typed n bs (Some re) = checked_fits TextTooLong I64 (pos (count_in bs (span_at re bs)))

pub pattern_lawful : (f : PatternFunction) → LawfulRow (pattern_row f)
pattern_lawful function.AnyCase =
    two_texts_lawful (id_of function.AnyCase) answer.Truth false refl (answer_to function.AnyCase)
    (λ n bs ps u v.
    any_case_typed (first_group function.AnyCase ps) bs (pattern_in (in_any_case ps)))
    (λ bs ps e u v. cc)
pattern_lawful function.NotLike =
    two_texts_lawful (id_of function.NotLike) answer.Truth false refl (answer_to function.NotLike)
    (λ n bs ps u v. no_truth_typed (first_group function.NotLike ps) bs (pattern_in ps))
    (λ bs ps e u v. cc)
pattern_lawful function.NotAnyCase =
    two_texts_lawful (id_of function.NotAnyCase) answer.Truth false refl
    (answer_to function.NotAnyCase)
    (λ n bs ps u v.
    no_any_case_typed (first_group function.NotAnyCase ps) bs (pattern_in (in_any_case ps)))
    (λ bs ps e u v. cc)
pattern_lawful function.Like =
    two_texts_lawful (id_of function.Like) answer.Truth false refl (answer_to function.Like)
    (λ n bs ps u v. truth_typed (first_group function.Like ps) bs (pattern_in ps))
    (λ bs ps e u v. cc)
pattern_lawful function.Substr = record {
  named = refl;
  typed = λ t vs a. substr_typed (both_texts vs);
  nulls = λ t vs a. may_be_null vs ((pattern_row function.Substr).of (ptype_in t) vs);
  settled = λ t vs a e. cc;
  strict = λ e. refl;
}
pattern_lawful function.Part = record {
  named = refl;
  typed = λ t vs a. grouped_typed (both_texts vs);
  nulls = λ t vs a. may_be_null vs ((pattern_row function.Part).of (ptype_in t) vs);
  settled = λ t vs a e. cc;
  strict = λ e. refl;
}
pattern_lawful function.Instr =
    two_texts_lawful (id_of function.Instr) (answer.Integer I64) false refl
    (answer_to function.Instr)
    (λ n bs ps u v. place_typed (first_group function.Instr ps) bs (pattern_in ps))
    (λ bs ps e u v. cc)
pattern_lawful function.Count =
    two_texts_lawful (id_of function.Count) (answer.Integer I64) false refl
    (answer_to function.Count)
    (λ n bs ps u v. count_typed (first_group function.Count ps) bs (pattern_in ps))
    (λ bs ps e u v. cc)
