-- What the groups of captures span.
use Rattle.std.proofs.Common.{◌≡◌, ◌==◌, ℕ, ℤ, pos, negsuc, zero, suc, List, Some, true, ap, ap₂, arith, ne_eqb, refl, sym, ◌∙◌}
use Rattle.std.proofs.lemmas.Bool.{cond-false}
use Rattle.std.specs.Prelude.{if◌then◌else◌}
use mathlib.Core.Path.{fun_ext}
use Rattle.regex.specs.Patterns.{Match}
use Rattle.regex.specs.Replace.{bytes_of}
use Rattle.regex.specs.Search.{group_span}
use Rattle.regex.specs.Strings.{captures_haystack, captures_span, match_span, IsCapturesOf}
use Rattle.regex.specs.Writes.{group_of}
use Rattle.regex.specs.declared.string.captures.Captures.{Captures}
use Rattle.vortex_sql_patterns.specs.Items.{captured}
use Rattle.vortex_sql_patterns.specs.PatternFunctions.{spanned}
use Rattle.vortex_sql_patterns.specs.Replacing.{group_in, seen}
use Rattle.vortex_sql_patterns.specs.Lookups.{span_by}

group_zero : (hay : List ℕ) (whole : ℕ × ℕ) (cells : List ℕ)
    → group_span true hay whole cells 0 ≡ Some whole
unfolding group_span
group_zero hay whole cells = refl

span_of : (bs : List ℕ) (m : Match) (c : Captures) → IsCapturesOf bs m c → (n : ℕ)
    → captures_span c n ≡ (if n == 0 then Some (m.start, m.trace.end) else group_of m n)
span_of bs m c h zero =
    group_zero (captures_haystack c) (match_span c.whole) c.groups.now ∙ ap Some h.1.whole_is
span_of bs m c h (suc n) =
    h.2 (suc n) (omega arith)
    ∙ sym (cond-false (suc n == 0) (Some (m.start, m.trace.end)) (group_of m (suc n))
    (ne_eqb (suc n) 0 (λ e. omega (arith, e))))

-- those of the match
pub same_groups : (bs : List ℕ) (m : Match) (c : Captures) → IsCapturesOf bs m c
    → captured c ≡ group_in bs (seen m)
same_groups bs m c h = fun_ext (λ n. ap₂ bytes_of h.0 (span_of bs m c h n))

-- the whole of them
pub whole_span : (bs : List ℕ) (m : Match) (c : Captures) → IsCapturesOf bs m c
    → captures_span c 0 ≡ Some (m.start, m.trace.end)
whole_span bs m c h = span_of bs m c h 0

pub span_by_is : (bs : List ℕ) (m : Match) (c : Captures) → IsCapturesOf bs m c → (n : ℤ)
    → span_by n c ≡ spanned n m
span_by_is bs m c h (pos n) = span_of bs m c h n
span_by_is bs m c h (negsuc n) = refl
