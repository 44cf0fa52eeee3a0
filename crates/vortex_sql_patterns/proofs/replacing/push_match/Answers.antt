use Rattle.std.proofs.Common.{◌≡◌, ◌++◌, ℕ, ap, ap₂, append_assoc, arith, option_map, ◌∙◌, subst}
use Rattle.std.specs.Prelude.{chars, slice_range, string_bytes, IsCharBoundary}
use Rattle.std.proofs.lemmas.Option.{same_Some}
use Rattle.regex.specs.Strings.{match_span, matcher_pattern}
use Rattle.vortex_sql_patterns.specs.Replacing.{group_in, seen, written}
use Rattle.vortex_sql_patterns.specs.PatternFunctions.{behind}
use Rattle.vortex_sql_patterns.proofs.Groups.{same_groups, whole_span}
use Rattle.vortex_sql_patterns.proofs.Steps.{within}
use Rattle.vortex_sql_patterns.proofs.replacing.push_match.Goals as goal

pub range-requires-clause-start_le_end : goal.range-requires-clause-start_le_end
range-requires-clause-start_le_end c =
    let bs = c.args.text.now in
    let m = c.in-Some.ensures.found.0 in
    let w = within (matcher_pattern c.args.matcher.now) bs c.args.start (seen m)
    (ap (option_map seen) c.in-Some.ensures.found.1) in
    let spans : match_span c.get_match-found.result ≡ (m.start, m.trace.end) =
    same_Some _ _ (c.get_match-found.ensures.found ∙ whole_span bs m c.in-Some.groups c.in-Some.ensures.found.2) in
    omega (arith, w, c.requires.order, c.start.ensures, ap (λ (x : ℕ × ℕ). x.0) spans)

pub returns-clause-value : goal.returns-clause-value
returns-clause-value c =
    let bs = c.args.text.now in
    let m = c.in-Some.ensures.found.0 in
    let h = c.in-Some.ensures.found.2 in
    let spans : match_span c.get_match-found.result ≡ (m.start, m.trace.end) =
    same_Some _ _ (c.get_match-found.ensures.found ∙ whole_span bs m c.in-Some.groups h) in
    let writes = ap (λ g. written g (chars c.args.replacement.now)) (same_groups bs m c.in-Some.groups h) in
    let hay = c.get_match-found.ensures.within ∙ h.0 in
    let cut : IsCharBoundary bs m.trace.end =
    subst (IsCharBoundary bs) (ap (λ (x : ℕ × ℕ). x.1) spans)
    (subst (λ b. IsCharBoundary b (match_span c.get_match-found.result).1) hay
    c.get_match-found.result.ends_cleanly) in
    let before = c.in_ok-push_str.ensures.bytes
    ∙ ap (λ x. string_bytes c.args.made.now ++ x) (c.range.ensures.value
    ∙ ap (slice_range bs c.args.at) (c.start.ensures ∙ ap (λ (x : ℕ × ℕ). x.0) spans)) in
    let made = c.in_ok-push_written.ensures ∙ ap₂ ◌++◌ before writes in (
      seen m,
      ap (option_map seen) c.in-Some.ensures.found.1,
      ap₂ (λ (a b : ℕ). (a, b)) (c.end.ensures ∙ ap (λ (x : ℕ × ℕ). x.1) spans)
          (c.behind.ensures ∙ ap behind spans),
      cut,
      made
          ∙ append_assoc (string_bytes c.args.made.now) (slice_range bs c.args.at m.start)
          (written (group_in bs (seen m)) (chars c.args.replacement.now)),
    )
