use Rattle.std.proofs.Common.{◌≡◌, ◌++◌, true, ◌+◌, ◌-◌, ap, arith, length, refl, subst, ◌∙◌}
use Rattle.std.specs.Prelude.{chars, string_bytes}
use Rattle.std.proofs.lemmas.Str.{IsCharBoundary-start}
use Rattle.regex.specs.Strings.{matcher_pattern}
use Rattle.vortex_sql_patterns.specs.Matched.{IsFoundAt}
use Rattle.vortex_sql_patterns.specs.Replacing.{found_at, group_in, replaced, replaced_on, written}
use Rattle.vortex_sql_patterns.proofs.Steps.{replaced_end, replaced_step, still}
use Rattle.vortex_sql_patterns.proofs.replacing.replaced_all.Goals as goal

pub matches-init : goal.matches-init
matches-init c =
    let re = matcher_pattern c.args.matcher.now in
    let bs = c.args.text.now in
    let rs = c.args.replacement.now in
    let room : length bs + 1 - 0 ≡ length bs + 1 = omega arith in
    record {
      same = refl;
      cut = IsCharBoundary-start bs c.utf8.text;
      order = omega arith;
      left =
          ap (λ x. x ++ still re bs rs 0 0) c.new-made.ensures.bytes
          ∙ ap (λ n. replaced_on (λ f. written (group_in bs f) (chars rs)) bs (found_at re bs) n 0
          (found_at re bs 0)) room;
    }

pub matches-preserved : goal.matches-preserved
matches-preserved c =
    let re = matcher_pattern c.args.matcher.now in
    let bs = c.args.text.now in
    let rs = c.args.replacement.now in
    let before = string_bytes c.matches.made in
    let made = string_bytes c.push_match.new.made in
    let total = replaced true bs rs (found_at re bs) in
    let step = replaced_step re bs rs before made total c.matches.at c.matches.start
    c.in_ok-end.field-0 (c.in-Some.end, c.in-Some.next)
    (subst (λ r. IsFoundAt r bs c.matches.at c.matches.start rs before made c.in_ok-end.field-0)
    c.matches.invariant.same c.in_ok-end.ensures.value) c.in-Some.is c.matches.invariant.left in
    record {
      same = c.in_ok-end.ensures.same ∙ c.matches.invariant.same;
      cut = step.0;
      order = step.1;
      left = step.4;
    }

pub matches-smaller : goal.matches-smaller
matches-smaller c =
    let re = matcher_pattern c.args.matcher.now in
    let bs = c.args.text.now in
    let rs = c.args.replacement.now in
    let before = string_bytes c.matches.made in
    let made = string_bytes c.push_match.new.made in
    let total = replaced true bs rs (found_at re bs) in
    let step = replaced_step re bs rs before made total c.matches.at c.matches.start
    c.in_ok-end.field-0 (c.in-Some.end, c.in-Some.next)
    (subst (λ r. IsFoundAt r bs c.matches.at c.matches.start rs before made c.in_ok-end.field-0)
    c.matches.invariant.same c.in_ok-end.ensures.value) c.in-Some.is c.matches.invariant.left in
    omega (arith, step.2, step.3)

pub returns-clause-value : goal.returns-clause-value
returns-clause-value c =
    let re = matcher_pattern c.args.matcher.now in
    let bs = c.args.text.now in
    let rs = c.args.replacement.now in
    let before = string_bytes c.matches.made in
    let made = string_bytes c.push_match.new.made in
    let total = replaced true bs rs (found_at re bs) in
    c.in_ok-push_str.ensures.bytes ∙ ap (λ x. made ++ x) c.range_from.ensures.value
    ∙ replaced_end re bs rs before made total c.matches.at c.matches.start c.in_ok-end.field-0
    (subst (λ r. IsFoundAt r bs c.matches.at c.matches.start rs before made c.in_ok-end.field-0)
    c.matches.invariant.same c.in_ok-end.ensures.value) c.in_default.is c.matches.invariant.left
