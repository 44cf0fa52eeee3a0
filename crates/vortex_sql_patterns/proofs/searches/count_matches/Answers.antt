use Rattle.std.proofs.Common.{◌≡◌, ◌<◌, Some, None, ap, arith, option_map, sym, ◌∙◌}
use Rattle.regex.specs.Strings.{match_span, matcher_pattern}
use Rattle.vortex_sql_patterns.specs.PatternFunctions.{count_in, span_at}
use Rattle.vortex_sql_patterns.proofs.Counts.{later, no_more, one_more, within}
use Rattle.vortex_sql_patterns.proofs.searches.count_matches.Goals as goal

pub overflow_add-count : goal.overflow_add-count
overflow_add-count c =
    let re = matcher_pattern c.args.matcher.now in
    let bs = c.args.text.now in
    let s = match_span c.in-Some.found in
    let found : span_at re bs c.loop-found.start ≡ Some s =
    ap (λ x. span_at x bs c.loop-found.start) (sym c.loop-found.invariant.same)
    ∙ sym c.in-Some.ensures.found in
    let w = within re bs c.loop-found.start s found in
    let far = later s w.1 in
    let fits : c.behind-start.result < 18446744073709551616 = c.behind-start.type_inv in
    record { fits = omega (arith, w, far, c.behind-start.ensures, c.loop-found.invariant.few, fits) }

pub loop-found-smaller : goal.loop-found-smaller
loop-found-smaller c =
    let re = matcher_pattern c.args.matcher.now in
    let bs = c.args.text.now in
    let s = match_span c.in-Some.found in
    let found : span_at re bs c.loop-found.start ≡ Some s =
    ap (λ x. span_at x bs c.loop-found.start) (sym c.loop-found.invariant.same)
    ∙ sym c.in-Some.ensures.found in
    let w = within re bs c.loop-found.start s found in
    let far = later s w.1 in
    omega (arith, w, far, c.behind-start.ensures)

pub loop-found-preserved : goal.loop-found-preserved
loop-found-preserved c =
    let re = matcher_pattern c.args.matcher.now in
    let bs = c.args.text.now in
    let s = match_span c.in-Some.found in
    let found : span_at re bs c.loop-found.start ≡ Some s =
    ap (λ x. span_at x bs c.loop-found.start) (sym c.loop-found.invariant.same)
    ∙ sym c.in-Some.ensures.found in
    let w = within re bs c.loop-found.start s found in
    let far = later s w.1 in
    record {
      same = c.in-Some.ensures.same ∙ c.loop-found.invariant.same;
      few = omega (arith, w, far, c.behind-start.ensures, c.loop-found.invariant.few);
      all = rw c.behind-start.ensures
          (one_more re bs c.loop-found.count c.loop-found.start (count_in bs (span_at re bs)) s
          found c.loop-found.invariant.all);
    }

pub returns-clause-value : goal.returns-clause-value
returns-clause-value c =
    let re = matcher_pattern c.args.matcher.now in
    let bs = c.args.text.now in
    let none : span_at re bs c.loop-found.start ≡ None =
    ap (λ x. span_at x bs c.loop-found.start) (sym c.loop-found.invariant.same)
    ∙ sym c.find_at.ensures.found ∙ ap (option_map match_span) c.in_default.is in
    no_more re bs c.loop-found.count c.loop-found.start (count_in bs (span_at re bs)) none
    c.loop-found.invariant.all
