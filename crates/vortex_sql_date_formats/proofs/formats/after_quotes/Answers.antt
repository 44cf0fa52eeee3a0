use Rattle.std.proofs.Common.{◌≡◌, ◌∙◌, get_or, arith, rules, sym}
use Rattle.std.specs.Prelude.{not}
use Rattle.vortex_sql_date_formats.proofs.ItemLemmas.{fewer_passed, quote_passed}
use Rattle.vortex_sql_date_formats.proofs.formats.after_quotes.Goals as goal

pub loop-rest-preserved : goal.loop-rest-preserved
loop-rest-preserved c =
    let rest = c.loop-rest.rest.now in
    let quote : get_or rest 0 0 ≡ 34 = search rules in
    let fewer = fewer_passed c.loop-rest.within rest c.in-34.len_at_least in
    record {
      same = sym (quote_passed c.loop-rest.within rest c.in-34.len_at_least quote) ∙ c.loop-rest.invariant.same;
      bound = omega (arith, fewer, c.loop-rest.invariant.bound);
    }
