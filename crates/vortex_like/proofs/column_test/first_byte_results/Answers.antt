use Rattle.std.proofs.Common.{◌∙◌, List, sym, subst}
use Rattle.vortex_like.specs.FirstBytes.{AreFirstBytes}
use Rattle.vortex_like.specs.Tokens.{Token}
use Rattle.vortex_like.proofs.FirstBytes.{first_needed}
use Rattle.vortex_like.proofs.column_test.first_byte_results.Goals as goal

pub tested_after-requires-clause-needed : goal.tested_after-requires-clause-needed
tested_after-requires-clause-needed g c = λ bytes u e.
    let tokens = c.args.tests.0.now in
    let may = c.in_ok-first.first.may.items in
    first_needed tokens.case_insensitive tokens.tokens.items may
    (subst (λ (ts : List Token). AreFirstBytes tokens.case_insensitive ts may)
    c.as_slice-own.ensures.value c.in_ok-first.ensures)
    bytes u (sym (c.requires.same bytes) ∙ e)
