use Rattle.std.proofs.Common.{◌≡◌, true, false, arith, rules}
use Rattle.std.specs.Str.{chars, IsAscii, IsNotAscii}
use Rattle.vortex_like.specs.Forms.{form_of, plain_form, folded_form}
use Rattle.vortex_like.specs.declared.form.LikeForm.TheVariants.{Tokens}
use Rattle.vortex_like.proofs.AsciiPatterns.{ascii_pattern, no_ascii_pattern, ascii_form}
use Rattle.vortex_like.proofs.AsciiPatterns.{form_no_ascii, form_no_promise, test_as}
use Rattle.vortex_like.proofs.form_test.form_test.Goals.{else-ascii_haystack-via-then-ascii_haystack+else-is_ascii}
use Rattle.vortex_like.proofs.form_test.form_test.Goals.{else-ascii_haystack-via-else-ascii_haystack}
use Rattle.vortex_like.proofs.form_test.form_test.Goals as goal

pub returns-then-is_ascii : goal.returns-then-is_ascii
returns-then-is_ascii c =
    let pattern = chars c.args.pattern.now in
    let folds : c.args.case_insensitive ≡ true = search rules in
    let ascii : c.args.ascii_haystack ≡ true = search rules in
    let told : IsAscii c.args.pattern.now = grind (arith, c.if-is_ascii.ensures.cases) in
    test_as c.folded_test.result c.args.escape pattern c.args.case_insensitive
    (folded_form (plain_form c.args.escape pattern))
    (form_of c.args.escape pattern c.args.case_insensitive c.args.ascii_haystack) folds
    (ascii_form c.args.escape pattern c.args.case_insensitive c.args.ascii_haystack folds ascii
    (ascii_pattern c.args.pattern.now told)) c.folded_test.ensures

pub returns : goal.returns
returns c =
    let pattern = chars c.args.pattern.now in
    let folds : c.args.case_insensitive ≡ true = search rules in
    let form : form_of c.args.escape pattern c.args.case_insensitive c.args.ascii_haystack
    ≡ Tokens =
    elim c.else-ascii_haystack.branch [
      | else-ascii_haystack-via-then-ascii_haystack+else-is_ascii w ↦ (
          let told : IsNotAscii c.args.pattern.now = w.if-is_ascii.ensures.cases in
          form_no_ascii c.args.escape pattern c.args.case_insensitive c.args.ascii_haystack folds
          (no_ascii_pattern c.args.pattern.now c.utf8.pattern told))
      | else-ascii_haystack-via-else-ascii_haystack w ↦ (
          let none : c.args.ascii_haystack ≡ false = w.if-ascii_haystack.false in
          form_no_promise c.args.escape pattern c.args.case_insensitive c.args.ascii_haystack folds
          none)
    ] in
    test_as c.token_test.result c.args.escape pattern c.args.case_insensitive Tokens
    (form_of c.args.escape pattern c.args.case_insensitive c.args.ascii_haystack) folds form
    c.token_test.ensures
