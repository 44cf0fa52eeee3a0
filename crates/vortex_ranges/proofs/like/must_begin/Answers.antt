use Rattle.std.proofs.Common.{◌≡◌, ◌∙◌, sym, ap, ℕ, List}
use Rattle.vortex_ranges.specs.BoundViews.{range_of}
use Rattle.vortex_ranges.specs.Prefixes.{shares_prefix}
use Rattle.vortex_ranges.proofs.LikeCertain.{all_begin}
use Rattle.vortex_ranges.proofs.PrefixPatterns.{prefix_itself}
use Rattle.vortex_ranges.proofs.like.must_begin.Goals as goal

pub returns-in_ok-is_matched-clause-all : goal.returns-in_ok-is_matched-clause-all
returns-in_ok-is_matched-clause-all c = λ e.
    let r = range_of c.args.text.now in
    let p = c.args.prefix.now in
    let is : c.shares_prefix.result ≡ shares_prefix r p =
    c.shares_prefix.ensures
    ∙ ap (λ (bs : List ℕ). shares_prefix r bs) c.as_bytes.ensures.value in
    all_begin c.args.escape r c.args.pattern.now p c.utf8.prefix c.requires
    (sym is ∙ c.if-shares_prefix.true) (c.in_ok-is_matched.ensures.matches e)

pub returns-in_ok-is_matched-clause-exact : goal.returns-in_ok-is_matched-clause-exact
returns-in_ok-is_matched-clause-exact c = λ h.
    let r = range_of c.args.text.now in
    let p = c.args.prefix.now in
    let is : c.shares_prefix.result ≡ shares_prefix r p =
    c.shares_prefix.ensures
    ∙ ap (λ (bs : List ℕ). shares_prefix r bs) c.as_bytes.ensures.value in
    c.in_ok-is_matched.ensures.test
    ∙ prefix_itself c.args.escape c.args.pattern.now p c.utf8.prefix h
    ∙ sym (sym is ∙ c.if-shares_prefix.true)

pub returns-else-shares_prefix-clause-exact : goal.returns-else-shares_prefix-clause-exact
returns-else-shares_prefix-clause-exact c = λ h.
    let r = range_of c.args.text.now in
    let p = c.args.prefix.now in
    let is : c.shares_prefix.result ≡ shares_prefix r p =
    c.shares_prefix.ensures
    ∙ ap (λ (bs : List ℕ). shares_prefix r bs) c.as_bytes.ensures.value in
    sym (sym is ∙ c.if-shares_prefix.false)
