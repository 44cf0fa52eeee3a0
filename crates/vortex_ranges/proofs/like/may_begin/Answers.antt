use Rattle.std.proofs.Common.{◌≡◌, ◌∙◌, sym, ap, ℕ, List, not}
use Rattle.vortex_ranges.specs.BoundViews.{range_of}
use Rattle.vortex_ranges.specs.Prefixes.{excludes_prefix}
use Rattle.vortex_ranges.proofs.LikeAdmits.{none_begins, sure}
use Rattle.vortex_ranges.proofs.like.may_begin.Goals as goal

pub returns-clause-none : goal.returns-clause-none
returns-clause-none c = λ e.
    let r = range_of c.args.text.now in
    let p = c.args.prefix.now in
    let is : c.excludes_prefix.result ≡ excludes_prefix r p =
    c.excludes_prefix.ensures
    ∙ ap (λ (bs : List ℕ). excludes_prefix r bs) c.as_bytes.ensures.value in
    none_begins r p c.utf8.prefix (sym is ∙ sure c.excludes_prefix.result e)

pub returns-clause-exact : goal.returns-clause-exact
returns-clause-exact c =
    let r = range_of c.args.text.now in
    ap not
    (c.excludes_prefix.ensures
    ∙ ap (λ (bs : List ℕ). excludes_prefix r bs) c.as_bytes.ensures.value)
