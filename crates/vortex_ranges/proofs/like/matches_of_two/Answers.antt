use Rattle.vortex_ranges.specs.BoundViews.{range_of}
use Rattle.vortex_ranges.proofs.LikeAdmits.{none_match}
use Rattle.vortex_ranges.proofs.LikeCertain.{all_match}
use Rattle.std.proofs.Common.{◌≡◌, subst, List, ℕ, Some, None}
use Rattle.std.specs.Option.{option_map}
use Rattle.vortex_ranges.specs.PrefixTests.{TellsPrefix}
use Rattle.vortex_ranges.proofs.like.matches_of_two.Goals as goal

pub returns-in_ok-matches_of-in-Some-clause-matches : goal.returns-in_ok-matches_of-in-Some-clause-matches
returns-in_ok-matches_of-in-Some-clause-matches c =
    let r = range_of c.args.text.now in
    let s = range_of c.args.pattern.now in
    let known = c.in-Some.pattern.now in
    let told = c.in_ok-matches_of-in-Some.ensures.like in (
      λ e. none_match c.args.options r s known c.if-options.false c.in-Some.ensures.only (told.0 e),
      λ e. all_match c.args.options r s known c.if-options.false c.in-Some.ensures.only (told.1 e),
    )

-- of the pattern that is found
pub returns-in-None-clause-exact : goal.returns-in-None-clause-exact
returns-in-None-clause-exact c = λ plain pattern u e.
    let never : None ≡ Some pattern =
    subst (λ o. option_map (λ t. t.now) o ≡ Some pattern) c.in-None.is
    (c.only_text.ensures.found pattern u e) in
    cc

pub returns-in_ok-matches_of-in-Some-clause-exact : goal.returns-in_ok-matches_of-in-Some-clause-exact
returns-in_ok-matches_of-in-Some-clause-exact c = λ plain pattern u e.
    let w = c.in-Some in
    let found : Some w.pattern.now ≡ Some pattern =
    subst (λ o. option_map (λ t. t.now) o ≡ Some pattern) w.is
    (c.only_text.ensures.found pattern u e) in
    let same : w.pattern.now ≡ pattern = cc in
    let told = c.in_ok-matches_of-in-Some in
    subst (λ (bs : List ℕ). TellsPrefix c.args.options.escape (range_of c.args.text.now) bs told.field-0)
    same told.ensures.exact
