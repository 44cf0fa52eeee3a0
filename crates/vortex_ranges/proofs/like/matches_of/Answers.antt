use Rattle.std.proofs.Common.{subst, List, ℕ, false, None}
use Rattle.std.specs.Str.{chars}
use Rattle.std.proofs.lemmas.Str.{chars-nil}
use Rattle.vortex_like.specs.Tokens.{tokens_of, Match}
use Rattle.vortex_like.specs.Variants.{IsVariantOf}
use Rattle.vortex_ranges.specs.BoundViews.{range_of}
use Rattle.vortex_ranges.proofs.LikeCertain.{all_any}
use Rattle.vortex_ranges.proofs.PrefixPatterns.{prefix_variant, told_of_variant}
use Rattle.vortex_ranges.proofs.like.matches_of.Goals as goal

pub returns-in_ok-is_matched-in-None-clause-like : goal.returns-in_ok-is_matched-in-None-clause-like
returns-in_ok-is_matched-in-None-clause-like c =
    let pattern = c.args.pattern.now in (
      λ e bytes u a m. cc,
      λ e. all_any c.args.escape (range_of c.args.text.now) pattern
          (subst (λ v. IsVariantOf c.args.escape (chars pattern) v) c.in-None.is
          c.in_ok-variant.ensures.variant)
          (subst (λ (cs : List ℕ). Match false (tokens_of c.args.escape (chars pattern)) cs)
          chars-nil (c.in_ok-is_matched-in-None.ensures.matches e)),
    )

-- of a prefix and `%`
pub returns-in_ok-is_matched-in-None-clause-exact : goal.returns-in_ok-is_matched-in-None-clause-exact
returns-in_ok-is_matched-in-None-clause-exact c = λ prefix u h.
    let pattern = c.args.pattern.now in
    absurd (prefix_variant c.args.escape pattern prefix u h None
    (subst (λ v. IsVariantOf c.args.escape (chars pattern) v) c.in-None.is
    c.in_ok-variant.ensures.variant))

pub returns-in_ok-must_be_variant-in-Some-clause-exact : goal.returns-in_ok-must_be_variant-in-Some-clause-exact
returns-in_ok-must_be_variant-in-Some-clause-exact c = λ prefix u h.
    let pattern = c.args.pattern.now in
    let must = c.in_ok-must_be_variant-in-Some in
    told_of_variant c.args.escape pattern prefix u h (range_of c.args.text.now) c.in-Some.variant
    c.may_be_variant.result must.field-0
    (subst (λ v. IsVariantOf c.args.escape (chars pattern) v) c.in-Some.is
    c.in_ok-variant.ensures.variant)
    c.may_be_variant.ensures.exact must.ensures.exact
