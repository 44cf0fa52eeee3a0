use Rattle.std.proofs.Common.{◌≡◌, ◌∙◌, ap, subst, sym, Some, List, ℕ}
use Rattle.std.specs.Cow.{cow_str_bytes}
use Rattle.std.specs.Str.{chars}
use Rattle.vortex_like.specs.Tokens.{tokens_of}
use Rattle.vortex_like.specs.Variants.{AreLiteral, IsVariantOf}
use Rattle.vortex_ranges.specs.BoundViews.{range_of}
use Rattle.vortex_ranges.proofs.LikeCertain.{all_equal}
use Rattle.vortex_like.proofs.Literals.{same_bytes}
use Rattle.vortex_ranges.specs.Prefixes.{shares_prefix, IsPrefixPattern}
use Rattle.vortex_ranges.specs.PrefixTests.{TellsShared}
use Rattle.vortex_ranges.proofs.like.must_be_variant.Goals as goal

pub returns-in-Exact-Borrowed-clause-all : goal.returns-in-Exact-Borrowed-clause-all
returns-in-Exact-Borrowed-clause-all c = λ e.
    let w = c.in-Exact-Borrowed in
    let pattern = chars c.args.pattern.now in
    let tokens = tokens_of c.args.escape pattern in
    let v = subst (λ v. IsVariantOf c.args.escape pattern (Some v)) w.is c.requires in
    let own = rw w.is at w.field-0-is in
    all_equal c.args.escape (range_of c.args.text.now) c.args.pattern.now w.exact.now
    (subst (λ t. AreLiteral tokens (chars (cow_str_bytes t))) own v.0) (c.must_equal.ensures e)

pub returns-in-Exact-Owned-clause-all : goal.returns-in-Exact-Owned-clause-all
returns-in-Exact-Owned-clause-all c = λ e.
    let w = c.in-Exact-Owned in
    let pattern = chars c.args.pattern.now in
    let tokens = tokens_of c.args.escape pattern in
    let v = subst (λ v. IsVariantOf c.args.escape pattern (Some v)) w.is c.requires in
    let own = rw w.is at w.field-0-is in
    all_equal c.args.escape (range_of c.args.text.now) c.args.pattern.now c.as_str.result.now
    (subst (λ (bs : List ℕ). AreLiteral tokens (chars bs)) (sym c.as_str.ensures.value)
    (subst (λ t. AreLiteral tokens (chars (cow_str_bytes t))) own v.0))
    (c.must_equal-in-Exact-Owned.ensures e)

pub returns-in_ok-must_begin-in-Prefix-Borrowed-clause-exact : goal.returns-in_ok-must_begin-in-Prefix-Borrowed-clause-exact
returns-in_ok-must_begin-in-Prefix-Borrowed-clause-exact c =
    let w = c.in-Prefix-Borrowed in
    let r = range_of c.args.text.now in
    let pattern = c.args.pattern.now in
    let begin = c.in_ok-must_begin-in-Prefix-Borrowed in
    let own = rw w.is at w.field-0-is in
    subst (λ v. TellsShared c.args.escape r pattern v begin.field-0) (sym w.is)
    (λ bytes u e h.
    let same : w.prefix.now ≡ bytes =
    same_bytes w.prefix.now bytes begin.ensures.utf8 u
    (ap (λ t. chars (cow_str_bytes t)) (sym own) ∙ e) in
    begin.ensures.exact
    (subst (λ (bs : List ℕ). IsPrefixPattern c.args.escape pattern bs) (sym same) h)
    ∙ ap (λ (bs : List ℕ). shares_prefix r bs) same)

pub returns-in_ok-must_begin-in-Prefix-Owned-clause-exact : goal.returns-in_ok-must_begin-in-Prefix-Owned-clause-exact
returns-in_ok-must_begin-in-Prefix-Owned-clause-exact c =
    let w = c.in-Prefix-Owned in
    let r = range_of c.args.text.now in
    let pattern = c.args.pattern.now in
    let begin = c.in_ok-must_begin-in-Prefix-Owned in
    let text = c.as_str-in-Prefix-Owned in
    let own = rw w.is at w.field-0-is in
    subst (λ v. TellsShared c.args.escape r pattern v begin.field-0) (sym w.is)
    (λ bytes u e h.
    let same : text.result.now ≡ bytes =
    same_bytes text.result.now bytes begin.ensures.utf8 u
    (ap chars text.ensures.value ∙ ap (λ t. chars (cow_str_bytes t)) (sym own) ∙ e) in
    begin.ensures.exact
    (subst (λ (bs : List ℕ). IsPrefixPattern c.args.escape pattern bs) (sym same) h)
    ∙ ap (λ (bs : List ℕ). shares_prefix r bs) same)
