use Rattle.std.proofs.Common.{◌≡◌, ◌∙◌, sym, ap, subst, List, ℕ, not}
use Rattle.std.specs.Cow.{cow_str_bytes}
use Rattle.std.specs.Str.{chars}
use Rattle.vortex_like.proofs.Literals.{same_bytes}
use Rattle.vortex_ranges.specs.BoundViews.{range_of}
use Rattle.vortex_ranges.specs.Prefixes.{excludes_prefix}
use Rattle.vortex_ranges.specs.PrefixTests.{TellsBegun}
use Rattle.vortex_ranges.proofs.like.may_be_variant.Goals as goal

pub returns-in-Prefix-Borrowed-clause-exact : goal.returns-in-Prefix-Borrowed-clause-exact
returns-in-Prefix-Borrowed-clause-exact c =
    let w = c.in-Prefix-Borrowed in
    let r = range_of c.args.text.now in
    let own = rw w.is at w.field-0-is in
    subst (λ v. TellsBegun r v c.may_begin.result) (sym w.is)
    (λ bytes u e.
    let same : w.prefix.now ≡ bytes =
    same_bytes w.prefix.now bytes c.may_begin.ensures.utf8 u
    (ap (λ t. chars (cow_str_bytes t)) (sym own) ∙ e) in
    c.may_begin.ensures.exact ∙ ap (λ (bs : List ℕ). not (excludes_prefix r bs)) same)

pub returns-in-Prefix-Owned-clause-exact : goal.returns-in-Prefix-Owned-clause-exact
returns-in-Prefix-Owned-clause-exact c =
    let w = c.in-Prefix-Owned in
    let r = range_of c.args.text.now in
    let own = rw w.is at w.field-0-is in
    let text = c.as_str-in-Prefix-Owned in
    let begin = c.may_begin-in-Prefix-Owned in
    subst (λ v. TellsBegun r v begin.result) (sym w.is)
    (λ bytes u e.
    let same : text.result.now ≡ bytes =
    same_bytes text.result.now bytes begin.ensures.utf8 u
    (ap chars text.ensures.value ∙ ap (λ t. chars (cow_str_bytes t)) (sym own) ∙ e) in
    begin.ensures.exact ∙ ap (λ (bs : List ℕ). not (excludes_prefix r bs)) same)
