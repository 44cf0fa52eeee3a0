use Rattle.vortex_types.specs.TypeOf.{type_of}
use Rattle.vortex_ranges.specs.BoundViews.{range_of}
use Rattle.vortex_ranges.proofs.LikeAdmits.{like-calls, like-prefix}
use Rattle.vortex_ranges.proofs.like.like_range.Goals as goal

pub returns-clause-admits : goal.returns-clause-admits
returns-clause-admits c =
    like-calls c.args.options (type_of c.args.dtype.now) c.args.inputs.now
    (range_of c.in_ok-like_of_two.field-0)
    c.in-len2.len_at_least c.in-len2.len_below c.in_ok-like_of_two.ensures.admits

pub returns-clause-prefix : goal.returns-clause-prefix
returns-clause-prefix c =
    like-prefix c.args.options c.args.inputs.now (range_of c.in_ok-like_of_two.field-0)
    c.in-len2.len_at_least c.in-len2.len_below c.in_ok-like_of_two.ensures.prefix
