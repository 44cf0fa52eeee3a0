use Rattle.std.proofs.Common.{◌+◌, ◌∙◌, get_or, pos, sym, rules, FitsSigned, to_z, of_z, w64}
use Rattle.std.proofs.Common.{to_z-of_z}
use Rattle.vortex_float_bits.specs.FloatBits.{wide_key}
use Rattle.yurkije_lent.proofs.FloatSides.{patterns_told, pattern_keys}
use Rattle.yurkije_lent.proofs.float_lanes.hold_as_floats.Goals as goal

pub returns-in-Some : goal.returns-in-Some
returns-in-Some g c =
    let xs = c.in_ok-lefts.lefts.now in
    let ys = c.in-Some.rights.now in
    patterns_told g.P.Comparison.operator c.patterns_hold.result xs c.args.at
    (g.L.Numbers.number_at c.args.left.now) (g.R.Numbers.number_at c.args.right.now)
    (λ j. wide_key (get_or ys j (pos 0))) c.in_ok-lefts.ensures.count c.in_ok-lefts.ensures.each
    (pattern_keys ys c.args.at (g.R.Numbers.number_at c.args.right.now) c.in-Some.ensures.count
    c.in-Some.ensures.each) c.patterns_hold.ensures

pub returns : goal.returns
returns g c =
    let key = c.in_ok-key.key in
    let fits : FitsSigned w64 key = record { sfits = search rules } in
    patterns_told g.P.Comparison.operator c.patterns_hold_with.result c.in_ok-lefts.lefts.now
    c.args.at (g.L.Numbers.number_at c.args.left.now) (g.R.Numbers.number_at c.args.right.now)
    (λ j. to_z w64 (of_z w64 key)) c.in_ok-lefts.ensures.count c.in_ok-lefts.ensures.each
    (λ j lt. to_z-of_z fits ∙ sym (c.in_ok-key.ensures (c.args.at + j)))
    c.patterns_hold_with.ensures
