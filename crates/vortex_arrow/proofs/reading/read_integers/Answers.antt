use Rattle.std.proofs.Common.{rules, ◌≡◌, ◌+◌, ◌-◌, ◌∙◌, ap, arith, take, drop}
use Rattle.vortex_columns.specs.ValidityView.{validity_of}
use Rattle.vortex_arrow.proofs.Rows.{integers_from}
use Rattle.vortex_arrow.proofs.reading.read_integers.Goals as goal

pub returns-in-Ok : goal.returns-in-Ok
returns-in-Ok g c =
    let xs = c.args.values.now in
    let from = c.args.from in
    let count = c.args.count in
    let part : c.in_ok-values.values.items ≡ take (from + count - from) (drop from xs) =
    search rules in
    let whole : from + count - from ≡ count = omega arith in
    c.in-Ok.ensures.1
    ∙ integers_from g.T.NativePType.ptype g.T.NativePType.number c.in_ok-values.values.items xs
    (validity_of c.args.validity) from count c.requires.items
    (part ∙ ap (λ k. take k (drop from xs)) whole)
