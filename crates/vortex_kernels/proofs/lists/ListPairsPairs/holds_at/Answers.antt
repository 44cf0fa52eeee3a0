use Rattle.std.proofs.Common.{◌≡◌, ◌∙◌, sym, rules}
use Rattle.vortex_kernels.specs.Ranges.{part_order}
use Rattle.vortex_kernels.proofs.FieldOrders.{unequal_alike}
use Rattle.vortex_kernels.proofs.PartOrders.{uneven}
use Rattle.vortex_kernels.proofs.lists.ListPairsPairs.holds_at.Goals as goal

pub returns-then-holds : goal.returns-then-holds
returns-then-holds g c =
    let p = c.args.self.now in
    let i = c.args.i in
    let ls = g.E.Elements.left p.elements in
    let rs = g.E.Elements.right p.elements in
    let a = g.R.Ranges.start p.left i in
    let m = g.R.Ranges.size p.left i in
    let b = g.R.Ranges.start p.right i in
    let n = g.R.Ranges.size p.right i in
    let same : c.holds.result ≡ c.holds-then-left_count-right_count.result =
    search (rules, c.if-holds.true) in
    unequal_alike g.P.Comparison.operator (part_order ls a m rs b n) c.holds-then-holds.result
    c.holds-then-holds.ensures
    (sym c.holds.ensures ∙ same ∙ c.holds-then-left_count-right_count.ensures)
    (uneven ls a m rs b n c.requires.1.0 c.requires.1.1
    (λ e.
    c.if-left_count-right_count.true
    (c.range-left.ensures.size ∙ e ∙ sym c.range-right.ensures.size)))
