use Rattle.std.proofs.Common.{◌≡◌, ◌+◌, ◌-◌, ◌∙◌, ap, arith, take, drop}
use Rattle.vortex_types.specs.declared.dtype.PType.TheVariants.{I32}
use Rattle.vortex_columns.specs.ValidityView.{validity_of}
use Rattle.vortex_arrow.specs.Floats.{narrow_key}
use Rattle.vortex_arrow.proofs.Floated.{changed_from}
use Rattle.vortex_arrow.proofs.floats.read_narrow_floats.Goals as goal

pub returns-in-Ok : goal.returns-in-Ok
returns-in-Ok c =
    let xs = c.args.patterns.now in
    let from = c.args.from in
    let count = c.args.count in
    let whole : from + count - from ≡ count = omega arith in
    c.in-Ok.ensures.1
    ∙ changed_from I32 narrow_key c.in_ok-keys.keys.items (take (from + count - from) (drop from xs)) xs
    (validity_of c.args.validity) from count c.requires.items c.in_ok-keys.ensures
    (ap (λ k. take k (drop from xs)) whole)
