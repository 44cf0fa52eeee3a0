use Rattle.std.proofs.Common.{false, sym, ap, ◌∙◌}
use Rattle.std.specs.Prelude.{unwrap_or}
use Rattle.vortex_types.specs.Values.{truth}
use Rattle.vortex_arrow.proofs.Cells.{constant_told}
use Rattle.vortex_arrow.proofs.copying.constant_truth.Goals as goal

pub returns-in-None : goal.returns-in-None
returns-in-None c =
    absurd (c.requires.constant (record { bool = c.requires.kind; computed = c.in-None.ensures }))

pub returns-in-Some : goal.returns-in-Some
returns-in-Some c = λ i h.
    let s = c.in-Some.scalar.now in
    let is = c.unwrap_or.ensures ∙ ap (λ o. unwrap_or o false) c.as_bool_opt.ensures in
    λ valid.
    constant_told c.args.column.now s c.in-Some.ensures c.requires.kind c.dtype-typed.ensures.typed
    i h valid
    ∙ ap truth (sym is)
