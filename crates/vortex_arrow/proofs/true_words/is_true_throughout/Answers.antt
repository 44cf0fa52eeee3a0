use Rattle.std.proofs.Common.{false, sym, ap, ◌∙◌}
use Rattle.std.specs.Prelude.{unwrap_or}
use Rattle.vortex_types.specs.Values.{null}
use Rattle.vortex_columns.specs.ColumnView.{row}
use Rattle.vortex_arrow.proofs.Selected.{constant_true, never_true}
use Rattle.vortex_arrow.proofs.true_words.is_true_throughout.Goals as goal

pub returns-in-Some : goal.returns-in-Some
returns-in-Some c = λ i lt.
    let is = c.unwrap_or.ensures ∙ ap (λ o. unwrap_or o false) c.as_bool_opt.ensures in
    constant_true c.args.column.now c.in-Some.scalar.now c.in-Some.ensures i lt ∙ sym is

pub returns-in-None : goal.returns-in-None
returns-in-None c = λ i lt.
    never_true c.args.column.now.dtype (row c.args.column.now.rows i)
    (λ kind. c.requires (record { bool = kind; computed = c.in-None.ensures }))
    (c.dtype-typed.ensures.typed i null lt)
