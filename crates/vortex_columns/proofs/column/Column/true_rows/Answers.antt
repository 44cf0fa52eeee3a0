use Rattle.std.proofs.Common.{rules, ap, sym, ◌∙◌, ◌≡◌, length}
use Rattle.vortex_columns.specs.TrueRows.{is_true}
use Rattle.vortex_columns.proofs.TrueCodes.{one_more_true, one_more_other, are_rows}
use Rattle.vortex_columns.proofs.column.Column.true_rows.Goals as goal
use Rattle.vortex_columns.proofs.column.Column.true_rows.Goals.{then-is_true+in_ok-push, else-is_true}

pub loop-i-preserved : goal.loop-i-preserved
loop-i-preserved c =
    let rows = c.args.self.now.rows in
    let i = c.loop-i.i in
    let said = sym (ap is_true c.cell.ensures.value) ∙ sym c.is_true.ensures in
    elim c.if-is_true.branch [
      | then-is_true+in_ok-push w ↦
          one_more_true rows i c.loop-i.codes.items c.if-is_true.codes.items c.loop-i.invariant
          (ap (λ v. v.items) w.codes-is ∙ w.in_ok-push.ensures.items)
          (said ∙ w.if-is_true.true)
      | else-is_true w ↦
          ap (λ v. v.items) w.codes-is
          ∙ one_more_other rows i c.loop-i.codes.items c.loop-i.invariant
          (said ∙ w.if-is_true.false)
    ]

pub returns-clause-within : goal.returns-clause-within
returns-clause-within c =
    let rows = c.args.self.now.rows in
    let i = c.loop-i.i in
    let over : i ≡ length rows = search rules in (
      search rules,
      are_rows rows i c.loop-i.codes.items (sym over) c.loop-i.invariant,
    )
