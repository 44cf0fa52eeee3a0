use Rattle.std.proofs.Common.{sym, ap, ◌∙◌, subst, arith, [], ◌∷◌, ◌<◌, ◌+◌, length, refl}
use Rattle.std.proofs.lemmas.List.{map-append, get_or_read_under}
use Rattle.vortex_columns.specs.declared.cell.Cell.TheVariants as cell
use Rattle.vortex_columns.specs.Cells.{cell_value}
use Rattle.vortex_columns.specs.Made.{borrowed_texts}
use Rattle.vortex_sql_calls.specs.Columns.{AreTexts}
use Rattle.vortex_sql_calls.proofs.Columns.{no_texts, texts_more}
use Rattle.vortex_sql_calls.proofs.column.text_values.Goals as goal

pub loop-i-init : goal.loop-i-init
loop-i-init c =
    subst (λ xs. AreTexts c.args.cells.now 0 (borrowed_texts xs)) (sym c.new-values.ensures.items)
    (no_texts c.args.cells.now)

pub loop-i-preserved : goal.loop-i-preserved
loop-i-preserved c =
    let cells = c.args.cells.now in
    let i = c.loop-i.i in
    let y = c.text_at.result in
    let before = c.loop-i.values.items in
    let lt : i < length cells = omega (arith, c.loop-i-test.true) in
    let same =
    get_or_read_under cells i (length cells) c.index-cells-i.result cell.Null c.index-cells-i.is lt
    refl in
    let made = ap borrowed_texts c.in_ok-push.ensures.items ∙ map-append (λ t. t.now) before (y ∷ []) in
    subst (AreTexts cells (i + 1)) (sym made)
    (texts_more cells i (borrowed_texts before) y.now c.loop-i.invariant
    (λ z e. c.text_at.ensures z (ap cell_value same ∙ e)))
