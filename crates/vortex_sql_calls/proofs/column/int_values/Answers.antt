use Rattle.std.proofs.Common.{sym, ap, ◌∙◌, map, subst, arith, [], ◌∷◌, ◌<◌, ◌+◌, length, refl}
use Rattle.std.proofs.lemmas.List.{map-append, get_or_read_under}
use Rattle.vortex_columns.specs.declared.cell.Cell.TheVariants as cell
use Rattle.vortex_types.specs.TypeOf.{type_of}
use Rattle.vortex_types.specs.Typing.{HasType}
use Rattle.vortex_columns.specs.Cells.{cell_value}
use Rattle.vortex_sql_calls.specs.Columns.{AreNumbers}
use Rattle.vortex_sql_calls.proofs.Columns.{no_numbers, numbers_more, number_fits}
use Rattle.vortex_sql_calls.proofs.column.int_values.Goals as goal

pub loop-i-init : goal.loop-i-init
loop-i-init g c =
    subst (λ xs. AreNumbers c.args.cells.now 0 (map g.T.NativePType.number xs))
    (sym c.new-values.ensures.items) (no_numbers c.args.cells.now)

pub loop-i-preserved : goal.loop-i-preserved
loop-i-preserved g c =
    let of = g.T.NativePType.number in
    let cells = c.args.cells.now in
    let t = type_of c.args.dtype.now in
    let i = c.loop-i.i in
    let y = c.int_at.result in
    let before = c.loop-i.values.items in
    let lt : i < length cells = omega (arith, c.loop-i-test.true) in
    let same =
    get_or_read_under cells i (length cells) c.index-cells-i.result cell.Null c.index-cells-i.is lt
    refl in
    let made = ap (map of) c.in_ok-push.ensures.items ∙ map-append of before (y ∷ []) in
    subst (AreNumbers cells (i + 1)) (sym made)
    (numbers_more cells i (map of before) (of y) c.loop-i.invariant
    (λ z e. c.int_at.ensures z (ap cell_value same ∙ e)
    (number_fits g.T.NativePType.ptype t z c.requires.integers
    (subst (HasType t) e (c.requires.typed i lt)))))
