use Rattle.std.proofs.Common.{◌++◌, ◌∷◌, [], ◌∙◌, ap, sym, List, ℕ}
use Rattle.vortex_columns.specs.ColumnView.{row}
use Rattle.rowfn_batches.specs.Outputs.{value_field}
use Rattle.rowfn_batches.proofs.TruthFields.{null_written, bare_written, ended}
use Rattle.rowfn_batches.proofs.truths.push_truth_line.Goals as goal

pub returns-then-not-truths : goal.returns-then-not-truths
returns-then-not-truths c =
    ended c.push_line_end.result c.args.bytes.now.items c.push_truth_in.new.bytes.items
    c.push_line_end.new.bytes.items
    (value_field c.args.format.now
    (row c.args.rows.now.rows c.args.place))
    c.in_ok-push_truth_in.ensures c.push_line_end.ensures

pub returns-then-not-is_valid : goal.returns-then-not-is_valid
returns-then-not-is_valid c =
    let v = row c.args.rows.now.rows c.args.place in
    ended c.push_line_end-then-not-is_valid.result c.args.bytes.now.items
    c.extend_from_slice.new.self.items
    c.push_line_end-then-not-is_valid.new.bytes.items
    (value_field c.args.format.now v)
    (c.in_ok-extend_from_slice.ensures.items
    ∙ ap (λ (t : List ℕ). c.args.bytes.now.items ++ t)
    (null_written c.args.format.now v c.is_valid.result
    c.is_valid.ensures c.if-not-is_valid.true))
    c.push_line_end-then-not-is_valid.ensures

pub returns : goal.returns
returns c =
    rw
    (sym
    (ap (λ (t : List ℕ). t ++ (10 ∷ []))
    (bare_written c.args.format.now c.args.truths (row c.args.rows.now.rows c.args.place)
    c.is_valid.result c.requires.truths c.if-not-truths.false c.is_valid.ensures
    c.if-not-is_valid.false c.value.result c.value.ensures)))
    c.push_bare_line.ensures
