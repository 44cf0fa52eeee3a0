use Rattle.std.proofs.Common.{rules, sym}
use Rattle.vortex_columns.specs.ColumnView.{row}
use Rattle.rowfn_batches.proofs.TruthFields.{null_written, truth_written}
use Rattle.rowfn_batches.proofs.truths.push_truth_in.Goals as goal

pub returns-then-not-is_valid : goal.returns-then-not-is_valid
returns-then-not-is_valid c =
    rw
    (sym
    (null_written c.args.format.now
    (row c.args.rows.now.rows c.args.place) c.is_valid.result c.is_valid.ensures
    c.if-not-is_valid.true))
    (search rules)

pub returns : goal.returns
returns c =
    rw
    (sym
    (truth_written c.args.format.now c.args.truths (row c.args.rows.now.rows c.args.place)
    c.is_valid.result c.requires.truths c.is_valid.ensures c.if-not-is_valid.false c.value.result
    c.value.ensures))
    c.push_truth.ensures

pub push_truth-requires-clause-yes : goal.push_truth-requires-clause-yes
push_truth-requires-clause-yes c = c.requires.truths.bare_yes

pub push_truth-requires-clause-no : goal.push_truth-requires-clause-no
push_truth-requires-clause-no c = c.requires.truths.bare_no
