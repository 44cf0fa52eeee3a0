use Rattle.std.proofs.Common.{ap, ◌∙◌}
use Rattle.std.specs.Prelude.{string_bytes}
use Rattle.vortex_types.specs.TypeOf.{type_of}
use Rattle.vortex_columns.specs.ColumnView.{constant_column}
use Rattle.vortex_functions.specs.ExpressionLeaves.{expression_leaf}
use Rattle.vortex_functions.proofs.Execution.{leaf_rows, constant_rows}
use Rattle.vortex_functions.proofs.NodeKinds.{leaf_borrowed}
use Rattle.vortex_functions.proofs.expression.ExpressionLeaf.rows.Goals as goal

pub returns-in-Column-clause-answer : goal.returns-in-Column-clause-answer
returns-in-Column-clause-answer g c =
    leaf_rows g.C.ScalarFnVTable.meaning c.args.columns.now c.args.row_count
    (expression_leaf c.args.self.now) c.in-Column.place (string_bytes c.in-Column.field-1)
    (type_of c.in-Column.field-2) c.index-columns-place.result
    (ap expression_leaf c.in-Column.is) c.requires.0 c.requires.1 c.index-columns-place.is

pub returns-in-Column-clause-borrowed : goal.returns-in-Column-clause-borrowed
returns-in-Column-clause-borrowed g c =
    leaf_borrowed _ _ c.args.columns.now c.args.self.now c.in-Column.place c.in-Column.field-1
    c.in-Column.field-2 _ c.in-Column.is c.requires.0 c.index-columns-place.is

pub returns-in_ok-constant-in-Literal-clause-answer :
    goal.returns-in_ok-constant-in-Literal-clause-answer
returns-in_ok-constant-in-Literal-clause-answer g c =
    constant_rows g.C.ScalarFnVTable.meaning c.args.columns.now c.args.row_count
    (expression_leaf c.args.self.now) c.in-Literal.scalar c.in_ok-constant-in-Literal.field-0
    (ap expression_leaf c.in-Literal.is)
    (c.in_ok-constant-in-Literal.ensures
    ∙ ap (λ s. constant_column s c.args.row_count) c.in_ok-scalar-in-Literal.ensures)
