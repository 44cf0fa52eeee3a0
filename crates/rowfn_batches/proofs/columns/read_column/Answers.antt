use Rattle.std.proofs.Common.{◌≡◌, Option, map, sym, ap, subst, ◌∙◌}
use Rattle.std.proofs.lemmas.List.{length-map}
use Rattle.vortex_errors.specs.Answers.{AnswersUnlessMemory}
use Rattle.vortex_types.specs.LogicalTypes.{field_type}
use Rattle.vortex_types.specs.TypeOf.{struct_fields, type_of}
use Rattle.vortex_columns.specs.ColumnView.{ColumnView}
use Rattle.vortex_cells.specs.Cells.{cells_apart}
use Rattle.vortex_logical_cells.specs.StoredFields.{column_of_kind}
use Rattle.vortex_expressions.specs.Calls.{kind_at}
use Rattle.rowfn_batches.specs.Fields.{field_in}
use Rattle.rowfn_batches.specs.Batches.{column_at}
use Rattle.rowfn_batches.proofs.columns.read_column.Goals as goal

pub returns : goal.returns
returns c =
    let ds = struct_fields c.args.declared.now in
    let ks = c.args.kinds.now in
    let fs = map field_in c.args.fields.now in
    let n = c.args.row_count in
    let j = c.args.column in
    let k = c.kind_at.result in
    let apart = cells_apart fs c.len-width.result n j in
    let same : column_of_kind k (type_of c.dtype.result.now) apart ≡ column_at ds ks fs n j =
    ap (λ u. column_of_kind k u apart) c.dtype.ensures
    ∙ ap (λ m. column_of_kind m (field_type j ds) apart) c.kind_at.ensures
    ∙ ap (λ w. column_of_kind (kind_at ks j) (field_type j ds) (cells_apart fs w n j))
    c.len-width.ensures in
    subst
    (λ (x : Option ColumnView).
    AnswersUnlessMemory c.column_of_kind.result (λ made. made ≡ x))
    same c.column_of_kind.ensures

pub column_of_kind-requires-clause-column : goal.column_of_kind-requires-clause-column
column_of_kind-requires-clause-column c = rw c.len-width.ensures c.requires.column

pub column_of_kind-requires-clause-even : goal.column_of_kind-requires-clause-even
column_of_kind-requires-clause-even c =
    rw c.len-width.ensures (sym (length-map c.args.fields.now field_in) ∙ c.requires.even)
