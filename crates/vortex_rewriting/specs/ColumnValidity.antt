-- A column's validity as a column: constant unless it is a list of bits.
use Rattle.std.specs.Prelude.{Bool, true, false, length}
use Rattle.vortex_types.specs.LogicalTypes.{bool_type}
use Rattle.vortex_types.specs.Values.{truth}
use Rattle.vortex_types.specs.ScalarView.{ScalarView}
use Rattle.vortex_columns.specs.ColumnView.{ColumnView, constant_column}
use Rattle.vortex_columns.specs.ValidityView.{ValidityForm, all_invalid, array}
use Rattle.vortex_interface.specs.ValidityRules.{validity_column}

abbrev pub truth_scalar : Bool → ScalarView
truth_scalar b = record { dtype = bool_type false; value = truth b }

abbrev pub validity_by_form : ValidityForm → ColumnView → ColumnView
validity_by_form array c = validity_column c
validity_by_form all_invalid c = constant_column (truth_scalar false) (length c.rows)
validity_by_form form c = constant_column (truth_scalar true) (length c.rows)

abbrev pub validity_as_column : ColumnView → ColumnView
validity_as_column c = validity_by_form c.form c
