-- The columns of a batch whose truth values are read in any spelling.
use Rattle.std.specs.Prelude.{ℕ, List, Bool, Option, Some, None, map, get_or, if◌then◌else◌}
use Rattle.std.specs.List.{range_with_len}
use Rattle.vortex_types.specs.LogicalTypes.{Fields, field_count, field_type, is_bool_type}
use Rattle.rowfn_csv.specs.declared.truths.Spelled.{Spelled}

-- a declared column at its place: its truth values are, where it has any
abbrev pub spelled_at : Fields → List ℕ → ℕ → Spelled
spelled_at ds places j = record {
  place = get_or places j 0;
  is_truth = is_bool_type (field_type j ds);
}

abbrev pub spelled_columns : Fields → List ℕ → List Spelled
spelled_columns ds places = map (spelled_at ds places) (range_with_len 0 (field_count ds))

-- the columns so, where that is asked
abbrev pub spelled_where : Bool → Fields → List ℕ → Option (List Spelled)
spelled_where any ds places = if any then Some (spelled_columns ds places) else None
