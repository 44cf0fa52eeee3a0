-- The code of a session. No contract cites this module.
use Rattle.std.specs.Prelude.{ℕ, List, Option, refl}
use Rattle.std.specs.Coded.{Coded, code_by, coded×, coded_ℕ, coded_list, coded_option}
use Rattle.vortex_types.specs.Codes.{coded_fields}
use Rattle.vortex_types.specs.LogicalTypes.{Fields}
use Rattle.vortex_columns.specs.ColumnView.{ColumnView, coded_column}
use Rattle.vortex_interface.specs.Trees.{Tree}
use Rattle.vortex_interface.specs.TreeCodes.{coded_tree}
use Rattle.vortex_functions.specs.declared.custom.NoCustom.{NoCustom}
use Rattle.vortex_interface.specs.declared.options.EmptyOptions.{EmptyOptions}
use Rattle.rowfn_scripts.specs.Sessions.{SessionView}

abbrev Parts : Type 0 → Type 0 → Type 0
Parts V O =
    Option ℕ × (Fields × (List ColumnView × (List (Tree V O) × List ℕ)))

module _ {V O : Type 0} where
  abbrev parts_of : SessionView V O → Parts V O
  parts_of s = (s.row_count, (s.fields, (s.columns, (s.stack, s.printed))))

  abbrev of_parts : Parts V O → SessionView V O
  of_parts p = record {
    row_count = p.0;
    fields = p.1.0;
    columns = p.1.1.0;
    stack = p.1.1.1.0;
    printed = p.1.1.1.1;
  }

  abbrev pub coded_session : Coded V → Coded O → Coded (SessionView V O)
  coded_session v o =
      let trees = coded× (coded_list (coded_tree v o)) (coded_list coded_ℕ) in
      let columns = coded× (coded_list coded_column) trees in
      let parts = coded× (coded_option coded_ℕ) (coded× coded_fields columns) in
      code_by (Parts V O) parts parts_of of_parts (λ _. refl)

-- a session without callers' functions
abbrev coded_none : Coded NoCustom
coded_none = code_by ℕ coded_ℕ (λ _. 0) (λ _. record {}) (λ _. refl)

abbrev coded_empty : Coded EmptyOptions
coded_empty = code_by ℕ coded_ℕ (λ _. 0) (λ _. record {}) (λ _. refl)

abbrev pub coded_script : Coded (SessionView NoCustom EmptyOptions)
coded_script = coded_session coded_none coded_empty
