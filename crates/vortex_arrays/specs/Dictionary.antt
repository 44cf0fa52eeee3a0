-- Distinct values, and for each row a code: the index of its value.
use Rattle.std.specs.Prelude.{ℕ, ◌<◌, ◌&&◌, List, map, length, Bool, None, is_some, refl}
use Rattle.std.specs.List.{Contains}
use Rattle.std.specs.Coded.{Coded, code_by, coded×, coded_ℕ, coded_list}
use Rattle.vortex_columns.specs.ColumnView.{ColumnView, row, coded_column}
use Rattle.vortex_columns.specs.ValidityView.{array}
use Rattle.vortex_operators.specs.declared.operators.CompareOperator.{CompareOperator}
use Rattle.vortex_operators.specs.declared.operators.Operator.{Operator}
use Rattle.vortex_operators.specs.Operators.{is_boolean}

pub record DictView : Type 0 where
  pub values : ColumnView
  pub codes : List ℕ

abbrev pub coded_dict : Coded DictView
coded_dict =
    let parts = coded× coded_column (coded_list coded_ℕ) in
    code_by (ColumnView × List ℕ) parts
    (λ d. (d.values, d.codes)) (λ p. record { values = p.0; codes = p.1 }) (λ _. refl)

-- the column that it represents: in each row the value of the row's code
abbrev pub decoded : DictView → ColumnView
decoded d =
    record {
      dtype = d.values.dtype;
      rows = map (row d.values.rows) d.codes;
      constant = None;
      form = array;
    }

-- each of that many values has a code
abbrev pub AreCoded : ℕ → List ℕ → Type 0
AreCoded n codes = (k : ℕ) → k < n → Contains codes k

abbrev pub AllCoded : DictView → Type 0
AllCoded d = AreCoded (length d.values.rows) d.codes

-- where its kernels return a column: for a constant column
abbrev pub compares_beside : ColumnView → CompareOperator → Bool
compares_beside other op = is_some other.constant

abbrev pub combines_beside : ColumnView → Operator → Bool
combines_beside other op = is_boolean op && is_some other.constant
