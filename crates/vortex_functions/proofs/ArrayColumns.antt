-- The array of a column.
use Rattle.std.proofs.Common.{◌≡◌, ℕ, ◌<◌, refl, sym, ap, subst, ◌∙◌, Option, Some, None, length}
use Rattle.std.proofs.Common.{arith, true}
use Rattle.std.specs.Prelude.{[], IfSome}
use Rattle.vortex_types.specs.ScalarView.{ScalarView}
use Rattle.vortex_columns.specs.ColumnView.{ColumnView, row, constant_column, null_column}
use Rattle.vortex_types.specs.Values.{Value, null, is_null}
use Rattle.vortex_types.specs.LogicalTypes.{null_type}
use Rattle.vortex_types.specs.Typing.{HasType}
use Rattle.std.proofs.lemmas.List.FromFn.{get_or-map-range_with_len, length-map-range_with_len}
use Rattle.vortex_interface.specs.Meaning.{Meaning}
use Rattle.vortex_interface.specs.Eval.{HasTreeRows}
use Rattle.vortex_interface.specs.Rewrites.{HasTypedRow}
use Rattle.vortex_functions.specs.Arrays.{Array, held_or_constant, column_tree, tree_in, rows_in}
use Rattle.vortex_functions.specs.Arrays.{AreRowsTyped}
use Rattle.vortex_functions.specs.ArrayLeaves.{TellsConstant}
use Rattle.vortex_functions.proofs.Execution.{constant_rows}

module _ {V O : Type 0} (m : Meaning V O) where
  -- a column has the rows of its array
  pub column_rows : (self : Array V O) (c : ColumnView) (n : ℕ) → self ≡ (column_tree c, n)
      → length c.rows ≡ n → TellsConstant c → HasTreeRows m [] (rows_in self) (tree_in self) c
  column_rows self c n is count h =
      subst (λ (a : Array V O). HasTreeRows m [] (rows_in a) (tree_in a) c) (sym is)
      (go c.constant h)
    where
      go : (o : Option ScalarView) → IfSome o (λ s. c ≡ constant_column s (length c.rows))
          → HasTreeRows m [] n (held_or_constant c o) c
      go None p = record { dtype = refl; count = count; each = λ i lt. refl }
      go (Some s) p =
          constant_rows m [] n (held_or_constant c (Some s)) s c refl
          (p ∙ ap (constant_column s) count)

-- nulls have their type
null_row : (n i : ℕ) → i < n → row (null_column n).rows i ≡ null
null_row n i lt = get_or-map-range_with_len (λ i. null) 0 n i i null lt (omega arith)

nulls_typed : (n i : ℕ) → i < n → HasTypedRow (null_column n) i
nulls_typed n i lt =
    let is = sym (null_row n i lt) in
    record {
      within = subst (λ k. i < k) (sym (length-map-range_with_len (λ (i : ℕ). null) 0 n)) lt;
      typed = subst (λ (v : Value). HasType null_type v) is refl;
      told = subst (λ (v : Value). is_null v ≡ true) is refl;
    }

-- nulls are within that many rows
pub nulls_stand : (n : ℕ) (c : ColumnView) → c ≡ null_column n
    → (length c.rows ≡ n) × TellsConstant c
nulls_stand n c e =
    subst (λ (d : ColumnView). (length d.rows ≡ n) × TellsConstant d) (sym e)
    (length-map-range_with_len (λ i. null) 0 n, tt)

pub nulls_are_typed : (V O : Type 0) (n : ℕ) (c : ColumnView) → c ≡ null_column n
    → AreRowsTyped {V = V} {O = O} n (column_tree c)
nulls_are_typed V O n c e =
    subst (λ (d : ColumnView). AreRowsTyped {V = V} {O = O} n (column_tree d)) (sym e)
    (nulls_typed n)
