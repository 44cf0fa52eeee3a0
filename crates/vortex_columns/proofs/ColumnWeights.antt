-- The weight and the depth of growing lists of columns, and of the fields of a struct.
use Rattle.std.proofs.Common.{◌≡◌, ◌+◌, ◌*◌, ℕ, List, [], ◌∷◌, ◌++◌, arith, max, ap, map}
use denote.Param.Weighed.{most}
use Rattle.vortex_columns.specs.declared.column.Column.TheDeep.{size-Column}
use Rattle.vortex_types.specs.LogicalTypes.{type_depth, Fields, no_fields, field}
use Rattle.vortex_columns.specs.ColumnView.{ColumnView}
use Rattle.vortex_columns.specs.Stored.{AreFields}
use Rattle.vortex_columns.specs.Taken.{taken}
use Rattle.vortex_columns.specs.ColumnParts.{type_weight, fields_weight, column_weights, deepest}

pub weights_push : (xs : List ColumnView) (x : ColumnView)
    → column_weights (xs ++ x ∷ []) ≡ column_weights xs + type_weight x.dtype
weights_push [] x = omega arith
weights_push (y ∷ ys) x = omega (arith, weights_push ys x)

pub deepest_push : (xs : List ColumnView) (x : ColumnView)
    → deepest (xs ++ x ∷ []) ≡ max (deepest xs) (type_depth x.dtype + 1)
deepest_push [] x = omega arith
deepest_push (y ∷ ys) x = omega (arith, deepest_push ys x)

pub weights_append : (xs ys : List ColumnView)
    → column_weights (xs ++ ys) ≡ column_weights xs + column_weights ys
weights_append [] ys = omega arith
weights_append (x ∷ xs) ys = omega (arith, weights_append xs ys)

pub deepest_append : (xs ys : List ColumnView)
    → deepest (xs ++ ys) ≡ max (deepest xs) (deepest ys)
deepest_append [] ys = omega arith
deepest_append (x ∷ xs) ys = omega (arith, deepest_append xs ys)

-- the measure of a call for these columns
pub sizes : (cs : List ColumnView) → most size-Column cs ≡ 3 * deepest cs
sizes [] = omega arith
sizes (c ∷ cs) = omega (arith, sizes cs)

pub ruleset weights = (weights_push, deepest_push, weights_append, deepest_append)

-- the fields of a struct have the weight of its type
pub field_weights : (n : ℕ) (fs : Fields) (cs : List ColumnView) → AreFields n fs cs
    → column_weights cs ≡ fields_weight fs
field_weights n no_fields [] h = omega arith
field_weights n (field name t fs) (c ∷ cs) h =
    omega (arith, ap type_weight h.0, field_weights n fs cs h.3)
field_weights n no_fields (c ∷ cs) h = absurd h
field_weights n (field name t fs) [] h = absurd h

-- taken rows have the same types
pub weights_taken : (ps : List ℕ) (cs : List ColumnView)
    → column_weights (map (taken ps) cs) ≡ column_weights cs
weights_taken ps [] = omega arith
weights_taken ps (c ∷ cs) = omega (arith, weights_taken ps cs)
