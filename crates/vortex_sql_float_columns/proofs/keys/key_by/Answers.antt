use Rattle.std.proofs.Common.{◌∙◌, ap, sym, pos, ◌||◌, is_nan, to_z, of_z, to_z-of_z, w64, FitsSigned}
use Rattle.std.specs.Float.{binary64}
use Rattle.vortex_logical.specs.FloatKeys.{float_of_key, key_of_float}
use Rattle.vortex_float_bits.specs.FloatBits.{float_of, turned}
use Rattle.vortex_float_bits.proofs.FloatBits.{turned_back, turned_is_key, nan_is_key}
use Rattle.vortex_sql_floats.specs.FloatArithmetic.{applied, fault_by}
use Rattle.vortex_sql_float_columns.proofs.PlainResults.{nan_row, sound_row, keyed_row}
use Rattle.vortex_sql_float_columns.proofs.keys.key_by.Goals as goal

pub returns-then-is_nan : goal.returns-then-is_nan
returns-then-is_nan g c = λ h.
    let op = g.O.Operation.operator in
    let a = c.args.a in
    let b = c.args.b in
    let x = float_of_key binary64 a in
    let y = float_of_key binary64 b in
    let fits_x : FitsSigned w64 c.turn_wide-x.result = record { sfits = c.turn_wide-x.type_inv } in
    let fits_y : FitsSigned w64 c.turn_wide-y.result = record { sfits = c.turn_wide-y.type_inv } in
    let is_x = turned_back binary64 a c.ranges.a
    ∙ ap (λ z. float_of z) (sym (to_z-of_z fits_x ∙ c.turn_wide-x.ensures ∙ ap (λ z. turned binary64 z) (to_z-of_z c.ranges.a))) in
    let is_y = turned_back binary64 b c.ranges.b
    ∙ ap (λ z. float_of z) (sym (to_z-of_z fits_y ∙ c.turn_wide-y.ensures ∙ ap (λ z. turned binary64 z) (to_z-of_z c.ranges.b))) in
    let nan_x = ap is_nan is_x ∙ sym c.is_nan.ensures in
    let nan_y = ap is_nan is_y ∙ sym c.is_nan-2.ensures in
    let row = nan_row op x y ((λ i. nan_x i || nan_y i) ∙ c.if-is_nan.true) in
    keyed_row op a b (pos 9221120237041090560) c.ranges.a c.ranges.b row.0
    (sym (nan_is_key binary64 (applied op x y) row.1))

pub returns-else-is_nan : goal.returns-else-is_nan
returns-else-is_nan g c = λ h.
    let op = g.O.Operation.operator in
    let a = c.args.a in
    let b = c.args.b in
    let fits_x : FitsSigned w64 c.turn_wide-x.result = record { sfits = c.turn_wide-x.type_inv } in
    let fits_y : FitsSigned w64 c.turn_wide-y.result = record { sfits = c.turn_wide-y.type_inv } in
    let fits_z : FitsSigned w64 c.result_pattern-made.result = record { sfits = c.result_pattern-made.type_inv } in
    let fits_r : FitsSigned w64 c.turn_wide.result = record { sfits = c.turn_wide.type_inv } in
    let is_x = turned_back binary64 a c.ranges.a
    ∙ ap (λ z. float_of z) (sym (to_z-of_z fits_x ∙ c.turn_wide-x.ensures ∙ ap (λ z. turned binary64 z) (to_z-of_z c.ranges.a))) in
    let is_y = turned_back binary64 b c.ranges.b
    ∙ ap (λ z. float_of z) (sym (to_z-of_z fits_y ∙ c.turn_wide-y.ensures ∙ ap (λ z. turned binary64 z) (to_z-of_z c.ranges.b))) in
    let same = to_z-of_z fits_z in
    let row = sound_row op (float_of (to_z w64 (of_z w64 c.turn_wide-x.result)))
    (float_of (to_z w64 (of_z w64 c.turn_wide-y.result)))
    (float_of (to_z w64 (of_z w64 c.result_pattern-made.result))) (sym c.may_fault.ensures ∙ h)
    (λ p. ap (λ z. float_of z) same ∙ c.result_pattern-made.ensures p) in
    keyed_row op a b (to_z w64 (of_z w64 c.turn_wide.result)) c.ranges.a c.ranges.b
    ((λ i. fault_by op (is_x i) (is_y i)) ∙ row.0)
    ((λ i. key_of_float binary64 (applied op (is_x i) (is_y i)))
    ∙ ap (λ v. key_of_float binary64 v) (sym row.1.0 ∙ ap (λ z. float_of z) same)
    ∙ sym (turned_is_key binary64 c.result_pattern-made.result fits_z (sym (ap (λ z. is_nan (float_of z)) same) ∙ row.1.1))
    ∙ sym (to_z-of_z fits_r ∙ c.turn_wide.ensures ∙ ap (λ z. turned binary64 z) same))
