use Rattle.std.proofs.Common.{◌∙◌, ap, sym, length, [], ◌∷◌, arith, rules, length-append, FitsSigned, w64, of_z, to_z, to_z-of_z}
use Rattle.vortex_types.specs.Values.{number}
use Rattle.vortex_interface.specs.Outcomes.{gives}
use Rattle.vortex_sql_floats.specs.ArithmeticRows.{arithmetic}
use Rattle.vortex_sql_float_columns.proofs.FloatRows.{keys_more}
use Rattle.vortex_sql_float_columns.proofs.PlainResults.{neither}
use Rattle.vortex_sql_float_columns.proofs.keys.rows_by.Goals as goal

pub loop-i-preserved : goal.loop-i-preserved
loop-i-preserved g c =
    let op = g.O.Operation.operator in
    let key = c.key_by-key.result.0 in
    let fits_left : FitsSigned w64 c.at.result = record { sfits = c.at.type_inv } in
    let fits_right : FitsSigned w64 c.at-in-loop-i.result = record { sfits = c.at-in-loop-i.type_inv } in
    let fits_key : FitsSigned w64 key = record { sfits = search rules } in
    let left = to_z-of_z fits_left ∙ c.at.ensures in
    let right = to_z-of_z fits_right ∙ c.at-in-loop-i.ensures in
    record {
      capacity = c.push_reserved.ensures.capacity ∙ c.loop-i.invariant.capacity;
      count = omega (
        arith,
        ap length c.push_reserved.ensures.items,
        length-append c.loop-i.keys.items (to_z w64 (of_z w64 key) ∷ []),
        c.loop-i.invariant.count,
      );
      keys = λ h.
          let both = neither c.loop-i.may_fault c.key_by-key.result.1 h in
          rw c.push_reserved.ensures.items
          (keys_more op (g.L.Keys.key_at c.args.left.now) (g.R.Keys.key_at c.args.right.now)
          c.loop-i.i c.loop-i.keys.items (to_z w64 (of_z w64 key)) (c.loop-i.invariant.keys both.0)
          (sym (λ j. arithmetic op (left j) (right j)) ∙ c.key_by-key.ensures both.1
          ∙ ap (λ z. gives (number z)) (sym (to_z-of_z fits_key))));
    }
