use Rattle.std.proofs.Common.{◌≤◌, ◌<◌, length, ap, cond, arith}
use Rattle.vortex_errors.specs.declared.error.VortexError.TheVariants.{Custom}
use Rattle.vortex_types.specs.Values.{text}
use Rattle.vortex_interface.specs.Outcomes.{gives, custom}
use Rattle.vortex_sql_rows.specs.declared.faults.RowFault.TheVariants.{TextTooLong}
use Rattle.vortex_sql_rows.specs.Faults.{faults_by, fault_number}
use Rattle.vortex_sql_patterns.proofs.TextRoom.{has_room, has_none}
use Rattle.vortex_sql_patterns.proofs.answers.text_or_fault.Goals as goal

pub returns-then-text-le4294967295 : goal.returns-then-text-le4294967295
returns-then-text-le4294967295 c =
    let bs = c.args.text.now in
    let small : length bs ≤ 4294967295 = omega (arith, c.if-text-le4294967295.true) in
    ap (λ b. cond b (gives (text bs)) (faults_by TextTooLong)) (has_room bs c.utf8.text small)

pub returns-else-text-le4294967295 : goal.returns-else-text-le4294967295
returns-else-text-le4294967295 c =
    let bs = c.args.text.now in
    let large : 4294967295 < length bs = omega (arith, c.if-text-le4294967295.false) in (
      custom (fault_number TextTooLong),
      ap (λ b. cond b (gives (text bs)) (faults_by TextTooLong)) (has_none bs large),
      ap Custom c.number.ensures,
    )
