use Rattle.std.proofs.Common.{◌≤◌, ◌<◌, length, ap, cond, arith, subst}
use Rattle.std.specs.Prelude.{string_bytes, IsUtf8}
use Rattle.vortex_errors.specs.declared.error.VortexError.TheVariants.{Custom}
use Rattle.vortex_types.specs.Values.{text}
use Rattle.vortex_interface.specs.Outcomes.{gives, custom}
use Rattle.vortex_sql_rows.specs.declared.faults.RowFault.TheVariants.{TextTooLong}
use Rattle.vortex_sql_rows.specs.Faults.{faults_by, fault_number}
use Rattle.vortex_sql_patterns.proofs.TextRoom.{has_room, has_none}
use Rattle.vortex_sql_patterns.proofs.replace.text_or_fault.Goals as goal

pub returns-then-len-le4294967295 : goal.returns-then-len-le4294967295
returns-then-len-le4294967295 c =
    let bs = string_bytes c.args.text in
    let utf8 = subst IsUtf8 c.as_str-utf8.ensures.value c.as_str-utf8.utf8 in
    let small : length bs ≤ 4294967295 = omega (arith, c.if-len-le4294967295.true, c.len.ensures) in
    ap (λ b. cond b (gives (text bs)) (faults_by TextTooLong)) (has_room bs utf8 small)

pub returns-else-len-le4294967295 : goal.returns-else-len-le4294967295
returns-else-len-le4294967295 c =
    let bs = string_bytes c.args.text in
    let large : 4294967295 < length bs = omega (arith, c.if-len-le4294967295.false, c.len.ensures) in (
      custom (fault_number TextTooLong),
      ap (λ b. cond b (gives (text bs)) (faults_by TextTooLong)) (has_none bs large),
      ap Custom c.number.ensures,
    )
