use Rattle.std.proofs.Common.{◌/◌, refl, ap, arith}
use Rattle.vortex_errors.specs.declared.error.VortexError.TheVariants.{Custom}
use Rattle.vortex_sql_pads.proofs.Fillers.{too_long, too_many}
use Rattle.vortex_sql_pads.proofs.pads.filled.Goals as goal

pub returns-then-times-gt4294967295 : goal.returns-then-times-gt4294967295
returns-then-times-gt4294967295 c =
    let k = c.count_chars-width.result in (
      too_many c.args.count k (c.args.count / k) c.args.text.now c.count_chars-width.ensures
          (omega (arith, c.if-width-eq0.false)) refl (omega (arith, c.if-times-gt4294967295.true)),
      ap Custom c.number.ensures,
    )

pub returns-then-times-text-gt4294967295 : goal.returns-then-times-text-gt4294967295
returns-then-times-text-gt4294967295 c =
    let k = c.count_chars-width.result in (
      too_long c.args.count k (c.args.count / k) c.args.text.now c.count_chars-width.ensures
          (omega (arith, c.if-width-eq0.false)) refl
          (omega (arith, c.if-times-text-gt4294967295.true)),
      ap Custom c.number-then-times-text-gt4294967295.ensures,
    )
