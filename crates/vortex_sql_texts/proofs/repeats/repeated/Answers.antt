use Rattle.std.proofs.Common.{◌∙◌, ap, sym, arith, length}
use Rattle.vortex_errors.specs.declared.error.VortexError.TheVariants.{Custom}
use Rattle.vortex_sql_texts.proofs.RepeatedTexts.{more_bytes, none_repeated, repeated_size}
use Rattle.vortex_sql_texts.proofs.FieldParts.{some_bytes}
use Rattle.vortex_sql_texts.proofs.repeats.repeated.Goals as goal

pub returns-then-is_empty : goal.returns-then-is_empty
returns-then-is_empty c =
    c.new.ensures.bytes
    ∙ none_repeated c.args.count c.args.text.now (sym c.is_empty.ensures ∙ c.if-is_empty.true)

pub returns-then-count-gt4294967295 : goal.returns-then-count-gt4294967295
returns-then-count-gt4294967295 c =
    let some = some_bytes c.args.text.now c.is_empty.result c.is_empty.ensures c.if-is_empty.false in
    let size = repeated_size c.args.count c.args.text.now in
    let more = more_bytes c.args.count (length c.args.text.now) some in
    (omega (arith, size, more, c.if-count-gt4294967295.true), ap Custom c.number.ensures)

pub returns-then-count-text-gt4294967295 : goal.returns-then-count-text-gt4294967295
returns-then-count-text-gt4294967295 c =
    let size = repeated_size c.args.count c.args.text.now in (
      omega (arith, size, c.if-count-text-gt4294967295.true),
      ap Custom c.number-then-count-text-gt4294967295.ensures,
    )
