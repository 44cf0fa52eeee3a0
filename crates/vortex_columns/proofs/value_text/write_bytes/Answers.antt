use Rattle.std.proofs.Common.{◌++◌, string_bytes, take, get_or, sym, ap, ◌∙◌, arith}
use Rattle.std.proofs.lemmas.List.{take_more, flat_map_more}
use Rattle.std.specs.List.{flat_map}
use Rattle.vortex_columns.specs.Printing.{hex_text}
use Rattle.vortex_columns.proofs.ValueTexts.{hex_written}
use Rattle.vortex_columns.proofs.value_text.write_bytes.Goals as goal

pub loop-byte-preserved : goal.loop-byte-preserved
loop-byte-preserved c =
    let b = get_or c.args.bytes.now c.loop-byte.byte-index 0 in
    hex_written (string_bytes c.loop-byte.out) (string_bytes c.write.new.self) c.in_radix.result
    c.laid_out.result b (omega (arith, c.type_inv.bytes c.loop-byte.byte-index))
    c.in_ok-write.ensures.bytes c.laid_out.ensures c.in_radix.ensures
    ∙ ap (λ t. t ++ hex_text b) c.loop-byte.invariant
    ∙ flat_map_more hex_text (string_bytes c.args.out.now)
    (take c.loop-byte.byte-index c.args.bytes.now) b
    ∙ ap (λ bs. string_bytes c.args.out.now ++ flat_map hex_text bs)
    (sym (take_more c.args.bytes.now c.loop-byte.byte-index 0 c.loop-byte-test.true))
