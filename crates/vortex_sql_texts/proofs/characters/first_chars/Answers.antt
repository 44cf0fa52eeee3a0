use Rattle.std.proofs.Common.{◌-◌, length, arith, ◌∙◌}
use Rattle.vortex_sql_texts.proofs.CharacterParts.{seam, boundary, front}
use Rattle.vortex_sql_texts.proofs.characters.first_chars.Goals as goal

pub overflow_sub-text : goal.overflow_sub-text
overflow_sub-text c =
    let met = seam c.args.count c.args.text.now c.after_chars-rest.result.now c.utf8.text c.after_chars-rest.ensures in
    omega (arith, met)

pub range-requires-clause-end_boundary : goal.range-requires-clause-end_boundary
range-requires-clause-end_boundary c =
    let met = seam c.args.count c.args.text.now c.after_chars-rest.result.now c.utf8.text c.after_chars-rest.ensures in
    boundary c.args.count c.args.text.now c.after_chars-rest.result.now c.utf8.text
    c.after_chars-rest.utf8 c.after_chars-rest.ensures
    (length c.args.text.now - length c.after_chars-rest.result.now) (omega (arith, met))

pub returns : goal.returns
returns c =
    let met = seam c.args.count c.args.text.now c.after_chars-rest.result.now c.utf8.text c.after_chars-rest.ensures in
    c.range.ensures.value
    ∙ front c.args.count c.args.text.now c.utf8.text
    (length c.args.text.now - length c.after_chars-rest.result.now - 0) (omega (arith, met))
