use Rattle.std.proofs.Common.{◌<◌, length, sym, ap, ◌∙◌, arith}
use Rattle.vortex_syntax.specs.declared.pieces.Run.TheVariants.{Word}
use Rattle.vortex_syntax.specs.Pieces.{behind}
use Rattle.vortex_syntax.proofs.Numbers.{number_shorter}
use Rattle.vortex_syntax.proofs.Runs.{behind_lt, word_begun, some_below}
use Rattle.vortex_syntax.proofs.pieces.first_piece.Goals as goal

pub returns-then-begins_word-clause-shorter : goal.returns-then-begins_word-clause-shorter
returns-then-begins_word-clause-shorter c =
    let h : length (behind Word c.args.text.now) < length c.args.text.now =
    behind_lt Word c.args.text.now _ _ c.in_ok-first.ensures.cases.0
    (word_begun c.in_ok-first.first.now (sym c.if-begins_word.ensures)) in
    omega (arith, c.sized_or_word.ensures.shorter, h)

pub returns-then-begins_number-clause-shorter : goal.returns-then-begins_number-clause-shorter
returns-then-begins_number-clause-shorter c =
    some_below _ _ c.number_before.result c.number_before.ensures.shorter
    (omega (
      arith,
      ap length c.split_number.ensures.behind,
      number_shorter c.args.text.now (sym c.begins_number.ensures ∙ c.if-begins_number.true),
    ))
