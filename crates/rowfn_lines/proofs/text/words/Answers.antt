use Rattle.std.proofs.Common.{tests, ◌<◌, length, sym, ap, ◌∙◌, arith}
use Rattle.rowfn_lines.specs.Lines.{with_word, words_of, word_in}
use Rattle.rowfn_lines.proofs.Words.{no_more_spaces, same_words, no_longer, begins_here}
use Rattle.rowfn_lines.proofs.Words.{read_nothing, words_more}
use Rattle.rowfn_lines.proofs.text.words.Goals as goal

pub loop-rest-init : goal.loop-rest-init
loop-rest-init c =
    let line = c.args.line.now in
    let rest = c.without_spaces-rest.result.now in (
      c.without_spaces-rest.utf8,
      no_more_spaces line rest c.without_spaces-rest.ensures,
      read_nothing word_in _ c.new-words.ensures.items (words_of rest)
          ∙ same_words line rest c.without_spaces-rest.ensures,
    )

pub split_word-requires : goal.split_word-requires
split_word-requires c =
    let some : 0 < length c.loop-rest.rest.now = grind (arith, tests) in
    begins_here c.loop-rest.rest.now c.loop-rest.invariant.1 some

pub loop-rest-smaller : goal.loop-rest-smaller
loop-rest-smaller c =
    omega (
      arith,
      no_longer c.in-Some.after.now c.without_spaces-rest-in-loop-rest.result.now
          c.without_spaces-rest-in-loop-rest.ensures,
      c.in-Some.ensures.1,
    )

pub loop-rest-preserved : goal.loop-rest-preserved
loop-rest-preserved c =
    let after = c.in-Some.after.now in
    let rest = c.without_spaces-rest-in-loop-rest.result.now in
    let e = c.without_spaces-rest-in-loop-rest.ensures in (
      c.without_spaces-rest-in-loop-rest.utf8,
      no_more_spaces after rest e,
      rw c.in_ok-push.ensures.items
          (words_more word_in c.loop-rest.words.items c.in-Some.word _ (words_of rest) _
          (c.in-Some.ensures.0
          ∙ ap (with_word (word_in c.in-Some.word)) (sym (same_words after rest e)))
          c.loop-rest.invariant.2),
    )
