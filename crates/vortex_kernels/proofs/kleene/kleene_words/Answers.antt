use Rattle.std.proofs.Common.{refl}
use Rattle.vortex_kernels.proofs.KleeneBits.{and_word, or_word, other_is_or}
use Rattle.vortex_kernels.proofs.kleene.kleene_words.Goals as goal

pub returns-in-And-clause-table : goal.returns-in-And-clause-table
returns-in-And-clause-table c = λ j lt.
    rw c.in-And.is
    (and_word c.args.left c.args.left_valid c.args.right c.args.right_valid
    c.valid_words.result j (c.valid_words.ensures j lt))

pub returns-in_default : goal.returns-in_default
returns-in_default c =
    let is = other_is_or c.args.operator c.requires c.in_default.not-And in
    record {
      values = rw is refl;
      table = λ j lt.
          rw is
          (or_word c.args.left c.args.left_valid c.args.right c.args.right_valid
          c.valid_words-in_default.result j (c.valid_words-in_default.ensures j lt));
    }
