use Rattle.std.proofs.Common.{◌∙◌, Bool, List, ℕ, ap, sym}
use Rattle.std.specs.Str.{chars}
use Rattle.vortex_like.specs.ByteTests.{holds_inside}
use Rattle.vortex_like.specs.Shapes.{inside_tokens}
use Rattle.vortex_like.specs.SmallLetters.{small}
use Rattle.vortex_like.specs.Tokens.{Token, is_match}
use Rattle.vortex_like.proofs.SmallLetters.{small_inside}
use Rattle.vortex_like.proofs.small_inside.SmallInsideTest.new.Goals as goal

pub invariant_of-result : goal.invariant_of-result
invariant_of-result c =
    let literal : List ℕ = c.args.literal.now in
    record {
      same = λ bytes ascii.
          ap (λ (needle : List ℕ). holds_inside needle (small bytes))
          (c.new.ensures ∙ c.make_ascii_lowercase.ensures.bytes ∙ ap small c.in_ok-own.ensures.ok)
          ∙ small_inside c.requires.letters literal bytes c.requires.ascii ascii
          ∙ ap (λ (folds : Bool). is_match folds (inside_tokens (chars literal)) (chars bytes))
          (sym c.requires.past_case)
          ∙ ap (λ (ts : List Token). is_match c.args.tokens.case_insensitive ts (chars bytes))
          (sym c.requires.tokens);
    }
