use Rattle.std.proofs.Common.{[], ◌∷◌, List, subst, string_bytes}
use Rattle.std.proofs.lemmas.Int.{to_z-of_z}
use mir.Syntax.{w128}
use Rattle.vortex_syntax.specs.declared.token.Sign.TheVariants as sign
use Rattle.vortex_syntax.specs.Tokens.{Token, number, sign}
use Rattle.vortex_expressions.specs.WritingSteps.{Pushes}
use Rattle.vortex_expressions.proofs.Walked.{pushes_one, pushes_both}
use Rattle.vortex_expressions.proofs.Answered.{negative_tokens, positive_tokens}
use Rattle.vortex_expressions.proofs.spelled.write_number.Goals as goal

pub returns-then-number-lt0 : goal.returns-then-number-lt0
returns-then-number-lt0 c =
    subst (λ (ts : List Token). Pushes ts c.args.writer.now c.push_number.new.self)
    (negative_tokens c.args.number _ c.unsigned_abs.result
    (string_bytes c.in_ok-digits.digits) c.as_str.result.now
    (to_z-of_z w128 c.args.number c.ranges.number) c.if-number-lt0.true
    c.unsigned_abs.ensures.value c.in_ok-digits.ensures.ok c.as_str.ensures.value)
    (pushes_both (sign sign.Minus ∷ [])
    (number c.as_str.result.now ∷ []) c.args.writer.now c.push_sign.new.self
    c.push_number.new.self
    (pushes_one _ c.args.writer.now c.push_sign.new.self c.in_ok-push_sign.ensures)
    (pushes_one _ c.push_sign.new.self c.push_number.new.self c.in_ok-push_number.ensures))

pub returns : goal.returns
returns c =
    subst (λ (ts : List Token). Pushes ts c.args.writer.now c.push_number-2.new.self)
    (positive_tokens c.args.number _ c.unsigned_abs.result
    (string_bytes c.in_ok-digits.digits) c.as_str-2.result.now
    (to_z-of_z w128 c.args.number c.ranges.number) c.if-number-lt0.false
    c.unsigned_abs.ensures.value c.in_ok-digits.ensures.ok c.as_str-2.ensures.value)
    (pushes_one _ c.args.writer.now c.push_number-2.new.self c.in_ok-push_number-2.ensures)
