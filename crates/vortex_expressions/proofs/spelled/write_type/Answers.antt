use Rattle.std.proofs.Common.{[], ◌∷◌}
use Rattle.vortex_syntax.specs.declared.token.Sign.TheVariants as sign
use Rattle.vortex_syntax.specs.Tokens.{sign}
use Rattle.vortex_syntax.specs.Spelling.{type_token}
use Rattle.vortex_expressions.proofs.Walked.{pushes_one, pushes_both}
use Rattle.vortex_expressions.proofs.spelled.write_type.Goals as goal

pub returns : goal.returns
returns c =
    pushes_both (sign sign.Typed ∷ [])
    (type_token c.args.name.now c.args.nullable ∷ []) c.args.writer.now c.push_sign.new.self
    c.push_type.new.self
    (pushes_one _ c.args.writer.now c.push_sign.new.self c.in_ok-push_sign.ensures)
    (pushes_one _ c.push_sign.new.self c.push_type.new.self c.in_ok-push_type.ensures)
