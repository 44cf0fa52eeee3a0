use Rattle.std.proofs.Common.{◌∙◌, ap, sym, refl, length, Some}
use Rattle.vortex_operators.specs.declared.operators.Operator.TheVariants.{And, Or}
use Rattle.vortex_program.proofs.Faultless.{joins}
use Rattle.vortex_program.proofs.deciding.join_operator.Goals as goal

pub returns-in-And : goal.returns-in-And
returns-in-And c =
    joins And c.args.tree.now c.in_ok-as_scalar.field-0.now
    (ap length (sym c.children.ensures.children) ∙ c.if-children-ne2.false)
    c.in_ok-as_scalar.ensures
    (sym c.as_binary.ensures ∙ (c.in_ok-as_binary.was ∙ ap Some c.in-And.is)) refl

pub returns-in-Or : goal.returns-in-Or
returns-in-Or c =
    joins Or c.args.tree.now c.in_ok-as_scalar.field-0.now
    (ap length (sym c.children.ensures.children) ∙ c.if-children-ne2.false)
    c.in_ok-as_scalar.ensures
    (sym c.as_binary.ensures ∙ (c.in_ok-as_binary.was ∙ ap Some c.in-Or.is)) refl
