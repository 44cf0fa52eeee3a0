use Rattle.std.proofs.Common.{◌≡◌, ◌∙◌, ap, sym, subst, [], ◌∷◌, FitsSigned, w64, to_z-of_z}
use Rattle.std.specs.Prelude.{None}
use Rattle.vortex_errors.proofs.Answering.{Answers-weaker}
use Rattle.vortex_types.specs.declared.dtype.PType.TheVariants.{I64}
use Rattle.vortex_columns.specs.ScalarOf.{int_scalar}
use Rattle.vortex_operators.specs.declared.operators.Operator.TheVariants.{Mul}
use Rattle.vortex_interface.specs.Shipped.{Binary}
use Rattle.vortex_interface.specs.Functions.{ours}
use Rattle.vortex_interface.specs.Trees.{constant}
use Rattle.vortex_interface.specs.Eval.{tree_type}
use Rattle.vortex_functions.specs.Binding.{IsCall, RefusesCall}
use Rattle.vortex_lowering.specs.LoweredTrees.{lengthened_tree}
use Rattle.vortex_lowering.proofs.Powers.{ten_fits}
use Rattle.vortex_lowering.proofs.TreeTypes.{refused_none}
use Rattle.vortex_lowering.proofs.LengthenedTrees.{product_made}
use Rattle.vortex_lowering.proofs.lengthen.lengthened.Goals as goal

pub returns : goal.returns
returns g c =
    let m = g.C.ScalarFnVTable.meaning in
    let k = c.args.more in
    let t = c.args.tree in
    let factor = c.lit-factor.result in
    let fits : FitsSigned w64 c.power.result = subst (FitsSigned w64) (sym c.power.ensures) (ten_fits k c.requires) in
    let number = to_z-of_z fits ∙ c.power.ensures in
    let made = product_made k t factor c.if-more-eq0.false (sym c.longer_constant.ensures ∙ c.in_default.is)
    (c.lit-factor.ensures ∙ ap constant c.from-2.ensures ∙ ap (λ n. constant (int_scalar I64 n)) number) in
    let f = ours (Binary Mul) in
    let ts = t ∷ factor ∷ [] in
    Answers-weaker c.operated.result (IsCall m f ts) (λ u. u ≡ lengthened_tree k t)
    (RefusesCall m f ts) (λ e. tree_type m (lengthened_tree k t) ≡ None)
    (λ u bound. bound.is ∙ made) (λ e refused. ap (tree_type m) (sym made) ∙ refused_none m f ts e refused) c.operated.ensures
