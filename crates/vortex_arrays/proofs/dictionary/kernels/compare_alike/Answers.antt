use Rattle.vortex_errors.proofs.Answering.{Answers-weaker}
use Rattle.vortex_kernels.specs.Comparison.{AnswersCompare, RefusesCompare, HasComparisonRows}
use Rattle.vortex_arrays.proofs.CodedRows.{not_refused}
use Rattle.vortex_arrays.proofs.dictionary.kernels.compare_alike.Goals as goal

pub returns : goal.returns
returns c =
    let l = c.args.lhs.now in
    let r = c.args.rhs.now in
    let op = c.args.operator in
    Answers-weaker c.execute_compare.result (AnswersCompare op l r) (HasComparisonRows op l r)
    (RefusesCompare l r) (λ e. ⊥) (λ d h. h.rows)
    (λ e h. not_refused l r e c.requires.alike c.requires.lengths h) c.execute_compare.ensures
