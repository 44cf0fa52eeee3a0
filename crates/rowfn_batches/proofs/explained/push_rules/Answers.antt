use Rattle.std.proofs.Common.{◌∙◌, ℕ, List, ap, sym, refl, subst, option_map, ◌≡◌, ◌≢◌}
use Rattle.std.specs.Prelude.{IfSome}
use Rattle.vortex_errors.proofs.Answering.{AnswersUnlessMemory-weaker}
use Rattle.vortex_interface.specs.Printing.{tree_text}
use Rattle.rowfn_batches.specs.Explaining.{no_tree, prints_so, prints_otherwise}
use Rattle.rowfn_batches.proofs.explained.push_rules.Goals as goal

pub returns-in_default : goal.returns-in_default
returns-in_default c = no_tree (ap (λ o. option_map (λ x. x.now) o) c.in_default.is) refl

pub returns-then-are_one : goal.returns-then-are_one
returns-then-are_one c =
    let o = c.in-Some.optimized.now in
    let one = rw c.if-are_one.true at c.are_one.ensures in
    prints_so o (ap (λ o. option_map (λ x. x.now) o) c.in-Some.is)
    (subst (λ (w : List ℕ). IfSome (tree_text o.tree) (λ words. w ≡ words))
    (sym c.as_str.ensures.value ∙ one) c.in_ok-other.ensures)
    refl

pub push_tree-requires : goal.push_tree-requires
push_tree-requires c =
    let o = c.in-Some.optimized.now in
    subst (λ (w : List ℕ). IfSome (tree_text o.tree) (λ words. w ≡ words))
    (sym c.as_str-2.ensures.value) c.in_ok-other.ensures

pub returns : goal.returns
returns c =
    let o = c.in-Some.optimized.now in
    let two = rw c.if-are_one.false at c.are_one.ensures in
    let apart : c.as_str-2.result.now ≢ c.args.printed.now =
    λ e. two (c.as_str.ensures.value ∙ sym c.as_str-2.ensures.value ∙ e) in
    AnswersUnlessMemory-weaker c.push_tree.result _ _
    (λ u h. prints_otherwise o c.as_str-2.result.now
    (ap (λ o. option_map (λ x. x.now) o) c.in-Some.is) apart h)
    c.push_tree.ensures
