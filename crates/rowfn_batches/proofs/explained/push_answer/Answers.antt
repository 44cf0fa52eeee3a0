use Rattle.std.proofs.Common.{◌∙◌, ◌++◌, ◌∷◌, [], ℕ, List, ap, sym, subst, option_map, string_bytes, ◌≡◌}
use Rattle.std.specs.Prelude.{IfSome}
use Rattle.vortex_errors.proofs.Answering.{AnswersUnlessMemory-weaker}
use Rattle.vortex_interface.specs.Printing.{tree_text}
use Rattle.rowfn_batches.specs.Explaining.{AddsRules}
use Rattle.rowfn_batches.proofs.Explanations.{twice}
use Rattle.rowfn_batches.proofs.explained.push_answer.Goals as goal

pub push_tree-requires : goal.push_tree-requires
push_tree-requires c =
    subst (λ (w : List ℕ). IfSome (tree_text c.args.answer.now.tree) (λ words. w ≡ words))
    (sym c.as_str-2.ensures.value) c.in_ok-printed.ensures

pub returns : goal.returns
returns c =
    let old = string_bytes c.args.out.now in
    AnswersUnlessMemory-weaker c.push_rules.result _ _
    (λ u h. record {
      printed = c.as_str-2.result.now;
      named = string_bytes c.push_str-2.new.self;
      written = string_bytes c.push_tree.new.out;
      name =
          twice old (string_bytes c.push_str.new.self) (string_bytes c.push_str-2.new.self)
          (string_bytes c.args.answer.now.name) (10 ∷ [])
          (c.in_ok-push_str.ensures.bytes ∙ ap (λ n. old ++ n) c.as_str.ensures.value)
          c.in_ok-push_str-2.ensures.bytes;
      tree = c.in_ok-push_tree.ensures;
      rules =
          subst (λ (w : List ℕ). AddsRules w (option_map (λ o. o.now) c.args.optimized)
          (string_bytes c.push_tree.new.out) (string_bytes c.push_rules.new.out))
          (c.as_str-3.ensures.value ∙ sym c.as_str-2.ensures.value) h;
    })
    c.push_rules.ensures
