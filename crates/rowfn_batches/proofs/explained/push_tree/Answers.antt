use Rattle.std.proofs.Common.{string_bytes, ◌∙◌, ◌++◌, ap}
use Rattle.vortex_types.specs.TypeOf.{type_of}
use Rattle.rowfn_batches.specs.Explaining.{tree_head, weight_end}
use Rattle.rowfn_batches.proofs.Explanations.{three}
use Rattle.rowfn_batches.proofs.explained.push_tree.Goals as goal

pub returns : goal.returns
returns c =
    let words = c.as_str.ensures.value ∙ c.in_ok-words.ensures in
    record {
      dtype = type_of c.dtype.result.now;
      typed = c.dtype.ensures.dtype;
      prints = c.requires;
      added =
          three (string_bytes c.args.out.now) (string_bytes c.push_head.new.out)
          (string_bytes c.push_type.new.out) (string_bytes c.push_weight.new.out) _ _ _
          (c.in_ok-push_head.ensures
          ∙ ap (λ w. string_bytes c.args.out.now ++ tree_head c.args.title.now w c.args.printed.now)
          words)
          c.in_ok-push_type.ensures
          (c.in_ok-push_weight.ensures
          ∙ ap (λ n. string_bytes c.push_type.new.out ++ weight_end n) c.weight.ensures.told);
    }
