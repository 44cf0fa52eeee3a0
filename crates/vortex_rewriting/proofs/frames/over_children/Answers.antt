use Rattle.std.proofs.Common.{◌≡◌, ◌∙◌, refl, arith, length, map}
use Rattle.std.proofs.lemmas.List.{length-map}
use Rattle.vortex_rewriting.proofs.FrameWalks.{partly_empty}
use Rattle.vortex_rewriting.proofs.frames.over_children.Goals as goal

pub returns-then-is_empty : goal.returns-then-is_empty
returns-then-is_empty g c =
    let tree = g.L.Leaf.tree_of in
    let empty : length c.args.done.items ≡ 0 = grind arith in (
      partly_empty (tree c.args.node) (map tree c.args.done.items)
          (length-map c.args.done.items tree ∙ empty),
      refl,
    )
