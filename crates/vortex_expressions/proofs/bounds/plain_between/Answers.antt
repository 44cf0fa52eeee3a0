use Rattle.std.proofs.Common.{◌≡◌, ◌∷◌, [], List, map, ap, subst}
use Rattle.vortex_expressions.specs.Items.{Item, Tree, item_in}
use Rattle.vortex_expressions.specs.Calls.{between_all}
use Rattle.vortex_expressions.specs.Answering.{Gives}
use Rattle.vortex_expressions.proofs.bounds.plain_between.Goals as goal

pub returns : goal.returns
returns c =
    let is : List Item =
    item_in c.args.item ∷ item_in c.args.lower ∷ item_in c.args.upper ∷ [] in
    let listed : map item_in c.in_ok-vec.field-0.items ≡ is =
    ap (map item_in) c.in_ok-vec.ensures.items in
    subst (λ (js : List Item). Gives {B = Tree} (λ t. t) c.between.result (between_all js)) listed
    c.between.ensures
