-- The same call on other children.
use Rattle.std.specs.Prelude.{List}
use Rattle.vortex_interface.specs.Trees.{Tree, leaf, constant, call, trees_of}

abbrev pub with_children : {V O : Type 0} → Tree V O → List (Tree V O) → Tree V O
with_children (leaf l) us = leaf l
with_children (constant s) us = constant s
with_children (call f ts) us = call f (trees_of us)
