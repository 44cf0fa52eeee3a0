-- What rules make of trees are rewrites of them.
use Rattle.std.proofs.Common.{List, [], ◌∷◌}
use Rattle.std.proofs.Math.Logic.{∥∥₁_map}
use Rattle.vortex_program.specs.declared.answer.Answer.{Answer}
use Rattle.vortex_program.specs.Programs.{AreOptimized, AreRewrites}
use Rattle.rowfn_batches.specs.declared.request.Request.{Request}

all_rewrites : (xs os : List Answer) → AreOptimized xs os → AreRewrites xs os
all_rewrites [] [] h = tt
all_rewrites [] (o ∷ os) h = h
all_rewrites (x ∷ xs) [] h = h
all_rewrites (x ∷ xs) (o ∷ os) h = (h.0.tree.kept, all_rewrites xs os h.1)

pub rewrites : (x : Request)
    → ∥ AreRewrites x.program.now.written.items x.program.now.optimized.items ∥₁
rewrites x =
    ∥∥₁_map x.optimized
    (all_rewrites x.program.now.written.items x.program.now.optimized.items)
