use Rattle.std.proofs.Common.{◌++◌, ◌∙◌, string_bytes, refl, sym, ap, arith}
use Rattle.vortex_types.proofs.TextPieces.{piece_more, piece_cost_more}
use Rattle.vortex_types.proofs.dtype.DType.write_by_pieces.Goals as goal

pub loop-piece-smaller : goal.loop-piece-smaller
loop-piece-smaller c =
    omega (
      arith,
      piece_cost_more _ _ _ c.in-Some.ensures.items,
      c.in_ok-write.ensures.fewer,
    )

pub loop-piece-preserved : goal.loop-piece-preserved
loop-piece-preserved c =
    c.in_ok-write.ensures.text
    ∙ ap (λ ys. string_bytes c.loop-piece.out ++ ys)
    (sym
    (piece_more c.pop.new.self.items c.loop-piece.pieces.items c.in-Some.piece _
    c.in-Some.ensures.items refl))
    ∙ c.loop-piece.invariant
