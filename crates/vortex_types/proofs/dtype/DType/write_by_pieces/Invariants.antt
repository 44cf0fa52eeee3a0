use Rattle.std.proofs.Common.{◌≡◌, ◌++◌, string_bytes}
use Rattle.vortex_types.specs.TypeOf.{type_of}
use Rattle.vortex_types.specs.DTypeTexts.{type_text}
use Rattle.vortex_types.specs.TypePieces.{pieces_text, pieces_cost}
use Rattle.vortex_types.proofs.dtype.DType.write_by_pieces.Given as goal

-- what is written and what is left are the whole text
abbrev pub invariant-loop-piece : goal.invariant-loop-piece
invariant-loop-piece l =
    string_bytes l.out ++ pieces_text l.pieces.items
    ≡ string_bytes l.initial.out ++ type_text (type_of l.self)

abbrev pub decreases-loop-piece : goal.decreases-loop-piece
decreases-loop-piece l = pieces_cost l.pieces.items
