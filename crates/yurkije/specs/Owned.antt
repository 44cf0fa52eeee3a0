-- What a handle owns: nothing, or the box at its pointer; and what one that is lent does: nothing, or
-- a share of a loan of what the box has.
use Rattle.std.specs.Prelude.{ℕ, [], ◌∷◌, Option, None, Some, Bool, true, false}
use base.Fml.{Fml, Lft, Share, fsep, feq, flft}
use denote.RawPtr.{Ptr}
use denote.Struct.Lending.{lent_at}
use Rattle.std.specs.Box.Ownership.{box_owns}
use Rattle.std.specs.declared.alloc.Global.{Global}
use Rattle.std.specs.contracts.impls.GlobalAllocator.TheImpl.{ghosts}
use Rattle.yurkije.specs.Views.{HeldView}
use Rattle.yurkije.specs.contracts.held.Held.{the_row}

unfoldable pub held_owns : Ptr → Global → Bool → Option HeldView → Fml
held_owns p a live None = feq Bool live false
held_owns p a live (Some x) =
    fsep (feq Bool live true) (box_owns (ghosts.dealloc_token a) the_row p x)

-- a share of the token of the lifetime a, and for as long as that lasts a shared borrow of what is at
-- the pointer
abbrev pub loan_owns : Ptr → ℕ → Share → HeldView → Fml
loan_owns p a q x = fsep (flft (a ∷ []) q) (lent_at the_row p x (a ∷ []))

abbrev pub loan_lends : Ptr → HeldView → Lft → Fml
loan_lends p x = lent_at the_row p x

unfoldable pub lent_owns : Ptr → Bool → ℕ → Share → Option HeldView → Fml
lent_owns p live a q None = feq Bool live false
lent_owns p live a q (Some x) = fsep (feq Bool live true) (loan_owns p a q x)
