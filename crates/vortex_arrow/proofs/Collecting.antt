-- Values that are collected row by row, and what is told where one is refused.
use Rattle.std.proofs.Common.{◌≡◌, ℕ, ◌+◌, ◌<◌, Bool, true, false, cond, List, [], ◌∷◌, ◌++◌, length}
use Rattle.std.proofs.Common.{map, take, get_or, refl, sym, ap, ◌∙◌, subst, arith}
use Rattle.std.specs.Prelude.{IsUtf8}
use Rattle.std.specs.List.{range_with_len}
use Rattle.std.proofs.lemmas.List.{take_all}
use Rattle.std.proofs.lemmas.List.FromFn.{length-range_with_len, get_or-range_with_len}
use Rattle.std.proofs.lemmas.Str.{IsUtf8-nil}
use Rattle.vortex_views.specs.Built.{HasRoomFor}
use Rattle.vortex_views.specs.Collected.{HaveRoom}
use Rattle.vortex_views.proofs.Collecting.{next_has_room, next_kept}
use Rattle.vortex_arrow.specs.declared.error.ValueFault.{ValueFault}
use Rattle.vortex_arrow.specs.declared.error.ArrowError.{ArrowError}
use Rattle.vortex_arrow.specs.declared.error.ArrowError.TheVariants as arrow
use Rattle.vortex_arrow.specs.Refusals.{RefusesPush, TellsOfBytes}

module _ (f : ℕ → List ℕ) (n k : ℕ) (lt : k < n) (bs : List (List ℕ)) (v : List ℕ)
    (bs_is : bs ≡ map f (take k (range_with_len 0 n))) (v_is : v ≡ f k) where
  there : k < length (range_with_len 0 n)
  there = omega (arith, length-range_with_len 0 n)

  is_item : v ≡ f (get_or (range_with_len 0 n) k 0)
  is_item =
      let same : 0 + k ≡ k = omega arith in
      v_is ∙ ap f (sym (get_or-range_with_len 0 n k 0 lt ∙ same))

  -- where there is room for all, there is room for the next
  pub room_for_next : HaveRoom (map f (range_with_len 0 n)) → HasRoomFor bs v
  room_for_next = next_has_room f (range_with_len 0 n) k 0 there bs v bs_is is_item

  pub one_more_kept : HaveRoom (map f (take k (range_with_len 0 n))) → HasRoomFor bs v
      → (bs ++ v ∷ [] ≡ map f (take (k + 1) (range_with_len 0 n)))
      × HaveRoom (map f (take (k + 1) (range_with_len 0 n)))
  one_more_kept = next_kept f (range_with_len 0 n) k 0 there bs v bs_is is_item

pub all_taken : (f : ℕ → List ℕ) (n k : ℕ) → n ≡ k
    → map f (take k (range_with_len 0 n)) ≡ map f (range_with_len 0 n)
all_taken f n k e =
    ap (map f) (take_all k (range_with_len 0 n) (omega (arith, length-range_with_len 0 n)))

-- what is told where a value finds no room
pub push_refused : (n : ℕ) (lies texts : ℕ → Type 0) (faults : ℕ → ValueFault → Type 0)
    (All Room : Type 0) (e : ArrowError) → (All → Room)
    → RefusesPush Room e → TellsOfBytes n lies texts faults All e
push_refused n lies texts faults All Room arrow.TooLong all h = λ room. h (all room)
push_refused n lies texts faults All Room arrow.OutOfMemory all h = tt
push_refused n lies texts faults All Room arrow.ValidityTooShort all h = absurd h
push_refused n lies texts faults All Room arrow.ValuesTooShort all h = absurd h
push_refused n lies texts faults All Room arrow.OffsetsTooShort all h = absurd h
push_refused n lies texts faults All Room (arrow.UnexpectedNull r) all h = absurd h
push_refused n lies texts faults All Room (arrow.InvalidValue r f) all h = absurd h
push_refused n lies texts faults All Room (arrow.NotUtf8 r) all h = absurd h

-- bytes that are no text are those of a valid row
pub not_text : (valid : Bool) (bytes item : List ℕ) → bytes ≡ cond valid item []
    → (IsUtf8 bytes → ⊥) → (valid ≡ true → IsUtf8 item) → ⊥
not_text true bytes item e misfit h = misfit (subst IsUtf8 (sym e) (h refl))
not_text false bytes item e misfit h = misfit (subst IsUtf8 (sym e) IsUtf8-nil)

pub is_text : (valid : Bool) (bytes item : List ℕ) → bytes ≡ cond valid item []
    → IsUtf8 bytes → valid ≡ true → IsUtf8 item
is_text true bytes item e h valid = subst IsUtf8 e h
is_text false bytes item e h valid = absurd (cc)
