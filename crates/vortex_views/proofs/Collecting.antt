-- Values that fit together fit one by one, and back.
use Rattle.std.proofs.Common.{◌≡◌, ℕ, ◌+◌, ◌<◌, ◌≤◌, cond, nat_le, true, false, Bool, List, [], ◌∷◌}
use Rattle.std.proofs.Common.{◌++◌, map}
use Rattle.std.proofs.Common.{length, get_or, take, drop, refl, sym, ap, ◌∙◌, subst, arith}
use Rattle.std.specs.Prelude.{All}
use Rattle.std.proofs.lemmas.List.{take-append-drop, map_more, length-map, map-append, get_or-map}
use Rattle.std.proofs.lemmas.List.Elements.{All-append, All-cons, All-nil}
use Rattle.std.proofs.lemmas.Bool.{cond-true, cond-false}
use Rattle.vortex_views.specs.Placing.{Placed, placed, none_placed, placed_from, placed_after}
use Rattle.vortex_views.specs.Placing.{most_bytes, most_buffers, buffers_needed}
use Rattle.vortex_views.specs.Built.{HasRoomFor}
use Rattle.vortex_views.specs.Collected.{HaveRoom}
use Rattle.vortex_views.proofs.Placed.{behind_last, in_next}

more_by : (b d : Bool) (p : Placed) (n : ℕ) → nat_le n 12 ≡ b → nat_le (p.fill + n) most_bytes ≡ d
    → p.count ≤ (placed_after p n).count
more_by true d p n e f =
    subst (λ (q : Placed). p.count ≤ q.count)
    (sym (cond-true (nat_le n 12) p (cond (nat_le (p.fill + n) most_bytes) (behind_last p n)
    (in_next p n)) e))
    (omega arith)
more_by false true p n e f =
    subst (λ (q : Placed). p.count ≤ q.count)
    (sym (cond-false (nat_le n 12) p (cond (nat_le (p.fill + n) most_bytes) (behind_last p n)
    (in_next p n)) e
    ∙ cond-true (nat_le (p.fill + n) most_bytes) (behind_last p n) (in_next p n) f))
    (omega arith)
more_by false false p n e f =
    subst (λ (q : Placed). p.count ≤ q.count)
    (sym (cond-false (nat_le n 12) p (cond (nat_le (p.fill + n) most_bytes) (behind_last p n)
    (in_next p n)) e
    ∙ cond-false (nat_le (p.fill + n) most_bytes) (behind_last p n) (in_next p n) f))
    (omega arith)

never_fewer : (p : Placed) (vs : List (List ℕ)) → p.count ≤ (placed_from p vs).count
never_fewer p [] = omega arith
never_fewer p (v ∷ vs) =
    omega (
      arith,
      more_by (nat_le (length v) 12) (nat_le (p.fill + length v) most_bytes) p (length v) refl refl,
      never_fewer (placed_after p (length v)) vs,
    )

placed_both : (p : Placed) (vs ws : List (List ℕ))
    → placed_from p (vs ++ ws) ≡ placed_from (placed_from p vs) ws
placed_both p [] ws = refl
placed_both p (v ∷ vs) ws = placed_both (placed_after p (length v)) vs ws

pub fewer_before : (vs ws : List (List ℕ)) → buffers_needed vs ≤ buffers_needed (vs ++ ws)
fewer_before vs ws =
    subst (λ (q : Placed). buffers_needed vs ≤ q.count) (sym (placed_both none_placed vs ws))
    (never_fewer (placed vs) ws)

module _ {X : Type 0} (f : X → List ℕ) (xs : List X) (k : ℕ) (d : X) (h : k < length xs)
    (bs : List (List ℕ)) (v : List ℕ) (bs_is : bs ≡ map f (take k xs))
    (v_is : v ≡ f (get_or xs k d)) where
  one_more : bs ++ v ∷ [] ≡ map f (take (k + 1) xs)
  one_more = (λ i. bs_is i ++ v_is i ∷ []) ∙ sym (map_more f xs k d h)

  split : map f (take (k + 1) xs) ++ map f (drop (k + 1) xs) ≡ map f xs
  split = sym (map-append f (take (k + 1) xs) (drop (k + 1) xs))
      ∙ ap (λ (ys : List X). map f ys) (take-append-drop (k + 1) xs)

  pub next_has_room : HaveRoom (map f xs) → HasRoomFor bs v
  next_has_room room = record {
    len = subst (λ (w : List ℕ). length w ≤ most_bytes) (sym v_is)
        (subst (λ (w : List ℕ). length w ≤ most_bytes) (get_or-map f xs k d [] h)
        (room.lens k [] (omega (arith, h, length-map xs f))));
    buffers = subst (λ (ws : List (List ℕ)). buffers_needed ws ≤ most_buffers) (sym one_more)
        (omega (
          arith,
          room.buffers,
          subst (λ (ws : List (List ℕ)). buffers_needed (map f (take (k + 1) xs)) ≤ buffers_needed
              ws) split
              (fewer_before (map f (take (k + 1) xs)) (map f (drop (k + 1) xs))),
        ));
  }

  pub next_kept : HaveRoom (map f (take k xs)) → HasRoomFor bs v
      → (bs ++ v ∷ [] ≡ map f (take (k + 1) xs)) × HaveRoom (map f (take (k + 1) xs))
  next_kept room here = (
    one_more,
    record {
      lens = subst (λ (ws : List (List ℕ)). All (λ w. length w ≤ most_bytes) ws) one_more
          (All-append (λ (w : List ℕ). length w ≤ most_bytes) bs (v ∷ [])
          (subst (λ (ws : List (List ℕ)). All (λ w. length w ≤ most_bytes) ws) (sym bs_is)
          room.lens)
          (All-cons (λ (w : List ℕ). length w ≤ most_bytes) v [] here.len
          (All-nil (λ (w : List ℕ). length w ≤ most_bytes))));
      buffers = subst (λ (ws : List (List ℕ)). buffers_needed ws ≤ most_buffers) one_more
          here.buffers;
    },
  )
