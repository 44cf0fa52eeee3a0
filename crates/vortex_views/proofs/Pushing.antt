-- One more view, over growing buffers.
use Rattle.std.proofs.Common.{◌≡◌, ℕ, suc, ◌+◌, ◌<◌, ◌≤◌, ◌⊎◌, inl, inr, cond, nat_le, true, false}
use Rattle.std.proofs.Common.{List, [], ◌∷◌, ◌++◌, Bool}
use Rattle.std.proofs.Common.{map, length, get_or, take, drop, refl, sym, ap, ◌∙◌, subst, arith}
use Rattle.std.proofs.lemmas.List.{get_or_push, get_or_append_left, append-nil, length-append}
use Rattle.std.proofs.lemmas.List.{length-map, length_push, map_push, drop-append-le}
use Rattle.std.proofs.lemmas.List.{take-append-le, length-drop}
use Rattle.std.proofs.lemmas.Bool.{cases_lt, cond-true, cond-false, le-leb, leb-true}
use Rattle.vortex_views.specs.declared.view.BinaryView.{BinaryView}
use Rattle.vortex_views.specs.declared.builder.Buffers.{Buffers}
use Rattle.vortex_views.specs.ViewBytes.{view_bytes, inlined_view, inlined_value, view_len}
use Rattle.vortex_views.specs.ViewBytes.{view_buffer, view_offset}
use Rattle.vortex_views.specs.Resolved.{IsViewIn, AreViewsIn, LiesInBuffer, value_in, values_in}
use Rattle.vortex_views.specs.Placing.{Placed, placed, none_placed, buffers_needed, placed_from}
use Rattle.vortex_views.specs.Placing.{placed_after, most_bytes, most_buffers}
use Rattle.vortex_views.specs.Building.{Extend, IsPlaced, all_buffers, filled, AreInRange}
use Rattle.vortex_views.proofs.Layouts.{short_len, short_value}
use Rattle.vortex_views.proofs.Placed.{behind_last, in_next}
use Rattle.vortex_errors.specs.Answers.{UnlessMemory}
use Rattle.vortex_errors.specs.declared.error.VortexError.{VortexError}
use Rattle.vortex_errors.specs.declared.error.VortexError.TheVariants.{InvalidColumn}
use Rattle.vortex_errors.proofs.Answering.{UnlessMemory-weaker}
use Rattle.vortex_views.proofs.Resolving.{short_in, long_in}

-- bytes of a buffer are still there after more are appended
part_stays : (b more : List ℕ) (o n : ℕ) → o + n ≤ length b
    → take n (drop o (b ++ more)) ≡ take n (drop o b)
part_stays b more o n h =
    ap (λ (v : List ℕ). take n v) (drop-append-le o b more (omega arith))
    ∙ take-append-le n (drop o b) more (omega (arith, length-drop o b))

lies_stays : (b more v : List ℕ) → 12 < view_len v → LiesInBuffer b v → LiesInBuffer (b ++ more) v
lies_stays b more v long h = record {
  within = omega (arith, h.within, length-append b more);
  start = h.start ∙ sym (part_stays b more (view_offset v) 4 (omega (arith, h.within, long)));
}

module _ (old new : List (List ℕ)) (e : Extend old new) where
  pub fits_still : (v : List ℕ) → IsViewIn old v → IsViewIn new v
  fits_still v h = record {
    inlined = h.inlined;
    long = λ l.
        let at = h.long l in
        let more = e.each (view_buffer v) at.there in
        record {
          there = omega (arith, e.count, at.there);
          lies = subst (λ (b : List ℕ). LiesInBuffer b v) (sym more.1)
              (lies_stays (get_or old (view_buffer v) []) more.0 v l at.lies);
        };
  }

  same_by : (v : List ℕ) → IsViewIn old v → (12 < view_len v) ⊎ (view_len v ≤ 12)
      → value_in new v ≡ value_in old v
  same_by v h (inl l) =
      let at = h.long l in
      let more = e.each (view_buffer v) at.there in
      long_in new v l ∙ ap (λ (b : List ℕ). take (view_len v) (drop (view_offset v) b)) more.1
      ∙ part_stays (get_or old (view_buffer v) []) more.0 (view_offset v) (view_len v)
      at.lies.within
      ∙ sym (long_in old v l)
  same_by v h (inr s) = short_in new v s ∙ sym (short_in old v s)

  pub same_still : (v : List ℕ) → IsViewIn old v → value_in new v ≡ value_in old v
  same_still v h = same_by v h (cases_lt 12 (view_len v))

  all_by : (vs : List BinaryView) (w : BinaryView) (i : ℕ) → AreViewsIn old vs
      → IsViewIn new (view_bytes w) → (i < length vs) ⊎ (length vs ≤ i) → i < length (vs ++ w ∷ [])
      → IsViewIn new (get_or (map view_bytes (vs ++ w ∷ [])) i [])
  all_by vs w i h k (inl p) q =
      subst (IsViewIn new)
      (sym (ap (λ bs. get_or bs i []) (map_push view_bytes vs w)
      ∙ get_or_append_left (map view_bytes vs) (view_bytes w ∷ []) [] i
      (omega (arith, p, length-map vs view_bytes))))
      (fits_still (get_or (map view_bytes vs) i []) (h i p))
  all_by vs w i h k (inr p) q =
      let last : length (map view_bytes vs) ≡ i = omega
      (arith, p, q, length_push vs w, length-map vs view_bytes) in
      subst (IsViewIn new)
      (sym (ap (λ bs. get_or bs i []) (map_push view_bytes vs w)
      ∙ get_or_push (map view_bytes vs) (view_bytes w) [] i last))
      k

  pub all_still : (vs : List BinaryView) (w : BinaryView) → AreViewsIn old vs
      → IsViewIn new (view_bytes w) → AreViewsIn new (vs ++ w ∷ [])
  all_still vs w h k i q = all_by vs w i h k (cases_lt i (length vs)) q

  pub values_still : (vs : List BinaryView) → AreViewsIn old vs
      → values_in new vs ≡ values_in old vs
  values_still [] h = refl
  values_still (v ∷ vs) h =
      λ i. same_still (view_bytes v) (h 0 (omega arith)) i
      ∷ values_still vs (λ k p. h (suc k) (omega (arith, p))) i

pub placed_push : (p : Placed) (vs : List (List ℕ)) (v : List ℕ)
    → placed_from p (vs ++ v ∷ []) ≡ placed_after (placed_from p vs) (length v)
placed_push p [] v = refl
placed_push p (w ∷ vs) v = placed_push (placed_after p (length w)) vs v

pub extend_none : (bs : List (List ℕ)) → Extend bs bs
extend_none bs = record {
  count = omega arith;
  each = λ k h.
      ([], sym (append-nil (get_or bs k [])));
}

after_short : (p : Placed) (n : ℕ) → n ≤ 12 → p ≡ placed_after p n
after_short p n h =
    sym (cond-true (nat_le n 12) p
    (cond (nat_le (p.fill + n) most_bytes) (record { count = p.count; fill = p.fill + n })
    (record { count = p.count + 1; fill = n })) (le-leb n 12 h))

pub placed_short : (value view : List ℕ) (b : Buffers) → length value ≤ 12
    → view ≡ inlined_view value
    → IsPlaced value b b view
placed_short value view b h is =
    let short : view_len view ≤ 12 = omega (arith, ap view_len is, short_len value h) in
    record {
      extend = extend_none (all_buffers b);
      fits = record {
        inlined = λ _. is ∙ ap inlined_view (sym (ap inlined_value is ∙ short_value value h));
        long = λ l. absurd (omega (arith, short, l));
      };
      value_is = short_in (all_buffers b) view short ∙ ap inlined_value is ∙ short_value value h;
      filled_is = after_short (filled b) (length value) h;
    }

pub short_count : (p : Placed) (n : ℕ) → n ≤ 12 → p.count ≤ most_buffers
    → (placed_after p n).count ≤ most_buffers
short_count p n h q = subst (λ (r : Placed). r.count ≤ most_buffers) (after_short p n h) q

fill_by : (b d : Bool) (p : Placed) (n : ℕ) → p.fill ≤ most_bytes → n ≤ most_bytes
    → nat_le n 12 ≡ b → nat_le (p.fill + n) most_bytes ≡ d → (placed_after p n).fill ≤ most_bytes
fill_by true d p n h k e f =
    subst (λ (q : Placed). q.fill ≤ most_bytes)
    (sym (cond-true (nat_le n 12) p (cond (nat_le (p.fill + n) most_bytes) (behind_last p n)
    (in_next p n)) e)) h
fill_by false true p n h k e f =
    subst (λ (q : Placed). q.fill ≤ most_bytes)
    (sym (cond-false (nat_le n 12) p (cond (nat_le (p.fill + n) most_bytes) (behind_last p n)
    (in_next p n)) e
    ∙ cond-true (nat_le (p.fill + n) most_bytes) (behind_last p n) (in_next p n) f))
    (leb-true (p.fill + n) most_bytes f)
fill_by false false p n h k e f =
    subst (λ (q : Placed). q.fill ≤ most_bytes)
    (sym (cond-false (nat_le n 12) p (cond (nat_le (p.fill + n) most_bytes) (behind_last p n)
    (in_next p n)) e
    ∙ cond-false (nat_le (p.fill + n) most_bytes) (behind_last p n) (in_next p n) f))
    k

fill_after : (p : Placed) (n : ℕ) → p.fill ≤ most_bytes → n ≤ most_bytes
    → (placed_after p n).fill ≤ most_bytes
fill_after p n h k = fill_by (nat_le n 12) (nat_le (p.fill + n) most_bytes) p n h k refl refl

-- what a builder has after one more view
module _ (bs new : Buffers) (vs us : List BinaryView) (w : BinaryView) (value : List ℕ)
    (more : us ≡ vs ++ w ∷ []) (fit : AreViewsIn (all_buffers bs) vs)
    (is : IsPlaced value bs new (view_bytes w)) where
  pub pushed_fit : AreViewsIn (all_buffers new) us
  pushed_fit =
      subst (λ (xs : List BinaryView). AreViewsIn (all_buffers new) xs) (sym more)
      (all_still (all_buffers bs) (all_buffers new) is.extend vs w fit is.fits)

  pub pushed_values : values_in (all_buffers new) us ≡ values_in (all_buffers bs) vs ++ value ∷ []
  pushed_values =
      ap (values_in (all_buffers new)) more
      ∙ map_push (λ v. value_in (all_buffers new) (view_bytes v)) vs w
      ∙ (λ i. values_still (all_buffers bs) (all_buffers new) is.extend vs fit i ++ is.value_is i ∷
      [])

  pub pushed_placed : filled bs ≡ placed (values_in (all_buffers bs) vs)
      → filled new ≡ placed (values_in (all_buffers new) us)
  pushed_placed h =
      is.filled_is ∙ ap (λ p. placed_after p (length value)) h
      ∙ sym (placed_push none_placed (values_in (all_buffers bs) vs) value)
      ∙ ap placed (sym pushed_values)

  pub pushed_range : AreInRange (filled bs) → length value ≤ most_bytes
      → (placed_after (filled bs) (length value)).count ≤ most_buffers → AreInRange (filled new)
  pushed_range r q n =
      subst AreInRange (sym is.filled_is)
      (record { fill = fill_after (filled bs) (length value) r.fill q; count = n })

-- the buffers that are needed for one more value
pub needed_after : (p : Placed) (values : List (List ℕ)) (value : List ℕ) → p ≡ placed values
    → (placed_after p (length value)).count ≡ buffers_needed (values ++ value ∷ [])
needed_after p values value h =
    ap (λ (q : Placed). (placed_after q (length value)).count) h
    ∙ ap (λ (q : Placed). q.count) (sym (placed_push none_placed values value))

pub refused_sooner : (C D : Type 0) (e : VortexError) → (D → C)
    → UnlessMemory (λ f. (¬ C) × (f ≡ InvalidColumn)) e
    → UnlessMemory (λ f. (¬ D) × (f ≡ InvalidColumn)) e
refused_sooner C D e h =
    UnlessMemory-weaker (λ f. (¬ C) × (f ≡ InvalidColumn)) (λ f. (¬ D) × (f ≡ InvalidColumn))
    (λ f p. ((λ d. p.0 (h d)), p.1)) e
