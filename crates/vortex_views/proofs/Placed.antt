-- Growing buffers keep their bytes, and hold the value that was added last.
use Rattle.std.proofs.Common.{◌≡◌, ℕ, ◌+◌, ◌<◌, ◌≤◌, ◌⊎◌, inl, inr, cond, nat_le, false, List, []}
use Rattle.std.proofs.Common.{◌∷◌, ◌++◌}
use Rattle.std.proofs.Common.{map, length, get_or, take, drop, refl, sym, ap, ◌∙◌, subst, arith}
use Rattle.std.proofs.Common.{Vec, Global}
use Rattle.std.specs.Prelude.{slice_set, Result}
use Rattle.vortex_errors.specs.Answers.{AnswersUnlessMemory, AnswersWhere}
use Rattle.vortex_errors.specs.declared.error.VortexError.{VortexError}
use Rattle.vortex_errors.proofs.Answering.{Answers-weaker}
use Rattle.std.proofs.lemmas.List.{set_at, map_push, get_or_push, get_or_append_left, append-nil}
use Rattle.std.proofs.lemmas.List.{length-append, drop_at, take_at, length-map, length_push}
use Rattle.std.proofs.lemmas.Bool.{cases_lt, cond-true, cond-false, le-leb, false_from_ne_true}
use Rattle.vortex_views.specs.declared.builder.Buffers.{Buffers}
use Rattle.vortex_views.specs.ViewBytes.{padded, long_view, view_len, view_buffer, view_offset}
use Rattle.vortex_views.specs.Resolved.{IsViewIn, LiesInBuffer, value_in}
use Rattle.vortex_views.specs.Placing.{Placed, placed_after, most_bytes}
use Rattle.vortex_views.specs.Building.{Extend, IsPlaced, IsAppended, IsBegun, all_buffers, full_of}
use Rattle.vortex_views.specs.Building.{filled, AreInRange}
use Rattle.vortex_views.proofs.Layouts.{long_len, long_buffer, long_offset}
use Rattle.vortex_views.proofs.Resolving.{long_in, above}

-- a list whose last item is replaced
pub last_set : (vs ws : List (Vec ℕ Global)) (new last : Vec ℕ Global) (n : ℕ) → n ≡ length vs
    → ws ≡ vs ++ new ∷ []
    → map (λ v. v.items) (slice_set ws n last) ≡ map (λ v. v.items) vs ++ last.items ∷ []
last_set vs ws new last n e p =
    ap (λ (us : List (Vec ℕ Global)). map (λ v. v.items) (slice_set us n last)) p
    ∙ ap (λ (us : List (Vec ℕ Global)). map (λ v. v.items) us) (set_at vs new [] last n (sym e))
    ∙ map_push (λ (v : Vec ℕ Global). v.items) vs last

pub last_read : (vs ws : List (Vec ℕ Global)) (new d : Vec ℕ Global) (n : ℕ) → n ≡ length vs
    → ws ≡ vs ++ new ∷ [] → (get_or ws n d).items ≡ new.items
last_read vs ws new d n e p =
    ap (λ (us : List (Vec ℕ Global)). (get_or us n d).items) p
    ∙ ap (λ (v : Vec ℕ Global). v.items) (get_or_push vs new d n (sym e))

first_four : (value : List ℕ) → 12 < length value → padded 4 value ≡ take 4 value
first_four [] h = absurd (omega arith)
first_four (a ∷ []) h = absurd (omega arith)
first_four (a ∷ b ∷ []) h = absurd (omega arith)
first_four (a ∷ b ∷ c ∷ []) h = absurd (omega arith)
first_four (a ∷ b ∷ c ∷ d ∷ rest) h = refl

-- a value at the end of the last buffer, with its view
module _ (fs : List (List ℕ)) (l value view : List ℕ) (long : 12 < length value)
    (most : length value ≤ 4294967295) (few : length fs ≤ 4294967295) (low : length l ≤ 4294967295)
    (is : view ≡ long_view (length value) value (length fs) (length l)) where
  abbrev pub bufs : List (List ℕ)
  bufs = fs ++ (l ++ value) ∷ []

  len_is : view_len view ≡ length value
  len_is = ap view_len is ∙ long_len value (length fs) (length l) most

  buffer_is : view_buffer view ≡ length fs
  buffer_is = ap view_buffer is ∙ long_buffer (length value) value (length fs) (length l)
      (omega arith)

  offset_is : view_offset view ≡ length l
  offset_is = ap view_offset is ∙ long_offset (length value) value (length fs) (length l)
      (omega arith)

  there : get_or bufs (view_buffer view) [] ≡ l ++ value
  there = ap (λ k. get_or bufs k []) buffer_is ∙ get_or_push fs (l ++ value) [] (length fs) refl

  behind : drop (view_offset view) (l ++ value) ≡ value
  behind = ap (λ k. drop k (l ++ value)) offset_is ∙ drop_at l value (length l) refl

  start_is : take 4 (drop 4 view) ≡ take 4 value
  start_is = ap (λ (v : List ℕ). take 4 (drop 4 v)) is ∙ first_four value long

  lies_last : LiesInBuffer (l ++ value) view
  lies_last = record {
    within = omega (arith, len_is, offset_is, length-append l value);
    start = start_is ∙ ap (λ (v : List ℕ). take 4 v) (sym behind);
  }

  is_long : 12 < view_len view
  is_long = omega (arith, len_is, long)

  pub fits_last : IsViewIn bufs view
  fits_last = record {
    inlined = λ h. absurd (omega (arith, is_long, h));
    long = λ h. record {
      there = omega (arith, buffer_is, length_push fs (l ++ value));
      lies = subst (λ (b : List ℕ). LiesInBuffer b view) (sym there) lies_last;
    };
  }

  pub value_last : value_in bufs view ≡ value
  value_last =
      long_in bufs view is_long
      ∙ ap (λ (b : List ℕ). take (view_len view) (drop (view_offset view) b)) there
      ∙ ap (λ (b : List ℕ). take (view_len view) b) behind
      ∙ ap (λ n. take n value) len_is
      ∙ ap (λ (v : List ℕ). take (length value) v) (sym (append-nil value))
      ∙ take_at value [] (length value) refl

extend_by : (fs : List (List ℕ)) (l x : List ℕ) (k : ℕ) → (k < length fs) ⊎ (length fs ≤ k)
    → k < length (fs ++ l ∷ [])
    → (more : List ℕ) × (get_or (fs ++ (l ++ x) ∷ []) k [] ≡ get_or (fs ++ l ∷ []) k [] ++ more)
extend_by fs l x k (inl h) q = (
  [],
  get_or_append_left fs ((l ++ x) ∷ []) [] k h ∙ sym (get_or_append_left fs (l ∷ []) [] k h)
      ∙ sym (append-nil (get_or (fs ++ l ∷ []) k [])),
)
extend_by fs l x k (inr h) q =
    let last : length fs ≡ k = omega (arith, h, q, length_push fs l) in (
      x,
      get_or_push fs (l ++ x) [] k last ∙ ap (λ (b : List ℕ). b ++ x)
          (sym (get_or_push fs l [] k last)),
    )

pub extend_last : (fs : List (List ℕ)) (l x : List ℕ) → Extend (fs ++ l ∷ []) (fs ++ (l ++ x) ∷ [])
extend_last fs l x = record {
  count = omega (arith, length_push fs l, length_push fs (l ++ x));
  each = λ k h. extend_by fs l x k (cases_lt k (length fs)) h;
}

pub extend_push : (bs : List (List ℕ)) (b : List ℕ) → Extend bs (bs ++ b ∷ [])
extend_push bs b = record {
  count = omega (arith, length_push bs b);
  each = λ k h. ([], get_or_append_left bs (b ∷ []) [] k h ∙ sym (append-nil (get_or bs k [])));
}

more_than_twelve : (n : ℕ) → 12 < n → nat_le n 12 ≡ false
more_than_twelve n h = false_from_ne_true (nat_le n 12) (above 12 n h)

abbrev pub behind_last : Placed → ℕ → Placed
behind_last p n = record { count = p.count; fill = p.fill + n }

abbrev pub in_next : Placed → ℕ → Placed
in_next p n = record { count = p.count + 1; fill = n }

pub filled_behind : (p : Placed) (n : ℕ) → 12 < n → p.fill + n ≤ most_bytes
    → behind_last p n ≡ placed_after p n
filled_behind p n long room =
    sym (cond-false (nat_le n 12) p (cond (nat_le (p.fill + n) most_bytes) (behind_last p n)
    (in_next p n)) (more_than_twelve n long)
    ∙ cond-true (nat_le (p.fill + n) most_bytes) (behind_last p n) (in_next p n)
    (le-leb (p.fill + n) most_bytes room))

pub filled_next : (p : Placed) (n : ℕ) → 12 < n → most_bytes < p.fill + n
    → in_next p n ≡ placed_after p n
filled_next p n long past =
    sym (cond-false (nat_le n 12) p (cond (nat_le (p.fill + n) most_bytes) (behind_last p n)
    (in_next p n)) (more_than_twelve n long)
    ∙ cond-false (nat_le (p.fill + n) most_bytes) (behind_last p n) (in_next p n)
    (false_from_ne_true (nat_le (p.fill + n) most_bytes) (above most_bytes (p.fill + n) past)))

counted : (old new : Buffers) (bs : List (List ℕ)) → full_of new ≡ bs
    → length new.full.items ≡ length bs
counted old new bs e = sym (length-map new.full.items (λ v. v.items)) ∙ ap length e

full_count : (b : Buffers) → length (full_of b) ≡ length b.full.items
full_count b = length-map b.full.items (λ v. v.items)

module _ (value : List ℕ) (old new : Buffers) (view : List ℕ) (long : 12 < length value)
    (most : length value ≤ 4294967295) where
  pub placed_appended : AreInRange (filled old) → length old.last.items + length value ≤ most_bytes
      → IsAppended value old new view → IsPlaced value old new view
  placed_appended range room h =
      let all : all_buffers new ≡ full_of old ++ (old.last.items ++ value) ∷ [] =
      (λ i. h.full i ++ h.last i ∷ []) in
      let is : view ≡ long_view (length value) value (length (full_of old)) (length old.last.items)
      =
      h.view_is ∙ ap (λ n. long_view (length value) value n (length old.last.items))
      (sym (full_count old)) in
      let few : length (full_of old) ≤ 4294967295 = omega (arith, range.count, full_count old) in
      record {
        extend = subst (λ (bs : List (List ℕ)). Extend (all_buffers old) bs) (sym all)
            (extend_last (full_of old) old.last.items value);
        fits = subst (λ (bs : List (List ℕ)). IsViewIn bs view) (sym all)
            (fits_last (full_of old) old.last.items value view long most few range.fill is);
        value_is = ap (λ (bs : List (List ℕ)). value_in bs view) all
            ∙ value_last (full_of old) old.last.items value view long most few range.fill is;
        filled_is = (λ i. record {
          count = (counted old new (full_of old) h.full ∙ full_count old) i + 1;
          fill = (ap length h.last ∙ length-append old.last.items value) i;
        }) ∙ filled_behind (filled old) (length value) long room;
      }

  pub placed_begun : AreInRange (filled old) → length old.full.items + 1 ≤ 4294967295
      → most_bytes < length old.last.items + length value
      → IsBegun value old new view → IsPlaced value old new view
  placed_begun range room past h =
      let all : all_buffers new ≡ all_buffers old ++ value ∷ [] =
      (λ i. h.full i ++ h.last i ∷ []) in
      let count : length (all_buffers old) ≡ length old.full.items + 1 =
      length_push (full_of old) old.last.items ∙ ap (λ n. n + 1) (full_count old) in
      let is : view ≡ long_view (length value) value (length (all_buffers old)) 0 =
      h.view_is ∙ ap (λ n. long_view (length value) value n 0) (sym count) in
      let few : length (all_buffers old) ≤ 4294967295 = omega (arith, room, count) in
      record {
        extend = subst (λ (bs : List (List ℕ)). Extend (all_buffers old) bs) (sym all)
            (extend_push (all_buffers old) value);
        fits = subst (λ (bs : List (List ℕ)). IsViewIn bs view) (sym all)
            (fits_last (all_buffers old) [] value view long most few (omega arith) is);
        value_is = ap (λ (bs : List (List ℕ)). value_in bs view) all
            ∙ value_last (all_buffers old) [] value view long most few (omega arith) is;
        filled_is = (λ i. record {
          count = (counted old new (all_buffers old) h.full ∙ count) i + 1;
          fill = ap length h.last i;
        }) ∙ filled_next (filled old) (length value) long past;
      }

pub unless_where : {A : Type 0} (r : Result A VortexError) (C : Type 0) (P Q : A → Type 0)
    (refusal : VortexError)
    → C → ((x : A) → P x → Q x) → AnswersUnlessMemory r P → AnswersWhere r C Q refusal
unless_where r C P Q refusal holds f h =
    Answers-weaker r P (λ x. C × Q x) (λ e. ⊥) (λ e. (¬ C) × (e ≡ refusal)) (λ x p. (holds, f x p))
    (λ e p. absurd p) h
