-- A needle is searched in concatenated texts.
use Rattle.std.proofs.Common.{◌≡◌, ◌⊎◌, inl, inr, ℕ, zero, suc, ◌+◌, ◌-◌, ◌<◌, ◌≤◌, Bool, true, false}
use Rattle.std.proofs.Common.{List, [], ◌∷◌, ◌++◌, length, take, drop, get_or, map, refl, sym, ap, subst}
use Rattle.std.proofs.Common.{◌∙◌, arith, length-append, length-drop, Some, None}
use Rattle.std.specs.Prelude.{slice_index, slice_index_or}
use Rattle.std.specs.Char.{to_ascii_lowercase}
use Rattle.std.proofs.lemmas.Bool.Decides.{same_from_decides}
use Rattle.std.proofs.lemmas.List.{length_push, get_or_push, get_or_append_left, get_or-append_right}
use Rattle.std.proofs.lemmas.List.{drop-append-le, take-append-le, drop_at, take_all}
use Rattle.std.proofs.lemmas.List.{get_or-take, get_or-drop, length-map, take-map, drop-map}
use Rattle.memchr.specs.Find.{OccursAt, FindsNeedle}
use Rattle.vortex_like.specs.ByteTests.{holds_inside}
use Rattle.vortex_like.specs.Gathered.{AreGathered, IsBatch, ArePlaces, IsNext, IsHeldAt, AreHeld}
use Rattle.vortex_like.specs.Rows.{AreTold}
use Rattle.vortex_like.specs.SmallLetters.{cased}
use Rattle.vortex_like.specs.TextRows.{text_at}
use Rattle.vortex_like.proofs.RowLemmas.{told_more}
use Rattle.vortex_like.proofs.LiteralAnswers.{occurs_parted, parted_occurs, holds_parted}
use Rattle.vortex_like.proofs.LiteralAnswers.{parted_holds}

last_or_before : (k n : ℕ) → k < n + 1 → (k < n) ⊎ (k ≡ n)
last_or_before k n lt = grind arith

-- one more result
pub told_push : (tells : ℕ → Bool → Type 0) (bits new : List Bool) (b : Bool)
    → new ≡ bits ++ b ∷ [] → AreTold (length bits) tells bits → tells (length bits) b
    → AreTold (length new) tells new
told_push tells bits new b e h told =
    subst (λ (bs : List Bool). AreTold (length bs) tells bs) (sym e)
    (subst (λ (n : ℕ). AreTold n tells (bits ++ b ∷ [])) (sym (length_push bits b))
    (told_more (length bits) tells bits b h told))

below_or_not : (k n : ℕ) → (k < n) ⊎ (n ≤ k)
below_or_not k n = grind arith

-- the gathered bytes grow by a text
module _ (texts : List (List ℕ)) (first : ℕ) where
  pub gathered_none : AreGathered texts first 0 [] (0 ∷ [])
  gathered_none = record {
    count = refl;
    last = refl;
    within = λ r le. here r (none r le);
    next = λ r lt. absurd (omega arith);
    lies = λ r lt. absurd (omega arith);
  }
    where
      none : (r : ℕ) → r ≤ 0 → r ≡ 0
      none r le = omega arith

      here : (r : ℕ) → r ≡ 0 → slice_index (0 ∷ []) r ≤ 0
      here r e = rw e (omega arith)

  module _ (n : ℕ) (bytes places : List ℕ) (h : AreGathered texts first n bytes places) where
    abbrev text : List ℕ
    text = text_at texts (first + n)

    abbrev end : ℕ
    end = length (bytes ++ text)

    abbrev ends : List ℕ
    ends = places ++ end ∷ []

    size : end ≡ length bytes + length text
    size = length-append bytes text

    before : (r : ℕ) → r ≤ n → slice_index ends r ≡ slice_index places r
    before r le = get_or_append_left places (end ∷ []) 0 r (omega (arith, h.count))

    behind : slice_index ends (n + 1) ≡ end
    behind = get_or_push places end 0 (n + 1) h.count

    within_now : (r : ℕ) → (r < n + 1) ⊎ (r ≡ n + 1) → slice_index ends r ≤ end
    within_now r (inl lt) =
        let le : r ≤ n = omega arith in
        omega (arith, before r le, h.within r le, size)
    within_now r (inr e) = rw e (omega (arith, behind))

    next_now : (r : ℕ) → (r < n) ⊎ (r ≡ n)
        → slice_index ends (r + 1) ≡ slice_index ends r + length (text_at texts (first + r))
    next_now r (inl lt) =
        let le : r + 1 ≤ n = omega arith in
        let le' : r ≤ n = omega arith in
        omega (arith, before (r + 1) le, before r le', h.next r lt)
    next_now r (inr e) =
        let le : n ≤ n = omega arith in
        rw e (omega (arith, behind, before n le, h.last, size))

    lies_now : (r : ℕ) → (r < n) ⊎ (r ≡ n)
        → take (length (text_at texts (first + r))) (drop (slice_index ends r) (bytes ++ text))
        ≡ text_at texts (first + r)
    lies_now r (inl lt) =
        let le : r ≤ n = omega arith in
        let le' : r + 1 ≤ n = omega arith in
        let len : ℕ = length (text_at texts (first + r)) in
        let p : ℕ = slice_index places r in
        let fits : p + len ≤ length bytes = omega (arith, h.next r lt, h.within (r + 1) le') in
        ap (λ (k : ℕ). take len (drop k (bytes ++ text))) (before r le)
        ∙ ap (take len) (drop-append-le p bytes text (h.within r le))
        ∙ take-append-le len (drop p bytes) text (omega (arith, length-drop p bytes))
        ∙ h.lies r lt
    lies_now r (inr e) =
        let le : n ≤ n = omega arith in
        rw e
        (ap (λ (k : ℕ). take (length text) (drop k (bytes ++ text))) (before n le ∙ h.last)
        ∙ ap (take (length text)) (drop_at bytes text (length bytes) refl)
        ∙ take_all (length text) text (omega arith))

    pub gathered_more : AreGathered texts first (n + 1) (bytes ++ text) ends
    gathered_more = record {
      count = omega (arith, length_push places end, h.count);
      last = behind;
      within = λ r le. let lt : r < (n + 1) + 1 = omega arith in within_now r (last_or_before r (n + 1) lt);
      next = λ r lt. next_now r (last_or_before r n lt);
      lies = λ r lt. lies_now r (last_or_before r n lt);
    }

-- the offsets of the gathered texts
module _ (texts : List (List ℕ)) (first n : ℕ) (bytes places : List ℕ)
    (h : AreGathered texts first n bytes places) where
  rise_by : (d r : ℕ) → r + d ≤ n → slice_index places r ≤ slice_index places (r + d)
  rise_by zero r le =
      let e : r + 0 ≡ r = omega arith in rw e (omega arith)
  rise_by (suc d) r le =
      let e : r + suc d ≡ (r + d) + 1 = omega arith in
      let le' : r + d ≤ n = omega arith in
      let lt : r + d < n = omega arith in
      rw e (omega (arith, rise_by d r le', h.next (r + d) lt))

  pub places_of : ArePlaces bytes places
  places_of = record {
    some = omega (arith, h.count);
    within = λ r lt. h.within r (omega (arith, h.count));
    rise = λ r s le lt.
        let e : r + (s - r) ≡ s = omega arith in
        subst (λ (k : ℕ). slice_index places r ≤ slice_index places k) e
        (rise_by (s - r) r (omega (arith, h.count)));
  }

  module _ (needle : List ℕ) (r : ℕ) (lt : r < n) where
    abbrev own : List ℕ
    own = text_at texts (first + r)

    abbrev at : ℕ
    at = slice_index places r

    read : (i : ℕ) → i < length own → get_or own i 0 ≡ get_or bytes (at + i) 0
    read i below =
        ap (λ (bs : List ℕ). get_or bs i 0) (sym (h.lies r lt))
        ∙ get_or-take (length own) (drop at bytes) i 0 below ∙ get_or-drop at bytes i 0

    -- the needle is in a text exactly where it is in the text's range of the bytes
    in_text : (k : ℕ) → at ≤ k → k + length needle ≤ slice_index places (r + 1)
        → OccursAt bytes needle k → OccursAt own needle (k - at)
    in_text k low high o =
        let fits : (k - at) + length needle ≤ length own = omega (arith, h.next r lt) in
        record {
          fits = fits;
          reads = λ j below.
              let e : at + ((k - at) + j) ≡ k + j = omega arith in
              read ((k - at) + j) (omega arith)
              ∙ ap (λ (i : ℕ). get_or bytes i 0) e
              ∙ o.reads j below;
        }

    in_bytes : (k : ℕ) → OccursAt own needle k → OccursAt bytes needle (at + k)
    in_bytes k o =
        let le : r + 1 ≤ n = omega arith in
        record {
          fits = omega (arith, h.next r lt, h.within (r + 1) le, o.fits);
          reads = λ j below.
              let e : (at + k) + j ≡ at + (k + j) = omega arith in
              ap (λ (i : ℕ). get_or bytes i 0) e
              ∙ sym (read (k + j) (omega (arith, o.fits)))
              ∙ o.reads j below;
        }

    pub held_alike : (b : Bool) → IsHeldAt bytes needle places r b → b ≡ holds_inside needle own
    held_alike b told =
        same_from_decides b (holds_inside needle own) told (
          λ (e : holds_inside needle own ≡ true).
              let parts = holds_parted needle own e in
              let o = parted_occurs own needle parts.0 parts.1 parts.2 in (
                at + length parts.0,
                omega arith,
                omega (arith, h.next r lt, o.fits),
                in_bytes (length parts.0) o,
              ),
          λ w.
              let parts = occurs_parted own needle (w.0 - at) (in_text w.0 w.1 w.2 w.3) in
              parted_holds needle own parts.0 parts.1 parts.2,
        )

-- the texts of a batch after those before
pub held_more : (texts : List (List ℕ)) (first n : ℕ) (bytes places needle : List ℕ)
    (all held : List Bool) → AreGathered texts first n bytes places
    → AreHeld texts needle first all → AreTold n (IsHeldAt bytes needle places) held
    → AreHeld texts needle (first + n) (all ++ held)
held_more texts first n bytes places needle all held h old new = record {
  count = omega (arith, length-append all held, old.count, new.count);
  each = λ i lt. by i lt (below_or_not i first);
}
  where
    by : (i : ℕ) → i < first + n → (i < first) ⊎ (first ≤ i)
        → slice_index_or (all ++ held) i false ≡ holds_inside needle (text_at texts i)
    by i lt (inl below) =
        get_or_append_left all held false i (omega (arith, old.count)) ∙ old.each i below
    by i lt (inr above) =
        let r : ℕ = i - first in
        let below : r < n = omega arith in
        let e : first + r ≡ i = omega arith in
        get_or-append_right all held first i false old.count above
        ∙ held_alike texts first n bytes places h needle r below (slice_index_or held r false)
        (new.each r below)
        ∙ ap (λ (k : ℕ). holds_inside needle (text_at texts k)) e

-- where the needle is next, from a search that starts at an offset
module _ (bytes needle : List ℕ) (from : ℕ) where
  dropped : (k : ℕ) → from ≤ k → OccursAt bytes needle k
      → OccursAt (drop from bytes) needle (k - from)
  dropped k low o = record {
    fits = omega (arith, length-drop from bytes, o.fits);
    reads = λ j below.
        let e : from + ((k - from) + j) ≡ k + j = omega arith in
        get_or-drop from bytes ((k - from) + j) 0 ∙ ap (λ (i : ℕ). get_or bytes i 0) e
        ∙ o.reads j below;
  }

  whole : (k : ℕ) → from ≤ length bytes → OccursAt (drop from bytes) needle k
      → OccursAt bytes needle (from + k)
  whole k le o = record {
    fits = omega (arith, length-drop from bytes, o.fits);
    reads = λ j below.
        let e : (from + k) + j ≡ from + (k + j) = omega arith in
        ap (λ (i : ℕ). get_or bytes i 0) e ∙ sym (get_or-drop from bytes (k + j) 0)
        ∙ o.reads j below;
  }

  pub next_some : (at : ℕ) → from ≤ length bytes
      → FindsNeedle (drop from bytes) needle 0 (Some at) → IsNext bytes needle from (from + at)
  next_some at le h = record {
    before = λ k low high o.
        h.0.before (k - from) (omega arith) (omega arith) (dropped k low o);
    there = λ in'. whole at le h.1;
    low = omega arith;
  }

  pub next_none : from ≤ length bytes → FindsNeedle (drop from bytes) needle 0 None
      → IsNext bytes needle from (length bytes + 1)
  next_none le h = record {
    before = λ k low high o.
        h (k - from) (omega arith) (omega (arith, length-drop from bytes)) (dropped k low o);
    there = λ in'. absurd (omega arith);
    low = omega arith;
  }

-- results for texts from the next position of the needle
module _ (bytes needle places : List ℕ) (start r place : ℕ) (h : ArePlaces bytes places)
    (next : IsNext bytes needle (slice_index places start) place) (le : start ≤ r)
    (lt : r + 1 < length places) where
  pub not_held : slice_index places (r + 1) < place + length needle
      → IsHeldAt bytes needle places r false
  not_held passed = (
    λ e. no e,
    λ w. absurd
        (next.before w.0 (omega (arith, h.rise start r le (omega arith), w.1)) (omega (arith, w.2))
        w.3),
  )
    where
      no : {A : Type 0} → false ≡ true → A
      no e = cc

  pub is_held : place + length needle ≤ slice_index places (r + 1) → slice_index places r ≤ place
      → IsHeldAt bytes needle places r true
  is_held ends begins = (
    λ e.
        (place, begins, ends, next.there (omega (arith, h.within (r + 1) lt))),
    λ w. refl,
  )

-- the gathered texts of the rows from `first` up to `end`
pub batch : (texts : List (List ℕ)) (first end : ℕ) (bytes places : List ℕ)
    → AreGathered texts first (end - first) bytes places → first < end → end ≤ length texts
    → end ≤ first + 4096 → IsBatch texts first bytes places
batch texts first end bytes places h some high most = record {
  some = omega (arith, h.count);
  most = omega (arith, h.count);
  high = omega (arith, h.count);
  gathered =
      let e : end - first ≡ length places - 1 = omega (arith, h.count) in
      subst (λ (n : ℕ). AreGathered texts first n bytes places) e h;
}

-- one more row
pub gathered_next : (texts : List (List ℕ)) (first end : ℕ) (bytes places own bytes' places' : List ℕ)
    (at : ℕ) → first ≤ end → AreGathered texts first (end - first) bytes places
    → own ≡ text_at texts end → bytes' ≡ bytes ++ own → at ≡ length bytes'
    → places' ≡ places ++ at ∷ [] → AreGathered texts first ((end + 1) - first) bytes' places'
gathered_next texts first end bytes places own bytes' places' at le h is e f g =
    let n : ℕ = end - first in
    let row : first + n ≡ end = omega arith in
    let more : n + 1 ≡ (end + 1) - first = omega arith in
    let now : bytes ++ text_at texts (first + n) ≡ bytes' =
    ap (λ (i : ℕ). bytes ++ text_at texts i) row ∙ ap (λ (bs : List ℕ). bytes ++ bs) (sym is)
    ∙ sym e in
    let put : places ++ length (bytes ++ text_at texts (first + n)) ∷ [] ≡ places' =
    ap (λ (bs : List ℕ). places ++ length bs ∷ []) now
    ∙ ap (λ (k : ℕ). places ++ k ∷ []) (sym f) ∙ sym g in
    subst (λ (k : ℕ). AreGathered texts first k bytes' places') more
    (subst (λ (bs : List ℕ). AreGathered texts first (n + 1) bs places') now
    (subst
    (λ (ps : List ℕ). AreGathered texts first (n + 1) (bytes ++ text_at texts (first + n)) ps)
    put (gathered_more texts first n bytes places h)))

pub past : (a b : ℕ) → (a ≤ b → false ≡ true) → b < a
past a b h = elim (below_or_not b a) [ inl lt ↦ lt | inr le ↦ absurd (no (h le)) ]
  where
    no : false ≡ true → ⊥
    no e = cc

pub batch_places : (texts : List (List ℕ)) (first : ℕ) (bytes places : List ℕ)
    → IsBatch texts first bytes places → ArePlaces bytes places
batch_places texts first bytes places h =
    places_of texts first (length places - 1) bytes places h.gathered

small_length : (b : Bool) (bs : List ℕ) → length (cased b bs) ≡ length bs
small_length true bs = length-map bs to_ascii_lowercase
small_length false bs = refl

-- a text in lower case
pub small_at : (b : Bool) (ts : List (List ℕ)) (i : ℕ)
    → text_at (map (cased b) ts) i ≡ cased b (text_at ts i)
small_at true [] i = refl
small_at false [] i = refl
small_at b (t ∷ ts) zero = refl
small_at b (t ∷ ts) (suc i) = small_at b ts i

small_part : (b : Bool) (n k : ℕ) (bs : List ℕ)
    → take n (drop k (cased b bs)) ≡ cased b (take n (drop k bs))
small_part true n k bs =
    ap (take n) (drop-map to_ascii_lowercase k bs) ∙ take-map to_ascii_lowercase n (drop k bs)
small_part false n k bs = refl

-- gathered texts in lower case
module _ (texts : List (List ℕ)) (first : ℕ) (bytes places : List ℕ) (in_small : Bool) where
  pub cased_gathered : (n : ℕ) → AreGathered texts first n bytes places
      → AreGathered (map (cased in_small) texts) first n (cased in_small bytes) places
  cased_gathered n h = record {
    count = h.count;
    last = h.last ∙ sym (small_length in_small bytes);
    within = λ r le. rw (small_length in_small bytes) (h.within r le);
    next = λ r lt.
        h.next r lt
        ∙ ap (λ (k : ℕ). slice_index places r + k)
        (sym (ap (λ (bs : List ℕ). length bs) (small_at in_small texts (first + r))
        ∙ small_length in_small (text_at texts (first + r))));
    lies = λ r lt.
        let own : List ℕ = text_at texts (first + r) in
        ap (λ (k : ℕ). take k (drop (slice_index places r) (cased in_small bytes)))
        (ap (λ (bs : List ℕ). length bs) (small_at in_small texts (first + r))
        ∙ small_length in_small own)
        ∙ small_part in_small (length own) (slice_index places r) bytes
        ∙ ap (cased in_small) (h.lies r lt) ∙ sym (small_at in_small texts (first + r));
  }

  pub cased_batch : IsBatch texts first bytes places
      → IsBatch (map (cased in_small) texts) first (cased in_small bytes) places
  cased_batch h = record {
    some = h.some;
    most = h.most;
    high = omega (arith, h.high, length-map texts (cased in_small));
    gathered = cased_gathered (length places - 1) h.gathered;
  }

-- the results for a batch come after those before
pub held_batch : (texts : List (List ℕ)) (first : ℕ) (bytes places needle : List ℕ)
    (all held both : List Bool) → IsBatch texts first bytes places → first ≡ length all
    → AreHeld texts needle (length all) all
    → AreTold (length places - 1) (IsHeldAt bytes needle places) held → both ≡ all ++ held
    → AreHeld texts needle (length both) both × (length both ≤ length texts)
held_batch texts first bytes places needle all held both h e old new f = (
  subst (λ (bs : List Bool). AreHeld texts needle (length bs) bs) (sym f)
      (subst (λ (k : ℕ). AreHeld texts needle k (all ++ held)) (sym size)
      (held_more texts first (length places - 1) bytes places needle all held h.gathered
      (subst (λ (k : ℕ). AreHeld texts needle k all) (sym e) old) new)),
  omega (arith, ap (λ (bs : List Bool). length bs) f, size, h.high, h.some),
)
  where
    size : length (all ++ held) ≡ first + (length places - 1)
    size = omega (arith, length-append all held, new.count)
