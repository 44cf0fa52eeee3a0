-- The bytes of a record among those that are kept, and that they begin with no comment.
use Rattle.std.proofs.Common.{◌≡◌, ◌≢◌, ◌≤◌, ◌<◌, ◌+◌, ◌-◌, ◌∙◌, ◌&&◌, ◌||◌, Bool, true, false, ℕ}
use Rattle.std.proofs.Common.{List, [], ◌∷◌, Option, length, take, drop, refl, sym, ap, arith, zero}
use Rattle.std.proofs.Common.{suc, if◌then◌else◌, get_or}
use Rattle.std.specs.Prelude.{nat_le, slice_range}
use Rattle.std.proofs.lemmas.Bool.{leb-true, le-leb}
use Rattle.std.proofs.lemmas.List.{length-take-le, length-drop, drop-drop, drop_all, take-take}
use Rattle.std.proofs.lemmas.Slice.{between_is}
use Rattle.rowfn_csv.specs.Formats.{is_line_end, begins_comment, is_comment_line}
use Rattle.rowfn_csv.specs.KeptLines.{part}
use Rattle.rowfn_csv.specs.Reads.{from_record, IsEndOf}

-- bytes from a place up to another, where they reach so far
abbrev within : List ℕ → ℕ → ℕ → Bool
within bytes start end = nat_le start end && nat_le end (length bytes)

both : (a b : Bool) → (a && b) ≡ true → (a ≡ true) × (b ≡ true)
both true b e = (refl, e)
both false b e = absurd (cc e)

-- a part is there, or it is empty
data Part (bytes : List ℕ) (start end : ℕ) : Type 0 where
  there : start ≤ end → end ≤ length bytes → part bytes start end ≡ drop start (take end bytes)
      → Part bytes start end
  nothing : part bytes start end ≡ [] → Part bytes start end

a_part : (bytes : List ℕ) (start end : ℕ) → Part bytes start end
a_part bytes start end = by (within bytes start end) refl
  where
    by : (b : Bool) → within bytes start end ≡ b → Part bytes start end
    by true e =
        let tests = both (nat_le start end) (nat_le end (length bytes)) e in
        there (leb-true start end tests.0) (leb-true end (length bytes) tests.1)
        (ap (λ (b : Bool). if b then slice_range bytes start end else []) e
        ∙ between_is bytes start end)
    by false e = nothing (ap (λ (b : Bool). if b then slice_range bytes start end else []) e)

-- a part within the bytes
part_there : (bytes : List ℕ) (start end : ℕ) → start ≤ end → end ≤ length bytes
    → part bytes start end ≡ drop start (take end bytes)
part_there bytes start end rising reaches =
    ap (λ (b : Bool). if b && nat_le end (length bytes) then slice_range bytes start end else [])
    (le-leb start end rising)
    ∙ ap (λ (b : Bool). if b then slice_range bytes start end else [])
    (le-leb end (length bytes) reaches)
    ∙ between_is bytes start end

-- no bytes are between a place and itself
part_none : (bytes : List ℕ) (end : ℕ) → part bytes end end ≡ []
part_none bytes end =
    elim (a_part bytes end end) [
      | there rising reaches is ↦
          is ∙ drop_all end (take end bytes) (omega (arith, length-take-le end bytes reaches))
      | nothing is ↦ is
    ]

nil_dropped : (k : ℕ) (xs : List ℕ) → xs ≡ [] → drop k xs ≡ []
nil_dropped k xs e = let size : length xs ≡ 0 = ap length e in drop_all k xs (omega (arith, size))

-- the last ones of a part are the part that ends there
pub part_end : (bytes : List ℕ) (start end n : ℕ) → n ≤ length (part bytes start end)
    → part bytes (end - n) end ≡ drop (length (part bytes start end) - n) (part bytes start end)
part_end bytes start end n few =
    elim (a_part bytes start end) [
      | there rising reaches is ↦ whole rising reaches is
      | nothing is ↦
          let size : length (part bytes start end) ≡ 0 = ap length is in
          let none : end - n ≡ end = omega (arith, few, size) in
          ap (λ (k : ℕ). part bytes k end) none ∙ part_none bytes end
          ∙ sym (nil_dropped (length (part bytes start end) - n) (part bytes start end) is)
    ]
  where
    whole : start ≤ end → end ≤ length bytes → part bytes start end ≡ drop start (take end bytes)
        → part bytes (end - n) end
        ≡ drop (length (part bytes start end) - n) (part bytes start end)
    whole rising reaches is =
        let size : length (part bytes start end) ≡ end - start =
        ap length is ∙ length-drop start (take end bytes)
        ∙ ap (λ (k : ℕ). k - start) (length-take-le end bytes reaches) in
        let place : end - n ≡ start + (end - start - n) = omega (arith, size, few) in
        part_there bytes (end - n) end (omega arith) reaches
        ∙ ap (λ (k : ℕ). drop k (take end bytes)) place
        ∙ sym (drop-drop (end - start - n) start (take end bytes))
        ∙ ap (λ (k : ℕ). drop (k - n) (drop start (take end bytes))) (sym size)
        ∙ ap (drop (length (part bytes start end) - n)) (sym is)

-- the end of bytes, and what is left from the first record on
module _ (comment : Option ℕ) where
  longer : (b : ℕ) (bytes rest : List ℕ) → IsEndOf bytes rest → IsEndOf (b ∷ bytes) rest
  longer b bytes rest h =
      let few : length rest ≤ length bytes = h.few in
      let count : suc (length bytes - length rest) ≡ length (b ∷ bytes) - length rest =
      omega (arith, few) in
      record {
        few = omega (arith, few);
        last = h.last ∙ ap (λ (k : ℕ). drop k (b ∷ bytes)) count;
      }

  all_of : (bytes : List ℕ) → IsEndOf bytes bytes
  all_of bytes =
      let none : 0 ≡ length bytes - length bytes = omega arith in
      record {
        few = omega arith;
        last = ap (λ (k : ℕ). drop k bytes) none;
      }

  record_ends : (in_comment : Bool) (bytes : List ℕ)
      → IsEndOf bytes (from_record comment in_comment bytes)
  record_ends in_comment [] = all_of []
  record_ends in_comment (b ∷ bs) =
      pick (is_line_end b) (in_comment || begins_comment comment b)
      (longer b bs (from_record comment false bs) (record_ends false bs))
      (longer b bs (from_record comment true bs) (record_ends true bs))
    where
      pick : (ends skips : Bool) → IsEndOf (b ∷ bs) (from_record comment false bs)
          → IsEndOf (b ∷ bs) (from_record comment true bs)
          → IsEndOf (b ∷ bs)
          (if ends then from_record comment false bs
          else (if skips then from_record comment true bs else b ∷ bs))
      pick true skips line_ends goes_on = line_ends
      pick false true line_ends goes_on = goes_on
      pick false false line_ends goes_on = all_of (b ∷ bs)

  no_comment : (in_comment : Bool) (bytes : List ℕ)
      → is_comment_line comment (from_record comment in_comment bytes) ≡ false
  no_comment in_comment [] = refl
  no_comment in_comment (b ∷ bs) =
      pick (is_line_end b) (in_comment || begins_comment comment b) refl (no_comment false bs)
      (no_comment true bs)
    where
      not_second : (x y : Bool) → (x || y) ≡ false → y ≡ false
      not_second false y e = e
      not_second true y e = absurd (cc e)

      pick : (ends skips : Bool) → (in_comment || begins_comment comment b) ≡ skips
          → is_comment_line comment (from_record comment false bs) ≡ false
          → is_comment_line comment (from_record comment true bs) ≡ false
          → is_comment_line comment
          (if ends then from_record comment false bs
          else (if skips then from_record comment true bs else b ∷ bs))
          ≡ false
      pick true skips e line_ends goes_on = line_ends
      pick false true e line_ends goes_on = goes_on
      pick false false e line_ends goes_on = not_second in_comment (begins_comment comment b) e

  -- bytes whose first begins none
  pub first_no_comment : (bytes : List ℕ) (d : ℕ) → 0 < length bytes
      → begins_comment comment (get_or bytes 0 d) ≡ false → is_comment_line comment bytes ≡ false
  first_no_comment [] d some e = absurd (omega arith)
  first_no_comment (b ∷ bs) d some e = e

  -- bytes that begin with no comment, with more after them
  no_comment_more : (n : ℕ) (bytes : List ℕ) → take n bytes ≢ []
      → is_comment_line comment (take n bytes) ≡ false → is_comment_line comment bytes ≡ false
  no_comment_more zero bytes some e = absurd (some refl)
  no_comment_more (suc n) [] some e = refl
  no_comment_more (suc n) (b ∷ bs) some e = e

  -- the same of a part that ends further on
  part_longer : (bytes : List ℕ) (start end more : ℕ) → end ≤ more → part bytes start end ≢ []
      → is_comment_line comment (part bytes start end) ≡ false
      → is_comment_line comment (part bytes start more) ≡ false
  part_longer bytes start end more on some e =
      elim (a_part bytes start end) [
        | nothing is ↦ absurd (some is)
        | there rising reaches is ↦
            elim (a_part bytes start more) [
              | nothing isnt ↦ ap (is_comment_line comment) isnt
              | there rising_on reaches_on is_on ↦
                  let ahead : List ℕ = drop start (take more bytes) in
                  let same : part bytes start end ≡ take (end - start) ahead =
                  is
                  ∙ ap (drop start) (sym (take-take end more bytes on))
                  ∙ sym (between_is (take more bytes) start end) in
                  ap (is_comment_line comment) is_on
                  ∙ no_comment_more (end - start) ahead (λ none. some (same ∙ none))
                  (sym (ap (is_comment_line comment) same) ∙ e)
            ]
      ]

end_of_end : (bytes rest least : List ℕ) → IsEndOf bytes rest → IsEndOf rest least
    → IsEndOf bytes least
end_of_end bytes rest least h g =
    let few : length rest ≤ length bytes = h.few in
    let fewer : length least ≤ length rest = g.few in
    let count : (length bytes - length rest) + (length rest - length least)
    ≡ length bytes - length least =
    omega (arith, few, fewer) in
    record {
      few = omega (arith, few, fewer);
      last = g.last ∙ ap (drop (length rest - length least)) h.last
          ∙ drop-drop (length rest - length least) (length bytes - length rest) bytes
          ∙ ap (λ (k : ℕ). drop k bytes) count;
    }

-- a record's own bytes, from the first that belongs to it up to the end of those that were read or
-- on to a line feed after them: they begin with no comment
module _ (comment : Option ℕ) (kept : List ℕ) (first start end : ℕ) (bytes : List ℕ)
    (read : IsEndOf (part kept (start - first) (end - first)) bytes)
  where
    abbrev own : List ℕ
    own = from_record comment false bytes

    own_part : part kept ((end - length own) - first) (end - first) ≡ own
    own_part =
        let ends : IsEndOf (part kept (start - first) (end - first)) own =
        end_of_end (part kept (start - first) (end - first)) bytes own read
        (record_ends comment false bytes) in
        let place : (end - length own) - first ≡ (end - first) - length own = omega arith in
        ap (λ (k : ℕ). part kept k (end - first)) place
        ∙ part_end kept (start - first) (end - first) (length own) ends.few
        ∙ sym ends.last

    own_none :
        is_comment_line comment (part kept ((end - length own) - first) (end - first)) ≡ false
    own_none = ap (is_comment_line comment) own_part ∙ no_comment comment false bytes

    module _ (record_bytes : List ℕ) (is : record_bytes ≡ own) where
      abbrev from_to : ℕ → List ℕ → Bool
      from_to end_place r =
          is_comment_line comment (part kept ((end - length r) - first) (end_place - first))

      pub own_no_comment : from_to end record_bytes ≡ false
      own_no_comment = ap (from_to end) is ∙ own_none

      pub longer_no_comment : (more : ℕ) → end ≤ more → 0 < length record_bytes
          → from_to more record_bytes ≡ false
      longer_no_comment more on some =
          let size : length record_bytes ≡ length own = ap length is in
          ap (from_to more) is
          ∙ part_longer comment kept ((end - length own) - first) (end - first) (more - first)
          (omega (arith, on))
          (λ none. let e : length own ≡ 0 = ap length (sym own_part ∙ none) in
          absurd (omega (arith, size, some, e))) own_none
