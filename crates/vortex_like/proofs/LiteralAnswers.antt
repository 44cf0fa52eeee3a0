-- A test by bytes passes exactly where its form's tokens match.
use Rattle.std.proofs.Common.{◌≡◌, ℕ, ◌+◌, ◌-◌, ◌<◌, ◌≤◌, Bool, true, false, List, ◌++◌, length}
use Rattle.std.proofs.Common.{take}
use Rattle.std.proofs.Common.{drop, get_or, refl, sym, ap, ◌∙◌, arith, length-append, nat_eq}
use Rattle.std.proofs.Common.{Option, Some, None}
use Rattle.std.specs.Prelude.{IsUtf8, is_some}
use Rattle.std.specs.Str.{chars, bytes_eq}
use Rattle.std.specs.List.{starts_with, ends_with}
use Rattle.std.proofs.lemmas.Bool.Decides.{Decides-eqb, same_from_decides}
use Rattle.std.proofs.lemmas.Slice.Eq.{bytes_eq-Decides, starts_is, ends_is}
use Rattle.std.proofs.lemmas.List.{take-append-drop, get_or-append-add, get_or_append_left}
use Rattle.std.proofs.lemmas.List.{get_or-take, get_or-drop, drop_at, length-take-le}
use Rattle.std.proofs.lemmas.List.{length-drop, ext_get_or}
use Rattle.memchr.specs.Find.{OccursAt, FindsNeedle}
use Rattle.vortex_like.specs.ByteTests.{holds_inside}
use Rattle.vortex_like.specs.Tokens.{is_match}
use Rattle.vortex_like.specs.Shapes.{whole_tokens, front_tokens, end_tokens, inside_tokens}
use Rattle.vortex_like.proofs.Testing.{answer_is, ending_passes, passes_ending}
use Rattle.vortex_like.proofs.Literals.{whole_match, front_match, end_match, inside_match}

-- where a literal part is in a text
pub occurs_parted : (bytes literal : List ℕ) (k : ℕ) → OccursAt bytes literal k
    → (front : List ℕ) × (rest : List ℕ) × (bytes ≡ front ++ (literal ++ rest))
occurs_parted bytes literal k h = (
  take k bytes,
  drop (length literal) (drop k bytes),
  sym (take-append-drop k bytes)
      ∙ ap (λ (bs : List ℕ). take k bytes ++ bs)
      (sym (take-append-drop (length literal) (drop k bytes))
      ∙ ap (λ (bs : List ℕ). bs ++ drop (length literal) (drop k bytes)) here),
)
  where
    size : length (take (length literal) (drop k bytes)) ≡ length literal
    size =
        length-take-le (length literal) (drop k bytes)
        (omega (arith, length-drop k bytes, h.fits))

    here : take (length literal) (drop k bytes) ≡ literal
    here =
        ext_get_or 0 (take (length literal) (drop k bytes)) literal size
        (λ i lt.
        let within : i < length literal = omega (arith, size) in
        get_or-take (length literal) (drop k bytes) i 0 within ∙ get_or-drop k bytes i 0
        ∙ h.reads i within)

pub parted_occurs : (bytes literal front rest : List ℕ) → bytes ≡ front ++ (literal ++ rest)
    → OccursAt bytes literal (length front)
parted_occurs bytes literal front rest e = record {
  fits = fits;
  reads = λ j lt.
      ap (λ (bs : List ℕ). get_or bs (length front + j) 0) e
      ∙ get_or-append-add front (literal ++ rest) j 0 ∙ get_or_append_left literal rest 0 j lt;
}
  where
    fits : length front + length literal ≤ length bytes
    fits =
        omega (
          arith,
          ap (λ (bs : List ℕ). length bs) e,
          length-append front (literal ++ rest),
          length-append literal rest,
        )

module _ (literal bytes : List ℕ) where
  abbrev begins : List ℕ → Bool
  begins ending = starts_with nat_eq ending literal

  pub holds_parted : holds_inside literal bytes ≡ true
      → (front : List ℕ) × (rest : List ℕ) × (bytes ≡ front ++ (literal ++ rest))
  holds_parted e =
      let at = ending_passes begins bytes e in
      let rest = drop at.0 bytes in
      let told = starts_is Decides-eqb rest literal (begins rest) refl in (
        take at.0 bytes,
        drop (length literal) rest,
        sym (take-append-drop at.0 bytes)
            ∙ ap (λ (bs : List ℕ). take at.0 bytes ++ bs) (told.0 at.1),
      )

  pub parted_holds : (front rest : List ℕ) → bytes ≡ front ++ (literal ++ rest)
      → holds_inside literal bytes ≡ true
  parted_holds front rest e =
      let behind = drop (length front) bytes in
      let told = starts_is Decides-eqb behind literal (begins behind) refl in
      passes_ending begins bytes (length front)
      (told.1 rest
      (ap (λ (bs : List ℕ). drop (length front) bs) e
      ∙ drop_at front (literal ++ rest) (length front) refl))

  -- a search finds the literal where it is contained
  pub finds_inside : (r : Option ℕ) → FindsNeedle bytes literal 0 r
      → is_some r ≡ holds_inside literal bytes
  finds_inside r h =
      same_from_decides (is_some r) (holds_inside literal bytes) (
        λ is. let parts = found r h is in parted_holds parts.0 parts.1 parts.2,
        λ (e : holds_inside literal bytes ≡ true). finds r h (holds_parted e),
      )
      (λ e. e, λ e. e)
    where
      found : (r : Option ℕ) → FindsNeedle bytes literal 0 r → is_some r ≡ true
          → (front : List ℕ) × (rest : List ℕ) × (bytes ≡ front ++ (literal ++ rest))
      found None h is = cc
      found (Some k) h is = occurs_parted bytes literal k h.1

      finds : (r : Option ℕ) → FindsNeedle bytes literal 0 r
          → ((front : List ℕ) × (rest : List ℕ) × (bytes ≡ front ++ (literal ++ rest)))
          → is_some r ≡ true
      finds (Some k) h parts = refl
      finds None h parts =
          let occurs = parted_occurs bytes literal parts.0 parts.1 parts.2 in
          let low : 0 ≤ length parts.0 = omega arith in
          let high : length parts.0 < length bytes + 1 = omega (arith, occurs.fits) in
          absurd (h (length parts.0) low high occurs)

module _ (literal bytes : List ℕ) (l : IsUtf8 literal) (u : IsUtf8 bytes) where
  pub whole_answer : bytes_eq literal bytes
      ≡ is_match false (whole_tokens (chars literal)) (chars bytes)
  whole_answer =
      let decides = bytes_eq-Decides literal bytes in
      let match = whole_match literal bytes l u in
      answer_is false (bytes_eq literal bytes) (whole_tokens (chars literal)) (chars bytes)
      (λ is. match.0 (decides.0 is), λ m. decides.1 (match.1 m))

  pub front_answer : starts_with nat_eq bytes literal
      ≡ is_match false (front_tokens (chars literal)) (chars bytes)
  front_answer =
      let b = starts_with nat_eq bytes literal in
      let decides = starts_is Decides-eqb bytes literal b refl in
      let match = front_match literal bytes l u in
      answer_is false b (front_tokens (chars literal)) (chars bytes) (
        λ is. match.0 (drop (length literal) bytes, decides.0 is),
        λ m. let parts = match.1 m in decides.1 parts.0 parts.1,
      )

  pub end_answer : ends_with nat_eq bytes literal
      ≡ is_match false (end_tokens (chars literal)) (chars bytes)
  end_answer =
      let b = ends_with nat_eq bytes literal in
      let decides = ends_is Decides-eqb bytes literal b refl in
      let match = end_match literal bytes l u in
      answer_is false b (end_tokens (chars literal)) (chars bytes) (
        λ is. match.0 (take (length bytes - length literal) bytes, decides.0 is),
        λ m. let parts = match.1 m in decides.1 parts.0 parts.1,
      )

  pub inside_answer : holds_inside literal bytes
      ≡ is_match false (inside_tokens (chars literal)) (chars bytes)
  inside_answer =
      let match = inside_match literal bytes l u in
      answer_is false (holds_inside literal bytes) (inside_tokens (chars literal)) (chars bytes) (
        λ is. match.0 (holds_parted literal bytes is),
        λ m. let parts = match.1 m in parted_holds literal bytes parts.0 parts.1 parts.2,
      )
