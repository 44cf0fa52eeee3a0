-- A text compared with a literal part, ignoring case: equal foldings mean that the tokens match.
use Rattle.std.proofs.Common.{◌≡◌, ℕ, suc, ◌+◌, ◌-◌, ◌<◌, ◌≤◌, true, false, List, [], ◌∷◌, ◌++◌}
use Rattle.std.proofs.Common.{map, length, take}
use Rattle.std.proofs.Common.{drop, refl, sym, ap, subst, ◌∙◌, arith, length-append, eq-eqb}
use Rattle.std.specs.Prelude.{◌↔◌, IsTrue, ◌%◌, IsUtf8}
use Rattle.std.specs.Str.{chars, IsAscii}
use Rattle.std.proofs.lemmas.Bool.{eqb-true, false_from_ne_true}
use Rattle.std.proofs.lemmas.List.{append-nil, take-append-drop, take_at, drop_at, length-map}
use Rattle.std.proofs.lemmas.List.{length-take}
use Rattle.std.proofs.lemmas.Slice.Eq.{bytes_eq-Decides}
use Rattle.std.proofs.lemmas.Str.{chars-IsAscii, IsAscii-take, IsAscii-drop, chars-append}
use Rattle.std.proofs.lemmas.Str.{IsUtf8-from_ascii}
use Rattle.unicode.specs.CaseFolding.{simple_fold}
use Rattle.vortex_like.specs.AsciiFolds.{folded}
use Rattle.vortex_like.specs.ByteTests.{folded_bytes, folds_alike, front_folds_alike}
use Rattle.vortex_like.specs.ByteTests.{end_folds_alike}
use Rattle.vortex_like.specs.Tokens.{Token, any, character, Match, is_match}
use Rattle.vortex_like.specs.Shapes.{whole_tokens, front_tokens, end_tokens}
use Rattle.vortex_like.proofs.Testing.{answer_is}

-- a text that the tokens of a literal part match begins with equal foldings
fold_start : (literal : List ℕ) (rest : List Token) (text : List ℕ)
    → Match true (map character literal ++ rest) text
    → (front : List ℕ) × (after : List ℕ) × (text ≡ front ++ after)
    × (folded front ≡ folded literal) × Match true rest after
fold_start [] rest text m = ([], text, refl, refl, m)
fold_start (c ∷ literal) rest text m =
    let r = fold_start literal rest m.1 m.4 in
    let same : simple_fold c ≡ simple_fold m.0 = eqb-true (simple_fold c) (simple_fold m.0) m.3 in (
      m.0 ∷ r.0,
      r.1,
      m.2 ∙ ap (λ (cs : List ℕ). m.0 ∷ cs) r.2,
      ap (λ (d : ℕ). d ∷ folded r.0) (sym same)
          ∙ ap (λ (cs : List ℕ). simple_fold c ∷ cs) r.3,
      r.4,
    )

start_folds : (literal front after : List ℕ) (rest : List Token) → folded front ≡ folded literal
    → Match true rest after → Match true (map character literal ++ rest) (front ++ after)
start_folds [] [] after rest e m = m
start_folds [] (d ∷ front) after rest e m = cc
start_folds (c ∷ literal) [] after rest e m = cc
start_folds (c ∷ literal) (d ∷ front) after rest e m =
    let head : simple_fold c ≡ simple_fold d = cc in
    let tail : folded front ≡ folded literal = cc in (
      d,
      front ++ after,
      refl,
      eq-eqb (simple_fold c) (simple_fold d) head,
      start_folds literal front after rest tail m,
    )

same_length : (xs ys : List ℕ) → folded xs ≡ folded ys → length xs ≡ length ys
same_length xs ys e =
    sym (length-map xs simple_fold) ∙ ap (λ (cs : List ℕ). length cs) e ∙ length-map ys simple_fold

module _ (literal text : List ℕ) where
  whole_folds : (folded text ≡ folded literal) ↔ Match true (whole_tokens literal) text
  whole_folds = (
    λ e. subst (λ (ts : List Token). Match true ts text) (append-nil (map character literal))
        (subst (λ (cs : List ℕ). Match true (map character literal ++ []) cs) (append-nil text)
        (start_folds literal text [] [] e refl)),
    λ m.
        let r =
        fold_start literal [] text
        (subst (λ (ts : List Token). Match true ts text) (sym (append-nil (map character literal)))
        m)
        in
        ap folded
        (r.2 ∙ ap (λ (cs : List ℕ). r.0 ++ cs) r.4 ∙ append-nil r.0)
        ∙ r.3,
  )

  pub front_folds : folded (take (length literal) text) ≡ folded literal
      → Match true (front_tokens literal) text
  front_folds e =
      subst (λ (cs : List ℕ). Match true (front_tokens literal) cs)
      (take-append-drop (length literal) text)
      (start_folds literal (take (length literal) text) (drop (length literal) text) (any ∷ []) e
      (drop (length literal) text, [], sym (append-nil (drop (length literal) text)), refl))

  pub folds_front : Match true (front_tokens literal) text
      → (length literal ≤ length text) × (folded (take (length literal) text) ≡ folded literal)
  folds_front m =
      let r = fold_start literal (any ∷ []) text m in
      let size : length r.0 ≡ length literal = same_length r.0 literal r.3 in (
        omega (arith, ap (λ (cs : List ℕ). length cs) r.2, length-append r.0 r.1),
        ap folded
            (ap (λ (cs : List ℕ). take (length literal) cs) r.2
            ∙ take_at r.0 r.1 (length literal) size)
            ∙ r.3,
      )

  end_folds : folded (drop (length text - length literal) text) ≡ folded literal
      → Match true (end_tokens literal) text
  end_folds e = (
    take (length text - length literal) text,
    drop (length text - length literal) text,
    sym (take-append-drop (length text - length literal) text),
    whole_alone e,
  )
    where
      whole_alone : folded (drop (length text - length literal) text) ≡ folded literal
          → Match true (map character literal) (drop (length text - length literal) text)
      whole_alone e =
          let rest = drop (length text - length literal) text in
          subst (λ (ts : List Token). Match true ts rest) (append-nil (map character literal))
          (subst (λ (cs : List ℕ). Match true (map character literal ++ []) cs) (append-nil rest)
          (start_folds literal rest [] [] e refl))

-- the end of a text, by its length
end_alone : (literal text front after : List ℕ) → text ≡ front ++ after
    → folded after ≡ folded literal
    → (length literal ≤ length text)
    × (folded (drop (length text - length literal) text) ≡ folded literal)
end_alone literal text front after e f =
    let size : length after ≡ length literal = same_length after literal f in
    let whole : length text ≡ length front + length after =
    ap (λ (cs : List ℕ). length cs) e ∙ length-append front after in
    let seam : length front ≡ length text - length literal = omega arith in (
      omega arith,
      ap folded
          (ap (λ (cs : List ℕ). drop (length text - length literal) cs) e
          ∙ drop_at front after (length text - length literal) seam)
          ∙ f,
    )

-- too few bytes
pub too_short : (literal bytes : List ℕ) → length bytes < length literal
    → folds_alike literal bytes ≡ false
too_short literal bytes lt =
    false_from_ne_true (folds_alike literal bytes)
    (λ e.
    let same = (bytes_eq-Decides (folded_bytes bytes) (folded literal)).0 e in
    omega (
      arith,
      ap (λ (cs : List ℕ). length cs) same,
      length-map bytes (λ b. simple_fold (b % 128)),
      length-map literal simple_fold,
    ))

-- ASCII bytes are folded as their characters
ascii_folded : (bytes : List ℕ) → IsAscii bytes → folded_bytes bytes ≡ folded bytes
ascii_folded [] ascii = refl
ascii_folded (b ∷ bytes) ascii =
    let own : b % 128 ≡ b = omega (arith, ascii 0) in
    ap (λ (c : ℕ). simple_fold c ∷ folded_bytes bytes) own
    ∙ ap (λ (cs : List ℕ). simple_fold b ∷ cs) (ascii_folded bytes (λ i. ascii (suc i)))

alike_told : (literal bytes : List ℕ) → IsAscii bytes
    → IsTrue (folds_alike literal bytes) ↔ (folded bytes ≡ folded literal)
alike_told literal bytes ascii =
    let same = ascii_folded bytes ascii in
    let decides = bytes_eq-Decides (folded_bytes bytes) (folded literal) in
    (λ is. sym same ∙ decides.0 is, λ e. decides.1 (same ∙ e))

-- the result of a test by foldings for an ASCII text
module _ (literal bytes : List ℕ) (ascii : IsAscii bytes) where
  text_is : chars bytes ≡ bytes
  text_is = chars-IsAscii bytes ascii

  pub folded_whole : folds_alike literal bytes
      ≡ is_match true (whole_tokens literal) (chars bytes)
  folded_whole =
      let told = alike_told literal bytes ascii in
      let match = whole_folds literal bytes in
      answer_is true (folds_alike literal bytes) (whole_tokens literal) bytes
      (λ is. match.0 (told.0 is), λ m. told.1 (match.1 m))
      ∙ ap (λ (cs : List ℕ). is_match true (whole_tokens literal) cs) (sym text_is)

  pub folded_front : front_folds_alike literal bytes
      ≡ is_match true (front_tokens literal) (chars bytes)
  folded_front =
      let told =
      alike_told literal (take (length literal) bytes) (IsAscii-take bytes (length literal) ascii)
      in
      answer_is true (front_folds_alike literal bytes) (front_tokens literal) bytes (
        λ is. front_folds literal bytes (told.0 is),
        λ m. told.1 (folds_front literal bytes m).1,
      )
      ∙ ap (λ (cs : List ℕ). is_match true (front_tokens literal) cs) (sym text_is)

  pub folded_end : end_folds_alike literal bytes
      ≡ is_match true (end_tokens literal) (chars bytes)
  folded_end =
      let from = length bytes - length literal in
      let told = alike_told literal (drop from bytes) (IsAscii-drop bytes from ascii) in
      answer_is true (end_folds_alike literal bytes) (end_tokens literal) bytes (
        λ is. end_folds literal bytes (told.0 is),
        λ m. told.1 (end_alone literal bytes m.0 m.1 m.2 ((whole_folds literal m.1).1 m.3)).1,
      )
      ∙ ap (λ (cs : List ℕ). is_match true (end_tokens literal) cs) (sym text_is)

-- and, for a prefix, for a text whose first bytes are ASCII
pub folded_any_front : (literal bytes : List ℕ) → IsUtf8 bytes → length literal ≤ length bytes
    → IsAscii (take (length literal) bytes)
    → front_folds_alike literal bytes ≡ is_match true (front_tokens literal) (chars bytes)
folded_any_front literal bytes u fits ascii =
    let n : ℕ = length literal in
    let head : List ℕ = take n bytes in
    let text : List ℕ = chars bytes in
    let parts : text ≡ head ++ chars (drop n bytes) =
    ap chars (sym (take-append-drop n bytes))
    ∙ chars-append head (drop n bytes) (IsUtf8-from_ascii head ascii)
    ∙ ap (λ (cs : List ℕ). cs ++ chars (drop n bytes)) (chars-IsAscii head ascii) in
    let same : take n text ≡ head =
    ap (λ (cs : List ℕ). take n cs) parts
    ∙ take_at head (chars (drop n bytes)) n (omega (arith, length-take n bytes)) in
    let told = alike_told literal head ascii in
    answer_is true (front_folds_alike literal bytes) (front_tokens literal) text (
      λ is. front_folds literal text (ap folded same ∙ told.0 is),
      λ m. told.1 (ap folded (sym same) ∙ (folds_front literal text m).1),
    )
