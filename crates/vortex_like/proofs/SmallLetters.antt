-- A literal part contained in a text, ignoring case, by lower case.
use Rattle.std.proofs.Common.{◌≡◌, ℕ, suc, true, List, [], ◌∷◌, ◌++◌}
use Rattle.std.proofs.Common.{length, take, drop, refl, sym, ap, ◌∙◌}
use Rattle.std.specs.Str.{chars, IsAscii}
use Rattle.std.specs.Char.{to_ascii_lowercase}
use Rattle.std.proofs.lemmas.List.{take-append-drop, take_at, drop_at, length-map, map-append}
use Rattle.std.proofs.lemmas.List.{take-map, drop-map}
use Rattle.std.proofs.lemmas.Str.{chars-IsAscii}
use Rattle.unicode.specs.CaseFolding.{simple_fold}
use Rattle.vortex_like.specs.AsciiFolds.{folded}
use Rattle.vortex_like.specs.ByteTests.{holds_inside}
use Rattle.vortex_like.specs.SmallLetters.{FoldsToSmall, small}
use Rattle.vortex_like.specs.Tokens.{Match, is_match}
use Rattle.vortex_like.specs.Shapes.{inside_tokens}
use Rattle.vortex_like.proofs.Foldings.{front_folds, folds_front}
use Rattle.vortex_like.proofs.LiteralAnswers.{holds_parted, parted_holds}
use Rattle.vortex_like.proofs.Testing.{answer_is}

small_folds : FoldsToSmall → (bytes : List ℕ) → IsAscii bytes → folded bytes ≡ small bytes
small_folds letters [] ascii = refl
small_folds letters (b ∷ bytes) ascii =
    ap (λ (c : ℕ). c ∷ folded bytes) (letters b (ascii 0))
    ∙ ap (λ (cs : List ℕ). to_ascii_lowercase b ∷ cs)
    (small_folds letters bytes (λ i. ascii (suc i)))

module _ (literal text : List ℕ) where
  abbrev own : List ℕ
  own = folded literal

  inside_folds : holds_inside own (folded text) ≡ true → Match true (inside_tokens literal) text
  inside_folds e =
      let parts = holds_parted own (folded text) e in
      let k : ℕ = length parts.0 in
      let after : List ℕ = drop k text in
      let behind : folded after ≡ own ++ parts.1 =
      sym (drop-map simple_fold k text) ∙ ap (drop k) parts.2
      ∙ drop_at parts.0 (own ++ parts.1) k refl in
      let here : folded (take (length literal) after) ≡ own =
      sym (take-map simple_fold (length literal) after) ∙ ap (take (length literal)) behind
      ∙ take_at own parts.1 (length literal) (length-map literal simple_fold) in (
        take k text,
        after,
        sym (take-append-drop k text),
        front_folds literal after here,
      )

  folds_inside : Match true (inside_tokens literal) text → holds_inside own (folded text) ≡ true
  folds_inside m =
      let n : ℕ = length literal in
      let here = folds_front literal m.1 m.3 in
      parted_holds own (folded text) (folded m.0) (folded (drop n m.1))
      (ap folded m.2 ∙ map-append simple_fold m.0 m.1
      ∙ ap (λ (cs : List ℕ). folded m.0 ++ cs)
      (ap folded (sym (take-append-drop n m.1)) ∙ map-append simple_fold (take n m.1) (drop n m.1)
      ∙ ap (λ (cs : List ℕ). cs ++ folded (drop n m.1)) here.1))

-- a text contains a literal, ignoring case, where its lower case contains the literal's
pub small_inside : FoldsToSmall → (literal bytes : List ℕ) → IsAscii literal → IsAscii bytes
    → holds_inside (small literal) (small bytes)
    ≡ is_match true (inside_tokens (chars literal)) (chars bytes)
small_inside letters literal bytes plain ascii =
    ap (λ (cs : List ℕ). holds_inside cs (small bytes)) (sym (small_folds letters literal plain))
    ∙ ap (holds_inside (folded literal)) (sym (small_folds letters bytes ascii))
    ∙ answer_is true (holds_inside (folded literal) (folded bytes)) (inside_tokens literal) bytes
    (λ is. inside_folds literal bytes is, λ m. folds_inside literal bytes m)
    ∙ ap (λ (cs : List ℕ). is_match true (inside_tokens cs) bytes)
    (sym (chars-IsAscii literal plain))
    ∙ ap (λ (cs : List ℕ). is_match true (inside_tokens (chars literal)) cs)
    (sym (chars-IsAscii bytes ascii))
