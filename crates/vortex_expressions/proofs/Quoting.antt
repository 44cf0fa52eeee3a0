-- A text without its quotes, up to an index.
use Rattle.std.proofs.Common.{◌≡◌, ℕ, suc, ◌+◌, ◌<◌, Bool, true, false, ◌==◌, List, [], ◌∷◌, ◌++◌}
use Rattle.std.proofs.Common.{length, drop, get_or, ap, sym, ◌∙◌, append_assoc, arith}
use Rattle.std.proofs.Math.Seq.{drop-cons}
use Rattle.vortex_expressions.specs.Calls.{unquoted, unquoted_behind}

module _ (q : ℕ) (xs : List ℕ) where
  abbrev pub SoFar : List ℕ → Bool → ℕ → Type 0
  SoFar out b i = unquoted q xs ≡ out ++ unquoted_behind q b (drop i xs)

  more : (i : ℕ) → i < length xs → (b : Bool)
      → unquoted_behind q b (drop i xs) ≡ unquoted_behind q b (get_or xs i 0 ∷ drop (i + 1) xs)
  more i lt b =
      ap (unquoted_behind q b)
      (drop-cons xs i 0 lt
      ∙ ap (λ n. get_or xs i 0 ∷ drop n xs) (let e : suc i ≡ i + 1 = omega arith in e))

  pub passed_over : (i : ℕ) (out : List ℕ) → i < length xs → SoFar out true i
      → SoFar out false (i + 1)
  passed_over i out lt s = s ∙ ap (λ ys. out ++ ys) (more i lt true)

  pub taken : (i : ℕ) (out : List ℕ) → i < length xs → SoFar out false i
      → SoFar (out ++ get_or xs i 0 ∷ []) (get_or xs i 0 == q) (i + 1)
  taken i out lt s =
      s ∙ ap (λ ys. out ++ ys) (more i lt false)
      ∙ sym (append_assoc out (get_or xs i 0 ∷ [])
      (unquoted_behind q (get_or xs i 0 == q) (drop (i + 1) xs)))
