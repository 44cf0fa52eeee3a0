-- Tokens that are written one after the other, and the texts of answers.
use Rattle.std.proofs.Common.{◌≡◌, ℕ, ◌<◌, ◌+◌, ◌∷◌, [], ◌++◌, List, map, take, length, get_or}
use Rattle.std.proofs.Common.{refl, sym, ap, ◌∙◌, append_assoc}
use Rattle.std.proofs.lemmas.List.{append-nil, map_more}
use Rattle.vortex_syntax.specs.declared.writing.Ending.{Ending}
use Rattle.vortex_syntax.specs.declared.writing.Ending.TheVariants as at
use Rattle.vortex_syntax.specs.Tokens.{Token}
use Rattle.vortex_syntax.specs.Writing.{joins, token_text, blank_unless, ending_behind, ending_of}
use Rattle.vortex_syntax.specs.Writing.{written_behind, written}
use Rattle.vortex_syntax.specs.AnswerParts.{answer_parts}
use Rattle.vortex_syntax.specs.AnswerTexts.{answer_text, answer_texts}

-- what one token adds
abbrev pub added : Ending → Token → List ℕ
added e t = blank_unless (joins e t) ++ token_text t

pub ending-more : (e : Ending) (ts : List Token) (t : Token)
    → ending_of e (ts ++ (t ∷ [])) ≡ ending_behind (ending_of e ts) t
ending-more e [] t = refl
ending-more e (u ∷ us) t = ending-more (ending_behind e u) us t

pub written-more : (e : Ending) (ts : List Token) (t : Token)
    → written_behind e (ts ++ (t ∷ [])) ≡ written_behind e ts ++ added (ending_of e ts) t
written-more e [] t = ap (λ bs. blank_unless (joins e t) ++ bs) (append-nil (token_text t))
written-more e (u ∷ us) t =
    ap (λ bs. blank_unless (joins e u) ++ (token_text u ++ bs)) (written-more (ending_behind e u) us t)
    ∙ (ap (λ bs. blank_unless (joins e u) ++ bs)
    (sym (append_assoc (token_text u) (written_behind (ending_behind e u) us)
    (added (ending_of (ending_behind e u) us) t)))
    ∙ sym (append_assoc (blank_unless (joins e u))
    (token_text u ++ written_behind (ending_behind e u) us)
    (added (ending_of (ending_behind e u) us) t)))

-- the same by the code's tokens, one by one
module _ {A : Type 0} (f : A → Token) (xs : List A) (i : ℕ) (x : A) (e : Ending) where
  abbrev pub here : Token
  here = f (get_or xs i x)

  pub token_written : (old new : List ℕ) → i < length xs → old ≡ written (map f (take i xs))
      → e ≡ ending_of at.Tight (map f (take i xs)) → new ≡ old ++ added e here
      → new ≡ written (map f (take (i + 1) xs))
  token_written old new lt was ends is =
      is
      ∙ (ap (λ bs. bs ++ added e here) was
      ∙ (ap (λ d. written (map f (take i xs)) ++ added d here) ends
      ∙ (sym (written-more at.Tight (map f (take i xs)) here)
      ∙ ap written (sym (map_more f xs i x lt)))))

  pub token_ended : (next : Ending) → i < length xs
      → e ≡ ending_of at.Tight (map f (take i xs)) → next ≡ ending_behind e here
      → next ≡ ending_of at.Tight (map f (take (i + 1) xs))
  token_ended next lt ends is =
      is
      ∙ (ap (λ d. ending_behind d here) ends
      ∙ (sym (ending-more at.Tight (map f (take i xs)) here)
      ∙ ap (ending_of at.Tight) (sym (map_more f xs i x lt))))

-- the texts of the answers so far, of the next one and of the others
module _ (all done : List (List ℕ)) (ts p : List Token) (text : List ℕ) where
  pub texts_go_on : (rest : List Token) → all ≡ done ++ answer_texts ts
      → answer_parts ts ≡ p ∷ answer_parts rest → text ≡ answer_text p
      → all ≡ (done ++ (text ∷ [])) ++ answer_texts rest
  texts_go_on rest so_far parts is =
      so_far
      ∙ (ap (λ ps. done ++ map answer_text ps) parts
      ∙ (ap (λ b. done ++ (b ∷ answer_texts rest)) (sym is)
      ∙ sym (append_assoc done (text ∷ []) (answer_texts rest))))

  pub texts_end : all ≡ done ++ answer_texts ts → answer_parts ts ≡ p ∷ []
      → text ≡ answer_text p → done ++ (text ∷ []) ≡ all
  texts_end so_far parts is =
      ap (λ b. done ++ (b ∷ [])) is
      ∙ (sym (ap (λ ps. done ++ map answer_text ps) parts) ∙ sym so_far)
