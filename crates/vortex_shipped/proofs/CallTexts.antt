-- The text of a call that is written part by part, with the texts of its arguments.
use Rattle.std.proofs.Common.{◌≡◌, ℕ, zero, suc, ◌-◌, ◌<◌, ◌≤◌, length, map, List, ◌++◌, refl, sym}
use Rattle.std.proofs.Common.{ap, ◌∙◌, arith, string_bytes, subst, inr}
use Rattle.std.specs.Prelude.{Some, Result, String}
use Rattle.std.specs.declared.alloc.Global.{Global}
use Rattle.std.proofs.lemmas.List.{append_assoc, append-nil, length-map}
use Rattle.vortex_errors.specs.declared.error.VortexError.{VortexError}
use Rattle.vortex_errors.specs.Answers.{AnswersUnlessMemory}
use Rattle.vortex_errors.proofs.Answering.{AnswersUnlessMemory-weaker}
use Rattle.vortex_interface.specs.CallTexts.{text_at, told}
use Rattle.vortex_interface.specs.FunctionTexts.{shipped_options_text}
use Rattle.vortex_interface.specs.Shipped.{Shipped, shipped_id, shipped_before, shipped_printed}
use Rattle.vortex_interface.specs.Shipped.{shipped_text}
use Rattle.vortex_interface.specs.Texts as interface
use Rattle.vortex_interface.specs.Texts.{IsDefaultOrOwn, WritesPart, AreTold}
use Rattle.vortex_interface.specs.Texts.{AppendsCall as AppendsParts}
use Rattle.vortex_interface.proofs.PartTexts.{told_next, told_past}
use Rattle.vortex_shipped.specs.Texts.{shipped_parts, WritesBefore, AppendsCall}

module _ (s : Shipped) where
  abbrev left_from : ℕ → ℕ → List (List ℕ) → List ℕ
  left_from k left texts = told (shipped_before s) (shipped_printed s) k left texts

  -- with the remaining parts it is the whole text
  abbrev pub IsTold : List (List ℕ) → List ℕ → ℕ → List ℕ → Type 0
  IsTold texts old k out =
      out ++ left_from k (suc (length texts) - k) texts ≡ old ++ shipped_text s texts

  pub told_begins : (texts : List (List ℕ)) (old : List ℕ) → IsTold texts old 0 old
  told_begins texts old =
      let all : suc (length texts) - 0 ≡ suc (length texts) = omega arith in
      ap (λ n. old ++ left_from 0 n texts) all

  pub told_goes_on : (texts : List (List ℕ)) (old : List ℕ) (k : ℕ) (out mid : String Global)
      (argued new : List ℕ) (place : ℕ) → k ≤ length texts → IsTold texts old k (string_bytes out)
      → WritesBefore s k out mid place → argued ≡ text_at place texts
      → new ≡ string_bytes mid ++ argued → IsTold texts old (suc k) new
  told_goes_on texts old k out mid argued new place le h w a e =
      let before = shipped_before s k in
      let argument = text_at (shipped_printed s k) texts in
      let rest = left_from (suc k) (suc (length texts) - suc k) texts in
      let next =
      told_next (shipped_before s) (shipped_printed s) k (suc (length texts)) texts (omega arith) in
      ap (λ bs. bs ++ rest)
      (e ∙ (λ j. w.0 j ++ (a ∙ ap (λ p. text_at p texts) w.1) j)
      ∙ append_assoc (string_bytes out) before argument)
      ∙ append_assoc (string_bytes out) (before ++ argument) rest
      ∙ ap (λ bs. string_bytes out ++ bs) (sym next) ∙ h

  pub told_ends : (texts : List (List ℕ)) (old : List ℕ) (k : ℕ) (out : List ℕ)
      → length texts < k → IsTold texts old k out → out ≡ old ++ shipped_text s texts
  told_ends texts old k out past h =
      let nothing =
      told_past (shipped_before s) (shipped_printed s) k (suc (length texts)) texts (omega arith) in
      sym (append-nil out) ∙ ap (λ bs. out ++ bs) (sym nothing) ∙ h

  -- what its calls write, as in the interface
  abbrev Interface : interface.Parts
  Interface = IsDefaultOrOwn (shipped_id s) (Some (shipped_options_text s)) (shipped_parts s)

  pub writes_part : (count k : ℕ) (old new : String Global) (answer : Result ℕ VortexError)
      → AnswersUnlessMemory answer (WritesBefore s k old new)
      → AnswersUnlessMemory answer (WritesPart Interface count k old new)
  writes_part count k old new answer h =
      AnswersUnlessMemory-weaker answer (WritesBefore s k old new)
      (WritesPart Interface count k old new)
      (λ place p. (shipped_before s k, p.0, inr (refl, p.1)))
      h

  parts_told : (count k left : ℕ) (texts : List (List ℕ))
      → AreTold (Interface count) k left texts (left_from k left texts)
  parts_told count k zero texts = refl
  parts_told count k (suc left) texts = (
    shipped_before s k,
    shipped_printed s k,
    left_from (suc k) left texts,
    inr (refl, refl),
    parts_told count (suc k) left texts,
    refl,
  )

  pub writes_parts : (texts : List (String Global)) (old new : String Global)
      (answer : Result (Unit {0}) VortexError)
      → AnswersUnlessMemory answer (λ u. AppendsCall s texts old new)
      → AnswersUnlessMemory answer (λ u. AppendsParts Interface texts old new)
  writes_parts texts old new answer h =
      let bytes = map string_bytes texts in
      AnswersUnlessMemory-weaker answer (λ u. AppendsCall s texts old new)
      (λ u. AppendsParts Interface texts old new)
      (λ u p. (
        shipped_text s bytes,
        p,
        subst (λ n. AreTold (Interface (length texts)) 0 (suc n) bytes (shipped_text s bytes))
            (length-map texts string_bytes)
            (parts_told (length texts) 0 (suc (length bytes)) bytes),
      ))
      h
