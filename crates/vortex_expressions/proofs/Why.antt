-- The error of a text is reported.
use Rattle.std.proofs.Common.{◌≡◌, ℕ, List, refl, sym, subst, inl, inr}
use Rattle.std.specs.Bool.{IsTrue}
use Rattle.std.proofs.lemmas.Bool.{false≢true}
use Rattle.vortex_syntax.specs.declared.error.SyntaxError.{SyntaxError}
use Rattle.vortex_syntax.specs.declared.error.SyntaxError.TheVariants as syntax
use Rattle.vortex_syntax.specs.Tokens.{Token}
use Rattle.vortex_syntax.specs.Refusals.{RefusesBy}
use Rattle.vortex_expressions.specs.declared.error.TextError.{TextError}
use Rattle.vortex_expressions.specs.declared.error.Reason.{Reason}
use Rattle.vortex_expressions.specs.declared.error.Reason.TheVariants as reason
use Rattle.vortex_expressions.specs.declared.refusal.Refusal.{Refusal}
use Rattle.vortex_expressions.specs.Outcomes.{Outcome, answers, refuses, missing}
use Rattle.vortex_expressions.specs.Reading.{is_want_of_memory, is_memory_reason, ToldBy, ToldAt}
use Rattle.vortex_expressions.specs.Reading.{UnreadBy, ToldFor, TellsWhy}
use Rattle.vortex_expressions.proofs.SureCalls.{Sure}

module _ (Stops : List Token → ℕ → Type 0) (Refuses : Refusal → Type 0) (text : List ℕ) where
  of_memory : (r : Reason) (byte : ℕ) → IsTrue (is_memory_reason r)
      → ToldFor Stops Refuses text r byte
  of_memory reason.NoToken byte h = absurd (false≢true h)
  of_memory (reason.Unexpected x) byte h = absurd (false≢true h)
  of_memory reason.TooDeep byte h = absurd (false≢true h)
  of_memory (reason.Refused r) byte h = inr h

  of_want : (e : TextError) → IsTrue (is_want_of_memory e) → TellsWhy Stops Refuses text e
  of_want e h = of_memory e.reason e.byte h

  of_reason : (e : TextError) (r : Reason) → e.reason ≡ r → ToldFor Stops Refuses text r e.byte
      → TellsWhy Stops Refuses text e
  of_reason e r h k = subst (λ (x : Reason). ToldFor Stops Refuses text x e.byte) (sym h) k

  -- of an outcome in which no part is missing
  pub why : {A : Type 0} (P : A → Type 0) (o : Outcome A) (e : TextError) → Sure P o
      → ((r : Refusal) → o ≡ refuses r → Refuses r) → ToldBy o e → TellsWhy Stops Refuses text e
  why P (answers a) e s f h = of_want e h
  why P (refuses r) e s f h =
      elim h [ inl k ↦ of_reason e (reason.Refused r) k (inl (f r refl)) | inr k ↦ of_want e k ]
  why P missing e s f h = absurd s

  at_place : (e : TextError) (r : Reason) (byte : ℕ) → ToldFor Stops Refuses text r byte
      → ToldAt r byte e → TellsWhy Stops Refuses text e
  at_place e r byte f h =
      elim h [
        | inl k ↦ of_reason e r k.0 (subst (ToldFor Stops Refuses text r) (sym k.1) f)
        | inr k ↦ of_want e k
      ]

  -- of tokens that stop
  pub unread_why : (x : SyntaxError) (e : TextError) → RefusesBy Stops text x → UnreadBy x e
      → TellsWhy Stops Refuses text e
  unread_why (syntax.NoToken byte) e f h = at_place e reason.NoToken byte f h
  unread_why (syntax.Unexpected byte x) e f h = at_place e (reason.Unexpected x) byte f h
  unread_why (syntax.TooDeep byte) e f h = at_place e reason.TooDeep byte f h
  unread_why syntax.OutOfMemory e f h = of_want e h
