-- A whole text.
use Rattle.std.proofs.Common.{◌≡◌, ℕ, true, List, length, Option, Some, None, Result, Ok, Err, refl}
use Rattle.std.proofs.Common.{ap, sym, ◌∙◌}
use Rattle.std.specs.Prelude.{MatchResult, IfOk}
use Rattle.vortex_syntax.specs.declared.error.SyntaxError.{SyntaxError}
use Rattle.vortex_syntax.specs.declared.error.SyntaxError.TheVariants.{OutOfMemory}
use Rattle.vortex_syntax.specs.declared.tree.SyntaxTree.{SyntaxTree}
use Rattle.vortex_syntax.specs.Errors.{AnswersUnlessMemory, UnlessMemory}
use Rattle.vortex_syntax.specs.Tokens.{Token}
use Rattle.vortex_syntax.specs.Lexing.{Lexes}
use Rattle.vortex_syntax.specs.Syntax.{Syntax}
use Rattle.vortex_syntax.specs.Postfix.{Step, postfix}
use Rattle.vortex_syntax.specs.Nesting.{nests}
use Rattle.vortex_syntax.specs.Grammar.{Reads}
use Rattle.vortex_syntax.specs.Reading.{steps_of}
use Rattle.vortex_syntax.proofs.Lexed.{one_list}
use Rattle.vortex_syntax.proofs.Complete.{whole_read}
use Rattle.vortex_syntax.proofs.Sound.{whole_found}

steps_is : (xs ys : List Step) → Some xs ≡ Some ys → xs ≡ ys
steps_is xs ys e = cc

-- the steps of what a text is read as are those of its tokens
pub steps_read : (text : List ℕ) (ts : List Token) (t : Syntax) → Lexes text ts → Reads text t
    → steps_of ts ≡ Some (postfix t)
steps_read text ts t l r = ap steps_of (one_list l r.lexed ∙ r.spelled.tokens)
    ∙ whole_read t r.spelled.levels

pub one_tree : (text : List ℕ) (t u : Syntax) → Reads text t → Reads text u → postfix t ≡ postfix u
one_tree text t u r s =
    steps_is (postfix t) (postfix u)
    (sym (steps_read text r.ts t r.lexed r) ∙ steps_read text r.ts u r.lexed s)

pub found_in : (text : List ℕ) (ts : List Token) (xs : List Step) → Lexes text ts → nests ts ≡ true
    → steps_of ts ≡ Some xs → (t : Syntax) × Reads text t × (xs ≡ postfix t)
found_in text ts xs l n e =
    let f = whole_found ts xs e in (
      f.tree,
      record
          { ts = ts; lexed = l; spelled = record { levels = f.fits; tokens = f.tokens }; nested = n },
      f.steps,
    )

-- what a reader of the tokens returns, where `all` is what they are read as
module _ {X Y : Type 0} (seen : X → Y) (all : Option Y) where
  pub found_of : (P : Y → Type 0) → ((y : Y) → all ≡ Some y → P y) → (r : Result X SyntaxError)
      → MatchResult r (λ v. all ≡ Some (seen v)) (UnlessMemory (all ≡ None))
      → IfOk r (λ v. P (seen v))
  found_of P f (Ok v) h = f (seen v) h
  found_of P f (Err e) h = tt

  pub only_of : (y : Y) → all ≡ Some y → (r : Result X SyntaxError)
      → MatchResult r (λ v. all ≡ Some (seen v)) (UnlessMemory (all ≡ None))
      → AnswersUnlessMemory r (λ v. seen v ≡ y)
  only_of y e (Ok v) h = let k : Some (seen v) ≡ Some y = sym h ∙ e in cc
  only_of y e (Err OutOfMemory) h = refl
  only_of y e (Err x) h = let k : None ≡ Some y = sym h ∙ e in absurd cc

pub is_paired : (r : Result SyntaxTree SyntaxError)
    → IfOk r (λ v. length v.places.items ≡ length v.steps.items)
is_paired (Ok v) = v.paired
is_paired (Err e) = tt
