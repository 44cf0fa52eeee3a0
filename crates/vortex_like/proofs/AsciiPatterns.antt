-- Which patterns are ASCII, and their case-insensitive forms.
use Rattle.std.proofs.Common.{◌≡◌, ℕ, zero, suc, ◌<◌, Bool, true, false, List, [], ◌∷◌, get_or}
use Rattle.std.proofs.Common.{refl, sym}
use Rattle.std.proofs.Common.{Option, ap, subst, ◌∙◌, arith}
use Rattle.std.specs.Prelude.{IsUtf8, Result, nat_lt}
use Rattle.std.specs.Str.{chars, IsAscii, IsNotAscii}
use Rattle.std.proofs.lemmas.Bool.{and_from, and_parts, lt-ltb, ltb-true, false_from_ne_true}
use Rattle.std.proofs.lemmas.Str.{chars-IsAscii, encodes-IsAscii, encodes-chars}
use Rattle.vortex_errors.specs.declared.error.VortexError.{VortexError}
use Rattle.vortex_errors.specs.Answers.{AnswersUnlessMemory}
use Rattle.vortex_like.specs.Forms.{is_ascii, form_of, plain_form, folded_form}
use Rattle.vortex_like.specs.FormTests.{IsTestOf}
use Rattle.vortex_like.specs.declared.form.LikeForm.{LikeForm}
use Rattle.vortex_like.specs.declared.form.LikeForm.TheVariants.{Tokens}
use Rattle.vortex_like.specs.declared.form_test.FormTest.{FormTest}

low_all : (xs : List ℕ) → IsAscii xs → is_ascii xs ≡ true
low_all [] h = refl
low_all (x ∷ xs) h =
    and_from (nat_lt x 128) (is_ascii xs) (lt-ltb x 128 (h 0)) (low_all xs (λ i. h (suc i)))

all_low : (xs : List ℕ) → is_ascii xs ≡ true → IsAscii xs
all_low [] e i = omega arith
all_low (x ∷ xs) e zero = ltb-true x 128 (and_parts (nat_lt x 128) (is_ascii xs) e).0
all_low (x ∷ xs) e (suc i) = all_low xs (and_parts (nat_lt x 128) (is_ascii xs) e).1 i

pub ascii_pattern : (bytes : List ℕ) → IsAscii bytes → is_ascii (chars bytes) ≡ true
ascii_pattern bytes h = ap is_ascii (chars-IsAscii bytes h) ∙ low_all bytes h

pub no_ascii_pattern : (bytes : List ℕ) → IsUtf8 bytes → IsNotAscii bytes
    → is_ascii (chars bytes) ≡ false
no_ascii_pattern bytes u h =
    false_from_ne_true (is_ascii (chars bytes))
    (λ e.
    let low = all_low (chars bytes) e in
    let same : chars bytes ≡ bytes = sym (encodes-IsAscii (chars bytes) low)
    ∙ encodes-chars bytes u in
    let here : get_or bytes h.0 0 < 128 = subst (λ (bs : List ℕ). get_or bs h.0 0 < 128) same
    (low h.0) in
    omega (arith, h.1))

pub ascii_form : (escape : Option ℕ) (pattern : List ℕ) (folds ascii : Bool) → folds ≡ true
    → ascii ≡ true
    → is_ascii pattern ≡ true
    → form_of escape pattern folds ascii ≡ folded_form (plain_form escape pattern)
ascii_form escape pattern true true e f g = rw g refl
ascii_form escape pattern false ascii e f g = cc
ascii_form escape pattern true false e f g = cc

pub form_no_ascii : (escape : Option ℕ) (pattern : List ℕ) (folds ascii : Bool) → folds ≡ true
    → is_ascii pattern ≡ false → form_of escape pattern folds ascii ≡ Tokens
form_no_ascii escape pattern true true e g = rw g refl
form_no_ascii escape pattern true false e g = refl
form_no_ascii escape pattern false ascii e g = cc

pub form_no_promise : (escape : Option ℕ) (pattern : List ℕ) (folds ascii : Bool) → folds ≡ true
    → ascii ≡ false
    → form_of escape pattern folds ascii ≡ Tokens
form_no_promise escape pattern true false e f = refl
form_no_promise escape pattern true true e f = cc
form_no_promise escape pattern false ascii e f = cc

-- a test of that form
pub test_as : (result : Result FormTest VortexError) (escape : Option ℕ) (pattern : List ℕ)
    (folds : Bool)
    (form form' : LikeForm) → folds ≡ true → form' ≡ form
    → AnswersUnlessMemory result (IsTestOf escape pattern true form)
    → AnswersUnlessMemory result (IsTestOf escape pattern folds form')
test_as result escape pattern folds form form' e f h =
    subst (λ (b : Bool). AnswersUnlessMemory result (IsTestOf escape pattern b form')) (sym e)
    (subst (λ (g : LikeForm). AnswersUnlessMemory result (IsTestOf escape pattern true g)) (sym f)
    h)
