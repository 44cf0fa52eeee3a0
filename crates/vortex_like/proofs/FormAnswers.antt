-- The test of each form passes exactly where the pattern's tokens match.
use Rattle.std.proofs.Common.{◌≡◌, ℕ, true, List, refl}
use Rattle.std.specs.Prelude.{IsUtf8, string_bytes}
use Rattle.std.specs.Str.{chars, IsAscii}
use Rattle.std.proofs.lemmas.Str.{IsUtf8-string_bytes, IsUtf8-had}
use Rattle.vortex_like.specs.Tokens.{is_match}
use Rattle.vortex_like.specs.FormTests.{test_form, test_tokens, test_folds, is_ascii_form}
use Rattle.vortex_like.specs.FormTests.{form_said}
use Rattle.vortex_like.specs.declared.form_test.FormTest.{FormTest}
use Rattle.vortex_like.specs.declared.form_test.FormTest.TheVariants.{Eq, StartsWith, EndsWith}
use Rattle.vortex_like.specs.declared.form_test.FormTest.TheVariants.{Contains, IEqAscii}
use Rattle.vortex_like.specs.declared.form_test.FormTest.TheVariants.{IStartsWithAscii}
use Rattle.vortex_like.specs.declared.form_test.FormTest.TheVariants.{IEndsWithAscii, Tokens, SmallInside}
use Rattle.vortex_like.proofs.LiteralAnswers.{whole_answer, front_answer, end_answer}
use Rattle.vortex_like.proofs.LiteralAnswers.{inside_answer}
use Rattle.vortex_like.proofs.Foldings.{folded_whole, folded_front, folded_end}

pub form_answer : (t : FormTest) (bytes : List ℕ) → IsUtf8 bytes
    → (is_ascii_form (test_form t) ≡ true → IsAscii bytes)
    → form_said t bytes ≡ is_match (test_folds t) (test_tokens t) (chars bytes)
form_answer (Eq t) bytes u ascii =
    whole_answer (string_bytes t.literal) bytes (IsUtf8-string_bytes t.literal) u
form_answer (StartsWith t) bytes u ascii =
    front_answer (string_bytes t.literal) bytes (IsUtf8-string_bytes t.literal) u
form_answer (EndsWith t) bytes u ascii =
    end_answer (string_bytes t.literal) bytes (IsUtf8-string_bytes t.literal) u
form_answer (Contains t) bytes u ascii =
    inside_answer t.finder bytes (IsUtf8-had t.finder t.utf8) u
form_answer (IEqAscii t) bytes u ascii = folded_whole t.text bytes (ascii refl)
form_answer (IStartsWithAscii t) bytes u ascii = folded_front t.text bytes (ascii refl)
form_answer (IEndsWithAscii t) bytes u ascii = folded_end t.text bytes (ascii refl)
form_answer (Tokens t) bytes u ascii = refl
form_answer (SmallInside t) bytes u ascii = refl
