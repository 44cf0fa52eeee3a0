-- What is told in words for which memory may have been refused.
use Rattle.std.proofs.Common.{◌≡◌, ◌∙◌, ℕ, List, Option, refl, ap, subst, inl, inr, None}
use Rattle.std.specs.Prelude.{Result, Ok, Err, MatchResult, String, string_bytes}
use Rattle.std.specs.declared.alloc.Global.{Global}
use Rattle.vortex_errors.specs.Answers.{AnswersUnlessMemory}
use Rattle.vortex_errors.specs.declared.error.VortexError.{VortexError}
use Rattle.yurkije_columns.specs.Messages.{memory_words}
use Rattle.yurkije_core.specs.declared.report.Report.{Report}
use Rattle.yurkije_core.specs.declared.report.ErrorNumbers.{ErrorNumbers}
use Rattle.yurkije_core.specs.Reports.{Tells}
use Rattle.yurkije_core.specs.Messages.{HasMessage, IsToldIn}
use Rattle.yurkije.specs.Views.{HeldView}
use Rattle.yurkije.specs.Reading.{Refuses}

pub told_in : (P : List ℕ → Type 0) (r : Result (String Global) VortexError) (old new : Report)
    → AnswersUnlessMemory r (λ w. P (string_bytes w))
    → MatchResult r (λ w. HasMessage (string_bytes w) old new)
    (λ e. HasMessage memory_words old new)
    → IsToldIn P old new
told_in P (Ok w) old new said message = record {
  words = string_bytes w;
  said = inl said;
  message = message;
}
told_in P (Err e) old new said message = record {
  words = memory_words;
  said = inr refl;
  message = message;
}

-- a refusal that is told
pub refuses_in : (P : List ℕ → Type 0) (r : Result (String Global) VortexError) (t u : ErrorNumbers)
    (held : Option HeldView) (result : ℕ) (old new : Report) → u ≡ t → held ≡ None
    → result ≡ u.status → Tells new u → AnswersUnlessMemory r (λ w. P (string_bytes w))
    → MatchResult r (λ w. HasMessage (string_bytes w) old new)
    (λ e. HasMessage memory_words old new)
    → Refuses P t held result old new
refuses_in P r t u held result old new same left status told said message = record {
  left = left;
  status = status ∙ ap (λ (v : ErrorNumbers). v.status) same;
  told = subst (λ (v : ErrorNumbers). Tells new v) same told;
  message = told_in P r old new said message;
}
