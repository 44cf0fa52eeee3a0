use Rattle.std.proofs.Common.{◌≡◌, ℕ, Bool, false, List, sym, subst}
use Rattle.std.specs.Prelude.{IsUtf8, string_bytes}
use Rattle.std.specs.Str.{chars}
use Rattle.std.proofs.lemmas.Str.{IsUtf8-string_bytes}
use Rattle.vortex_like.specs.Fronts.{IsNeeded}
use Rattle.vortex_like.specs.Tokens.{Token, tokens_of}
use Rattle.vortex_like.proofs.Fronts.{front_needed}
use Rattle.vortex_like.proofs.form_test.needed_prefix.Goals as goal

pub returns : goal.returns
returns c =
    let cut = c.cut_at_special-cut in
    let tokens : List Token = tokens_of c.args.escape (chars c.args.pattern.now) in
    let front : List ℕ = string_bytes c.in_ok-from_str.field-0 in
    let same : front ≡ cut.result.front.now = c.in_ok-from_str.ensures.ok in
    let text : IsUtf8 cut.result.front.now =
    subst (λ (bs : List ℕ). IsUtf8 bs) same (IsUtf8-string_bytes c.in_ok-from_str.field-0) in
    subst (λ (b : Bool). IsNeeded b tokens front) (sym c.if-case_insensitive.false)
    (subst (λ (bs : List ℕ). IsNeeded false tokens bs) (sym same)
    (front_needed c.args.escape (chars c.args.pattern.now) cut.result text cut.ensures))
