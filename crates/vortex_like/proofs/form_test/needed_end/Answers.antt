use Rattle.std.proofs.Common.{◌≡◌, ℕ, Bool, false, List, sym, subst}
use Rattle.std.specs.Prelude.{IsUtf8, string_bytes}
use Rattle.std.specs.Str.{chars}
use Rattle.std.proofs.lemmas.Str.{IsUtf8-string_bytes}
use Rattle.vortex_like.specs.Fronts.{IsNeededEnd}
use Rattle.vortex_like.specs.Tokens.{Token, tokens_of}
use Rattle.vortex_like.proofs.Fronts.{end_needed}
use Rattle.vortex_like.proofs.form_test.needed_end.Goals as goal

pub returns : goal.returns
returns c =
    let part : List ℕ = c.last_part-part.result.now in
    let tokens : List Token = tokens_of c.args.escape (chars c.args.pattern.now) in
    let end : List ℕ = string_bytes c.in_ok-from_str.field-0 in
    let same : end ≡ part = c.in_ok-from_str.ensures.ok in
    let text : IsUtf8 part =
    subst (λ (bs : List ℕ). IsUtf8 bs) same (IsUtf8-string_bytes c.in_ok-from_str.field-0) in
    subst (λ (b : Bool). IsNeededEnd b tokens end) (sym c.if-case_insensitive.false)
    (subst (λ (bs : List ℕ). IsNeededEnd false tokens bs) (sym same)
    (end_needed c.args.escape (chars c.args.pattern.now) part text c.last_part-part.ensures))
