use Rattle.std.proofs.Common.{◌≡◌, ◌≤◌, ◌∙◌, ℕ, Bool, true, List, length, take, ap, sym, subst}
use Rattle.std.proofs.Common.{arith}
use Rattle.std.specs.Str.{chars, IsAscii}
use Rattle.vortex_like.specs.ByteTests.{folds_alike}
use Rattle.vortex_like.specs.Tokens.{Token, is_match}
use Rattle.vortex_like.proofs.Foldings.{folded_any_front}
use Rattle.vortex_like.proofs.any_prefix.AnyPrefixTestTextTest.passes.Goals as goal

pub returns-then-is_ascii : goal.returns-then-is_ascii
returns-then-is_ascii c =
    let test = c.args.self.now in
    let literal : List ℕ = test.text in
    let bytes : List ℕ = c.args.haystack.now in
    let head : take c.len-len.result bytes ≡ take (length literal) bytes =
    ap (λ (n : ℕ). take n bytes) c.len-len.ensures in
    let fits : length literal ≤ length bytes =
    omega (arith, c.if-haystack-len.true, c.len-len.ensures) in
    let ascii : IsAscii (take (length literal) bytes) =
    subst (λ (bs : List ℕ). IsAscii bs) head c.if-is_ascii.ensures.cases in
    c.equals.ensures
    ∙ ap (folds_alike literal) head
    ∙ folded_any_front literal bytes c.requires fits ascii
    ∙ ap (λ (ts : List Token). is_match true ts (chars bytes)) (sym test.same)
    ∙ ap (λ (f : Bool). is_match f test.tokens.tokens.items (chars bytes)) (sym test.past_case)
