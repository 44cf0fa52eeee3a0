use Rattle.std.proofs.Common.{◌≡◌, ◌≢◌, sym, subst, arith, rules, List, ℕ, length}
use Rattle.std.specs.Prelude.{IsUtf8}
use Rattle.std.specs.Str.{chars}
use Rattle.vortex_like.specs.Tokens.{tokens_of}
use Rattle.vortex_like.specs.Variants.{AreLiteralThenWildcard}
use Rattle.vortex_like.proofs.Shapes.{whole_literal, escape_met, literal_then_wildcard, empty_text}
use Rattle.vortex_like.proofs.Shapes.{no_empty_text}
use Rattle.vortex_like.proofs.variant.variant_of.Goals as goal

pub owned_variant-requires : goal.owned_variant-requires
owned_variant-requires c =
    let cut = c.cut_at_special-cut in
    escape_met c.args.escape (chars c.args.pattern.now) (chars cut.result.front.now)
    (chars cut.result.rest.now)
    (chars c.in-Some.field-0-1.now) c.in-Some.c cut.ensures.split c.in-Some.ensures.characters
    cut.ensures.plain (sym c.if-is_escape.ensures)

pub returns-then-is_empty : goal.returns-then-is_empty
returns-then-is_empty c =
    let cut = c.cut_at_special-cut in
    let none : length cut.result.front.now ≡ 0 = grind (arith, c.if-is_empty.ensures) in
    let shape =
    literal_then_wildcard c.args.escape (chars c.args.pattern.now) (chars cut.result.front.now)
    (chars cut.result.rest.now) (chars c.in-Some.field-0-1.now) c.in-Some.c cut.ensures.split
    c.in-Some.ensures.characters cut.ensures.plain cut.ensures.special
    (sym c.if-is_escape.ensures) in
    subst
    (λ (cs : List ℕ). AreLiteralThenWildcard (tokens_of c.args.escape (chars c.args.pattern.now))
    cs)
    (empty_text cut.result.front.now none) shape.0

pub returns-in-None : goal.returns-in-None
returns-in-None c =
    let cut = c.cut_at_special-cut in
    whole_literal c.args.escape (chars c.args.pattern.now) (chars cut.result.front.now)
    (chars cut.result.rest.now) cut.ensures.split c.in-None.ensures.characters cut.ensures.plain

pub returns-else-is_empty : goal.returns-else-is_empty
returns-else-is_empty c =
    let cut = c.cut_at_special-cut in
    let some : length cut.result.front.now ≢ 0 = grind (arith, c.if-is_empty.ensures) in
    let text : IsUtf8 cut.result.front.now = search rules in
    let shape =
    literal_then_wildcard c.args.escape (chars c.args.pattern.now) (chars cut.result.front.now)
    (chars cut.result.rest.now) (chars c.in-Some.field-0-1.now) c.in-Some.c cut.ensures.split
    c.in-Some.ensures.characters cut.ensures.plain cut.ensures.special
    (sym c.if-is_escape.ensures) in
    (shape.0, λ e. some (no_empty_text cut.result.front.now text e), shape.1)
