use Rattle.std.proofs.Common.{rules}
use Rattle.std.specs.Prelude.{string_bytes}
use Rattle.std.specs.Char.{IsScalar}
use Rattle.std.specs.Str.{chars}
use Rattle.std.proofs.lemmas.Str.{chars-nil, IsUtf8-string_bytes}
use Rattle.vortex_like.specs.Tokens.{tokens_of}
use Rattle.vortex_like.proofs.Reading.{chars_pushed, read_more}
use Rattle.vortex_like.proofs.variant.without_escapes.Goals as goal

pub loop-symbol-init : goal.loop-symbol-init
loop-symbol-init c = (c.utf8.pattern, rw (c.new-text.ensures.bytes, chars-nil))

pub loop-symbol-preserved : goal.loop-symbol-preserved
loop-symbol-preserved c =
    let s : IsScalar c.in-Some-literal.c = search rules in
    let front = string_bytes c.loop-symbol.text in
    let pushed = string_bytes c.push.new.self in (
      search rules,
      read_more (tokens_of c.args.escape (chars c.args.pattern.now)) (chars front) (chars pushed)
          c.in-Some-literal.c (tokens_of c.args.escape (chars c.loop-symbol.rest.now))
          (tokens_of c.args.escape (chars c.in-Some.behind.now)) c.loop-symbol.invariant.1
          (rw c.in-Some-literal.ensures at c.in-Some.ensures.token)
          (chars_pushed front pushed c.in-Some-literal.c (IsUtf8-string_bytes c.loop-symbol.text) s
          c.in_ok-push.ensures.bytes),
    )
