use Rattle.std.proofs.Common.{◌++◌, Some, None, string_bytes, ap, ◌∙◌}
use Rattle.std.proofs.lemmas.Str.Pattern.{split_parts}
use Rattle.vortex_syntax.specs.Writing.{doubled}
use Rattle.vortex_syntax.proofs.Doubled.{doubled_more, doubled_last, shorter_behind, utf8_behind}
use Rattle.vortex_syntax.proofs.Doubled.{pushed}
use Rattle.vortex_syntax.proofs.writing.push_doubled.Goals as goal

pub loop-before-smaller : goal.loop-before-smaller
loop-before-smaller c =
    let parts = split_parts c.args.quote c.loop-before.rest.now
    (Some (c.in-Some.before, c.in-Some.behind)) c.in-Some.ensures.cases c.requires in
    shorter_behind c.args.quote c.loop-before.rest.now c.in-Some.before.now c.in-Some.behind.now
    parts.0

pub loop-before-preserved : goal.loop-before-preserved
loop-before-preserved c =
    let q = c.args.quote in
    let rest = c.loop-before.rest.now in
    let before = c.in-Some.before.now in
    let behind = c.in-Some.behind.now in
    let out = string_bytes c.loop-before.out in
    let parts = split_parts q rest
    (Some (c.in-Some.before, c.in-Some.behind)) c.in-Some.ensures.cases c.requires in
    let text = pushed q out before _ _
    (string_bytes c.push-in-Some.new.self) c.requires c.in_ok-push_str.ensures.bytes
    c.in_ok-push.ensures.bytes c.in_ok-push-2.ensures.bytes in (
      utf8_behind q rest before behind c.requires c.loop-before.invariant.0 parts.0,
      ap (λ bs. bs ++ doubled q behind) text
          ∙ doubled_more q
          (string_bytes c.args.out.now ++ doubled q c.args.text.now) out rest before behind
          parts.0 parts.1 c.loop-before.invariant.1,
    )

pub returns : goal.returns
returns c =
    let parts = split_parts c.args.quote c.loop-before.rest.now None c.in_default.ensures.cases
    c.requires in
    c.in_ok-push_str-2.ensures.bytes
    ∙ doubled_last c.args.quote
    (string_bytes c.args.out.now ++ doubled c.args.quote c.args.text.now)
    (string_bytes c.loop-before.out) c.loop-before.rest.now parts c.loop-before.invariant.1
