use Rattle.std.proofs.Common.{rules, ◌≡◌}
use Rattle.std.specs.Str.{chars}
use Rattle.std.proofs.lemmas.Str.{chars_from_encodes}
use Rattle.vortex_sql_texts.proofs.repeats.reversed.Goals as goal

pub loop-letter-init : goal.loop-letter-init
loop-letter-init c =
    let same : c.in_ok-letters.letters.items ≡ chars c.args.text.now =
    search (rules, chars_from_encodes) in
    rw same (rw c.new-made.ensures.bytes)
