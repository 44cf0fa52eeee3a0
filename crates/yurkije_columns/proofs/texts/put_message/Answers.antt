use Rattle.std.proofs.Common.{rules, ◌≡◌, ◌+◌, length, arith}
use Rattle.std.proofs.lemmas.Str.{IsCharBoundary-start}
use Rattle.yurkije_columns.proofs.PutMessages.{no_message, message_put}
use Rattle.yurkije_columns.proofs.texts.put_message.Goals as goal

pub returns-in_default : goal.returns-in_default
returns-in_default c =
    let none : length c.args.message.now ≡ 0 = search rules in
    no_message c.args.text.now c.args.message.now none
    (IsCharBoundary-start c.args.text.now c.utf8.text)

pub returns : goal.returns
returns c =
    let long : length c.args.message.now ≡ c.in-Some.room + 1 = omega (arith, c.in-Some.ensures) in
    let put = c.put_text-count.ensures in
    message_put c.args.text.now c.args.message.now c.put_text-count.new.room c.in-Some.room
    c.put_text-count.result long c.put_text-count.auto.room put.room put.written put.behind
    put.boundary put.most
