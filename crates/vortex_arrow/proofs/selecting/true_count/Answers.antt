use Rattle.std.proofs.Common.{◌∙◌, subst, ap, length, arith}
use Rattle.vortex_arrow.specs.declared.true_words.TrueWords.{TrueWords}
use Rattle.vortex_arrow.specs.declared.true_words.TrueWords.TheVariants as form
use Rattle.vortex_arrow.specs.TrueWords.{TellsTrueRows, true_bit}
use Rattle.vortex_arrow.specs.Written.{places}
use Rattle.vortex_arrow.proofs.Selected.{true_places}
use Rattle.vortex_arrow.proofs.selecting.true_count.Goals as goal

pub count_set-requires : goal.count_set-requires
count_set-requires c =
    let rows = c.args.column.now.rows in
    let told =
    subst (λ (w : TrueWords). TellsTrueRows w rows) c.in-Listed.is c.true_words.ensures in
    record { rows = λ i lt. told.there i (omega (arith, lt, c.len-count.ensures)) }

pub returns-in-Listed : goal.returns-in-Listed
returns-in-Listed c =
    let rows = c.args.column.now.rows in
    let told =
    subst (λ (w : TrueWords). TellsTrueRows w rows) c.in-Listed.is c.true_words.ensures in
    let test = true_bit (form.Listed c.in-Listed.rows) in
    let all = ap (places test) c.len-count.ensures ∙ true_places rows test told.each in
    c.count_set.ensures ∙ ap length all

pub count_set-requires-in-Joint : goal.count_set-requires-in-Joint
count_set-requires-in-Joint c =
    let rows = c.args.column.now.rows in
    let told =
    subst (λ (w : TrueWords). TellsTrueRows w rows) c.in-Joint.is c.true_words.ensures in
    record { rows = λ i lt. told.there i (omega (arith, lt, c.len-count.ensures)) }

pub returns-in-Joint : goal.returns-in-Joint
returns-in-Joint c =
    let rows = c.args.column.now.rows in
    let told =
    subst (λ (w : TrueWords). TellsTrueRows w rows) c.in-Joint.is c.true_words.ensures in
    let test = true_bit (form.Joint c.in-Joint.rows) in
    let all = ap (places test) c.len-count.ensures ∙ true_places rows test told.each in
    c.count_set-in-Joint.ensures ∙ ap length all

pub count_set-requires-in-Same : goal.count_set-requires-in-Same
count_set-requires-in-Same c =
    let rows = c.args.column.now.rows in
    let told =
    subst (λ (w : TrueWords). TellsTrueRows w rows) c.in-Same.is c.true_words.ensures in
    record { rows = λ i lt. told.there i (omega (arith, lt, c.len-count.ensures)) }

pub returns-in-Same : goal.returns-in-Same
returns-in-Same c =
    let rows = c.args.column.now.rows in
    let told =
    subst (λ (w : TrueWords). TellsTrueRows w rows) c.in-Same.is c.true_words.ensures in
    let test = true_bit (form.Same c.in-Same.rows) in
    let all = ap (places test) c.len-count.ensures ∙ true_places rows test told.each in
    c.count_set-in-Same.ensures ∙ ap length all
