use Rattle.std.proofs.Common.{◌∙◌, subst, ap, length, map, pos, arith}
use Rattle.vortex_arrow.specs.declared.true_words.TrueWords.{TrueWords}
use Rattle.vortex_arrow.specs.declared.true_words.TrueWords.TheVariants as form
use Rattle.vortex_arrow.specs.TrueWords.{TellsTrueRows, true_bit}
use Rattle.vortex_arrow.specs.Written.{places}
use Rattle.vortex_arrow.proofs.Selected.{true_places}
use Rattle.vortex_arrow.proofs.selecting.write_true_rows.Goals as goal

pub write_set-requires : goal.write_set-requires
write_set-requires g c =
    let rows = c.args.column.now.rows in
    let told =
    subst (λ (w : TrueWords). TellsTrueRows w rows) c.in-Listed.is c.true_words.ensures in
    let test = true_bit (form.Listed c.in-Listed.rows) in
    let all = ap (places test) c.len-count.ensures ∙ true_places rows test told.each in
    record {
      rows = λ i lt. told.there i (omega (arith, lt, c.len-count.ensures));
      room = omega (arith, ap length all, c.requires.room);
      most = omega (arith, c.len-count.ensures, c.requires.most);
    }

pub returns-in-Listed : goal.returns-in-Listed
returns-in-Listed g c =
    let rows = c.args.column.now.rows in
    let told =
    subst (λ (w : TrueWords). TellsTrueRows w rows) c.in-Listed.is c.true_words.ensures in
    let test = true_bit (form.Listed c.in-Listed.rows) in
    let all = ap (places test) c.len-count.ensures ∙ true_places rows test told.each in
    record {
      count = c.write_set.ensures.end ∙ ap length all;
      numbers = c.write_set.ensures.numbers ∙ ap (map pos) all;
      behind = c.write_set.ensures.behind;
    }

pub write_set-requires-in-Joint : goal.write_set-requires-in-Joint
write_set-requires-in-Joint g c =
    let rows = c.args.column.now.rows in
    let told =
    subst (λ (w : TrueWords). TellsTrueRows w rows) c.in-Joint.is c.true_words.ensures in
    let test = true_bit (form.Joint c.in-Joint.rows) in
    let all = ap (places test) c.len-count.ensures ∙ true_places rows test told.each in
    record {
      rows = λ i lt. told.there i (omega (arith, lt, c.len-count.ensures));
      room = omega (arith, ap length all, c.requires.room);
      most = omega (arith, c.len-count.ensures, c.requires.most);
    }

pub returns-in-Joint : goal.returns-in-Joint
returns-in-Joint g c =
    let rows = c.args.column.now.rows in
    let told =
    subst (λ (w : TrueWords). TellsTrueRows w rows) c.in-Joint.is c.true_words.ensures in
    let test = true_bit (form.Joint c.in-Joint.rows) in
    let all = ap (places test) c.len-count.ensures ∙ true_places rows test told.each in
    record {
      count = c.write_set-in-Joint.ensures.end ∙ ap length all;
      numbers = c.write_set-in-Joint.ensures.numbers ∙ ap (map pos) all;
      behind = c.write_set-in-Joint.ensures.behind;
    }

pub write_set-requires-in-Same : goal.write_set-requires-in-Same
write_set-requires-in-Same g c =
    let rows = c.args.column.now.rows in
    let told =
    subst (λ (w : TrueWords). TellsTrueRows w rows) c.in-Same.is c.true_words.ensures in
    let test = true_bit (form.Same c.in-Same.rows) in
    let all = ap (places test) c.len-count.ensures ∙ true_places rows test told.each in
    record {
      rows = λ i lt. told.there i (omega (arith, lt, c.len-count.ensures));
      room = omega (arith, ap length all, c.requires.room);
      most = omega (arith, c.len-count.ensures, c.requires.most);
    }

pub returns-in-Same : goal.returns-in-Same
returns-in-Same g c =
    let rows = c.args.column.now.rows in
    let told =
    subst (λ (w : TrueWords). TellsTrueRows w rows) c.in-Same.is c.true_words.ensures in
    let test = true_bit (form.Same c.in-Same.rows) in
    let all = ap (places test) c.len-count.ensures ∙ true_places rows test told.each in
    record {
      count = c.write_set-in-Same.ensures.end ∙ ap length all;
      numbers = c.write_set-in-Same.ensures.numbers ∙ ap (map pos) all;
      behind = c.write_set-in-Same.ensures.behind;
    }
