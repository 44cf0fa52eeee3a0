use Rattle.std.proofs.Common.{rules, ◌∙◌, sym, subst, ap, drop, arith}
use Rattle.vortex_arrow.specs.declared.true_words.TrueWords.{TrueWords}
use Rattle.vortex_arrow.specs.declared.true_words.TrueWords.TheVariants as form
use Rattle.vortex_arrow.specs.TrueWords.{TellsTrueRows, true_bit}
use Rattle.vortex_arrow.proofs.Selected.{masked}
use Rattle.vortex_arrow.proofs.selecting.write_mask.Goals as goal

pub write_flags-requires : goal.write_flags-requires
write_flags-requires c =
    let rows = c.args.column.now.rows in
    let told =
    subst (λ (w : TrueWords). TellsTrueRows w rows) c.in-Listed.is c.true_words.ensures in
    record {
      rows = λ i lt. told.there i (omega (arith, lt, c.len-count.ensures));
      room = omega (arith, c.len-count.ensures, c.requires);
    }

pub returns-in-Listed : goal.returns-in-Listed
returns-in-Listed c =
    let rows = c.args.column.now.rows in
    let told =
    subst (λ (w : TrueWords). TellsTrueRows w rows) c.in-Listed.is c.true_words.ensures in
    let new = c.write_flags.new.out in
    record {
      written = masked rows (true_bit (form.Listed c.in-Listed.rows)) new (search rules) told.each
          (λ i lt. c.write_flags.ensures.flags i (omega (arith, lt, c.len-count.ensures)));
      behind = ap (λ n. drop n new) (sym c.len-count.ensures)
          ∙ c.write_flags.ensures.behind
          ∙ ap (λ n. drop n c.args.mask.now) c.len-count.ensures;
    }

pub write_flags-requires-in-Joint : goal.write_flags-requires-in-Joint
write_flags-requires-in-Joint c =
    let rows = c.args.column.now.rows in
    let told =
    subst (λ (w : TrueWords). TellsTrueRows w rows) c.in-Joint.is c.true_words.ensures in
    record {
      rows = λ i lt. told.there i (omega (arith, lt, c.len-count.ensures));
      room = omega (arith, c.len-count.ensures, c.requires);
    }

pub returns-in-Joint : goal.returns-in-Joint
returns-in-Joint c =
    let rows = c.args.column.now.rows in
    let told =
    subst (λ (w : TrueWords). TellsTrueRows w rows) c.in-Joint.is c.true_words.ensures in
    let new = c.write_flags-in-Joint.new.out in
    record {
      written = masked rows (true_bit (form.Joint c.in-Joint.rows)) new (search rules) told.each
          (λ i lt. c.write_flags-in-Joint.ensures.flags i (omega (arith, lt, c.len-count.ensures)));
      behind = ap (λ n. drop n new) (sym c.len-count.ensures)
          ∙ c.write_flags-in-Joint.ensures.behind
          ∙ ap (λ n. drop n c.args.mask.now) c.len-count.ensures;
    }

pub write_flags-requires-in-Same : goal.write_flags-requires-in-Same
write_flags-requires-in-Same c =
    let rows = c.args.column.now.rows in
    let told =
    subst (λ (w : TrueWords). TellsTrueRows w rows) c.in-Same.is c.true_words.ensures in
    record {
      rows = λ i lt. told.there i (omega (arith, lt, c.len-count.ensures));
      room = omega (arith, c.len-count.ensures, c.requires);
    }

pub returns-in-Same : goal.returns-in-Same
returns-in-Same c =
    let rows = c.args.column.now.rows in
    let told =
    subst (λ (w : TrueWords). TellsTrueRows w rows) c.in-Same.is c.true_words.ensures in
    let new = c.write_flags-in-Same.new.out in
    record {
      written = masked rows (true_bit (form.Same c.in-Same.rows)) new (search rules) told.each
          (λ i lt. c.write_flags-in-Same.ensures.flags i (omega (arith, lt, c.len-count.ensures)));
      behind = ap (λ n. drop n new) (sym c.len-count.ensures)
          ∙ c.write_flags-in-Same.ensures.behind
          ∙ ap (λ n. drop n c.args.mask.now) c.len-count.ensures;
    }
