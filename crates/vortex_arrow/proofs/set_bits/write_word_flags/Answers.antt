use Rattle.std.proofs.Common.{◌≡◌, ◌+◌, ◌<◌, ◌∙◌, pos, length, drop, set, refl, sym, ap, nat_eq}
use Rattle.std.proofs.Common.{arith}
use Rattle.std.proofs.lemmas.List.{take-set-le}
use Rattle.std.proofs.lemmas.Nat.Bits.{shr_and_one}
use Rattle.vortex_bits.specs.Bits.{bit}
use Rattle.vortex_arrow.specs.Written.{flag}
use Rattle.vortex_arrow.proofs.Cells.{behind_next}
use Rattle.vortex_arrow.proofs.Flags.{flag_is, one_more_flag}
use Rattle.vortex_arrow.proofs.set_bits.write_word_flags.Goals as goal

pub loop-j-init : goal.loop-j-init
loop-j-init c = record {
  before = refl;
  here = λ i lt. absurd (omega (arith, lt));
  behind = refl;
}

pub loop-j-preserved : goal.loop-j-preserved
loop-j-preserved c =
    let out = c.loop-j.out in
    let at = c.args.at in
    let j = c.loop-j.j in
    let y = c.from.result in
    let within : at + j < length out = omega (arith, c.requires.room, c.loop-j.auto.out) in
    let next : at + (j + 1) ≡ at + j + 1 = omega arith in
    record {
      before = take-set-le at out (at + j) y (omega arith) ∙ c.loop-j.invariant.before;
      here = one_more_flag (bit c.args.word) out at j y within c.loop-j.invariant.here
          (c.from.ensures ∙ flag_is _ ∙ ap (λ n. flag (nat_eq n 1)) (shr_and_one c.args.word j));
      behind = ap (λ n. drop n (set out (at + j) y)) next
          ∙ behind_next pos out (at + j) y within c.args.out.now c.loop-j.invariant.behind
          ∙ ap (λ n. drop n c.args.out.now) (sym next);
    }

pub returns : goal.returns
returns c =
    let through : c.loop-j.j ≡ c.args.count = omega arith in
    record {
      before = c.loop-j.invariant.before;
      here = λ j lt. c.loop-j.invariant.here j (omega (arith, through, lt));
      behind = ap (λ n. drop (c.args.at + n) c.loop-j.out) (sym through)
          ∙ c.loop-j.invariant.behind
          ∙ ap (λ n. drop (c.args.at + n) c.args.out.now) through;
    }
