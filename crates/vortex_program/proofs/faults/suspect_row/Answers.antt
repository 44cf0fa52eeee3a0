use Rattle.std.proofs.Common.{◌≡◌, ◌+◌, ℕ, arith, subst}
use Rattle.vortex_standard.specs.Standard.{standard_meaning}
use Rattle.vortex_program.specs.Executing.{AllGiveWithin}
use Rattle.vortex_program.specs.Programs.{trees_of}
use Rattle.vortex_program.proofs.SomeRows.{joined_within, to_end, not_before}
use Rattle.vortex_program.proofs.faults.suspect_row.Goals as goal

pub parts-preserved-then-branch : goal.parts-preserved-then-branch
parts-preserved-then-branch c =
    let end = c.row_between-end.result in (
      c.row_between-end.ensures.after,
      omega (arith, c.row_between-end.ensures.before, c.parts.invariant.1),
      c.parts.invariant.2,
      not_before standard_meaning c.args.columns.now c.parts.from end c.args.row_count
          (trees_of c.args.answers.now)
          (omega (arith, c.row_between-end.ensures.after))
          (c.in_ok-faults_within.ensures.some c.if-branch.true),
    )

pub parts-preserved : goal.parts-preserved
parts-preserved c =
    let cs = c.args.columns.now in
    let ts = trees_of c.args.answers.now in
    let end = c.row_between-end.result in (
      c.row_between-end.ensures.before,
      c.parts.invariant.1,
      joined_within standard_meaning cs c.parts.from end ts c.parts.invariant.2
          (to_end standard_meaning cs c.parts.from end ts
          (omega (arith, c.row_between-end.ensures.after))
          (c.in_ok-faults_within.ensures.none c.if-branch.false)),
      c.parts.invariant.3,
    )

pub returns : goal.returns
returns c =
    let cs = c.args.columns.now in
    let ts = trees_of c.args.answers.now in
    let last : c.parts.from + 1 ≡ c.parts.to =
    omega (arith, c.parts-test.false, c.parts.invariant.0) in
    record {
      below = omega (arith, c.parts.invariant.0, c.parts.invariant.1);
      before = c.parts.invariant.2;
      after = λ all.
          c.parts.invariant.3
          (subst (λ (n : ℕ). AllGiveWithin standard_meaning cs 0 n ts) last all);
    }
