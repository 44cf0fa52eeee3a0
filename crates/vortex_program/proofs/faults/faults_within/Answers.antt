use Rattle.std.proofs.Common.{List, ◌+◌, add-one, subst, sym}
use Rattle.std.proofs.lemmas.List.{take_all}
use Rattle.std.specs.Cow.{cow_value}
use Rattle.vortex_errors.specs.declared.error.VortexError.{VortexError}
use Rattle.vortex_errors.specs.Answers.{UnlessMemory}
use Rattle.vortex_columns.specs.ColumnView.{ColumnView}
use Rattle.vortex_interface.specs.Eval.{IsFirstFault}
use Rattle.vortex_standard.specs.Standard.{standard_meaning}
use Rattle.vortex_program.specs.declared.answer.Answer as bound
use Rattle.vortex_program.specs.Executing.{AllGiveWithin}
use Rattle.vortex_program.specs.Programs.{trees_of}
use Rattle.vortex_program.specs.Rows.{HaveRows, IsMarked}
use Rattle.vortex_program.proofs.Answered.{unless_not}
use Rattle.vortex_program.proofs.Faulty.{bound_at, fit_at, within_more, faults_within_at}
use Rattle.vortex_program.proofs.SomeRows.{rows_within, have_read, have_at, leaves_fit_there}
use Rattle.vortex_program.proofs.SomeRows.{gives_within, some_faults}
use Rattle.vortex_program.proofs.faults.faults_within.Goals as goal

pub rows_of-requires-clause-read : goal.rows_of-requires-clause-read
rows_of-requires-clause-read c = c.requires.read.counted

pub rows_of-requires-clause-within : goal.rows_of-requires-clause-within
rows_of-requires-clause-within c =
    rows_within c.args.columns.now c.args.row_count _ c.requires.within c.requires.even

pub execute_fitting-requires : goal.execute_fitting-requires
execute_fitting-requires c =
    let cs = c.args.columns.now in
    let ds = c.deref.result.now in
    let first = c.args.first in
    let count = c.args.count in
    let answers = c.args.answers.now in
    let k = c.loop-answer.answer-index in
    let answer = c.answer-item.result in
    let have =
    have_read (trees_of answers) c.args.read.now first count cs ds c.requires.read
    (subst (λ (xs : List ColumnView). HaveRows (IsMarked c.args.read.now cs) first count cs xs)
    (sym c.deref.ensures.value) c.in_ok-taken.ensures) in
    let here =
    have_at answers k answer first count cs ds c.loop-answer-test.true c.answer-item.is have in
    let fits =
    fit_at cs c.args.row_count answers k answer c.loop-answer-test.true c.answer-item.is
    c.requires.fit in
    (leaves_fit_there first count cs ds answer.tree here fits.0, have.even)

pub loop-answer-preserved : goal.loop-answer-preserved
loop-answer-preserved c =
    let cs = c.args.columns.now in
    let ds = c.deref.result.now in
    let first = c.args.first in
    let count = c.args.count in
    let answers = c.args.answers.now in
    let k = c.loop-answer.answer-index in
    let answer = c.answer-item.result in
    let have =
    have_read (trees_of answers) c.args.read.now first count cs ds c.requires.read
    (subst (λ (xs : List ColumnView). HaveRows (IsMarked c.args.read.now cs) first count cs xs)
    (sym c.deref.ensures.value) c.in_ok-taken.ensures) in
    let here =
    have_at answers k answer first count cs ds c.loop-answer-test.true c.answer-item.is have in
    let bound =
    bound_at answers k answer c.loop-answer-test.true c.answer-item.is c.requires.bound in
    within_more cs first count answers k _ answer (add-one k) c.loop-answer-test.true
    c.answer-item.is c.loop-answer.invariant
    (gives_within standard_meaning cs ds first answer.tree bound count here (cow_value c.in-Ok.field-0)
    c.in-Ok.ensures.answer)

pub returns-in-Err-clause-some : goal.returns-in-Err-clause-some
returns-in-Err-clause-some c = λ is.
    let cs = c.args.columns.now in
    let ds = c.deref.result.now in
    let first = c.args.first in
    let count = c.args.count in
    let answers = c.args.answers.now in
    let k = c.loop-answer.answer-index in
    let answer = c.answer-item.result in
    let e = c.in_ok-but_for_memory-in-Err.field-0 in
    let same = c.in_ok-but_for_memory-in-Err.ensures in
    let have =
    have_read (trees_of answers) c.args.read.now first count cs ds c.requires.read
    (subst (λ (xs : List ColumnView). HaveRows (IsMarked c.args.read.now cs) first count cs xs)
    (sym c.deref.ensures.value) c.in_ok-taken.ensures) in
    let here =
    have_at answers k answer first count cs ds c.loop-answer-test.true c.answer-item.is have in
    let bound =
    bound_at answers k answer c.loop-answer-test.true c.answer-item.is c.requires.bound in
    let faulty =
    subst
    (λ (d : VortexError). UnlessMemory (IsFirstFault standard_meaning ds count answer.tree) d)
    (sym same.0) c.in-Err.ensures.answer in
    faults_within_at cs first count answers k answer c.loop-answer-test.true c.answer-item.is
    (some_faults standard_meaning cs ds first answer.tree bound count here e
    (unless_not (IsFirstFault standard_meaning ds count answer.tree) e same.1 faulty))

pub returns-clause-none : goal.returns-clause-none
returns-clause-none c = λ _.
    let cs = c.args.columns.now in
    let first = c.args.first in
    let count = c.args.count in
    let answers = c.args.answers.now in
    subst
    (λ (xs : List bound.Answer).
    AllGiveWithin standard_meaning cs first (first + count) (trees_of xs))
    (take_all c.loop-answer.answer-index answers c.loop-answer-test.false)
    c.loop-answer.invariant
