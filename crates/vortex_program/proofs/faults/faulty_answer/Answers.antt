use Rattle.std.proofs.Common.{rules, List, add-one, subst, sym}
use Rattle.std.specs.Cow.{cow_value}
use Rattle.vortex_columns.specs.ColumnView.{ColumnView}
use Rattle.vortex_errors.specs.Answers.{UnlessMemory}
use Rattle.vortex_errors.specs.declared.error.VortexError.{VortexError}
use Rattle.vortex_interface.specs.Eval.{IsFirstFault}
use Rattle.vortex_standard.specs.Standard.{standard_meaning}
use Rattle.vortex_program.specs.Programs.{trees_of}
use Rattle.vortex_program.specs.Rows.{HaveRows, IsMarked}
use Rattle.vortex_program.proofs.Answered.{unless_not}
use Rattle.vortex_program.proofs.SomeRows.{rows_within, have_read, have_at, gives_one}
use Rattle.vortex_program.proofs.SomeRows.{faults_there, leaves_fit_there}
use Rattle.vortex_program.proofs.Faulty.{fit_at, give_more, faults_there_at}
use Rattle.vortex_program.proofs.faults.faulty_answer.Goals as goal

pub rows_of-requires-clause-within : goal.rows_of-requires-clause-within
rows_of-requires-clause-within c =
    rows_within c.args.columns.now c.args.row_count _ (search rules) c.requires.even

pub rows_of-requires-clause-read : goal.rows_of-requires-clause-read
rows_of-requires-clause-read c = c.requires.read.counted

pub execute_fitting-requires : goal.execute_fitting-requires
execute_fitting-requires c =
    let cs = c.args.columns.now in
    let ds = c.deref.result.now in
    let row = c.args.row in
    let k = c.loop-k.k in
    let answers = c.args.answers.now in
    let answer = c.index-answers-k.result in
    let have =
    have_read (trees_of answers) c.args.read.now row 1 cs ds c.requires.read
    (subst (λ (xs : List ColumnView). HaveRows (IsMarked c.args.read.now cs) row 1 cs xs)
    (sym c.deref.ensures.value) c.in_ok-taken.ensures) in
    let here =
    have_at answers k answer row 1 cs ds c.loop-k-test.true c.index-answers-k.is have in
    let fits =
    fit_at cs c.args.row_count answers k answer c.loop-k-test.true c.index-answers-k.is
    c.requires.fit in
    (leaves_fit_there row 1 cs ds answer.tree here fits.0, have.even)

pub loop-k-preserved : goal.loop-k-preserved
loop-k-preserved c =
    let cs = c.args.columns.now in
    let ds = c.deref.result.now in
    let row = c.args.row in
    let k = c.loop-k.k in
    let answers = c.args.answers.now in
    let answer = c.index-answers-k.result in
    let have =
    have_read (trees_of answers) c.args.read.now row 1 cs ds c.requires.read
    (subst (λ (xs : List ColumnView). HaveRows (IsMarked c.args.read.now cs) row 1 cs xs)
    (sym c.deref.ensures.value) c.in_ok-taken.ensures) in
    let here =
    have_at answers k answer row 1 cs ds c.loop-k-test.true c.index-answers-k.is have in
    give_more cs row answers k _ answer (add-one k) c.loop-k-test.true c.index-answers-k.is
    c.loop-k.invariant
    (gives_one standard_meaning cs ds row answer.tree c.dtype-typed.ensures.typed here
    (cow_value c.in-Ok.field-0) c.in-Ok.ensures.answer)

pub returns-in-Err : goal.returns-in-Err
returns-in-Err c =
    let cs = c.args.columns.now in
    let ds = c.deref.result.now in
    let row = c.args.row in
    let k = c.loop-k.k in
    let answers = c.args.answers.now in
    let answer = c.index-answers-k.result in
    let e = c.in_ok-but_for_memory-in-Err.field-0 in
    let same = c.in_ok-but_for_memory-in-Err.ensures in
    let have =
    have_read (trees_of answers) c.args.read.now row 1 cs ds c.requires.read
    (subst (λ (xs : List ColumnView). HaveRows (IsMarked c.args.read.now cs) row 1 cs xs)
    (sym c.deref.ensures.value) c.in_ok-taken.ensures) in
    let here =
    have_at answers k answer row 1 cs ds c.loop-k-test.true c.index-answers-k.is have in
    let faulty =
    subst (λ (d : VortexError). UnlessMemory (IsFirstFault standard_meaning ds 1 answer.tree) d)
    (sym same.0) c.in-Err.ensures.answer in
    faults_there_at cs row answers k answer e c.loop-k-test.true c.index-answers-k.is
    c.loop-k.invariant
    (faults_there standard_meaning cs ds row answer.tree c.dtype-typed.ensures.typed here e
    (unless_not (IsFirstFault standard_meaning ds 1 answer.tree) e same.1 faulty))
