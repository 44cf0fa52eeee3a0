use Rattle.std.proofs.Common.{◌≡◌, ◌∙◌, ◌<◌, ◌≤◌, ℕ, List, length, sym, ap, subst, arith, inr, get_or}
use Rattle.std.specs.Prelude.{All, Some}
use Rattle.std.specs.Cow.{cow_value}
use Rattle.std.proofs.lemmas.List.{length-replicate}
use Rattle.vortex_errors.specs.Answers.{UnlessMemory}
use Rattle.vortex_errors.specs.declared.error.VortexError.{VortexError}
use Rattle.vortex_errors.proofs.Answering.{Answers-weaker, UnlessMemory-weaker}
use Rattle.vortex_types.specs.TypeOf.{type_of}
use Rattle.vortex_columns.specs.ColumnView.{ColumnView}
use Rattle.vortex_columns.specs.Taken.{IsTaken}
use Rattle.vortex_interface.specs.Eval.{HasTreeRows, IsFirstFault, Settled}
use Rattle.vortex_standard.specs.Standard.{standard_meaning}
use Rattle.vortex_standard.specs.StandardLaws.{standard_lawful}
use Rattle.vortex_program.specs.Reads.{Reads}
use Rattle.vortex_program.specs.Rows.{numbered, HaveRowsAt}
use Rattle.vortex_program.proofs.Answered.{answers_refusal}
use Rattle.vortex_program.proofs.Opened.{no_fault, opened_rows, left_there, left_reads, left_bound}
use Rattle.vortex_program.proofs.Opened.{numbers_within, taken_rows, fits_there}
use Rattle.vortex_program.proofs.deciding.execute_coded.Goals as goal

pub numbered_rows-requires-clause-within : goal.numbered_rows-requires-clause-within
numbered_rows-requires-clause-within c =
    let l = c.requires.left in
    subst (λ (ns : List ℕ). All (λ d. All (λ k. k < length d.rows) ns) c.args.columns.now)
    (sym c.deref-2.ensures.value)
    (numbers_within c.args.columns.now c.args.row_count c.args.left.now l.has.count
    c.args.rows.now.numbers.items l.coded.rows c.requires.fit.1)

-- the rows that were taken are those of the columns that the node reads
pub execute_right-requires-clause-fit : goal.execute_right-requires-clause-fit
execute_right-requires-clause-fit c =
    let cs = c.args.columns.now in
    let ds = c.deref-4.result.now in
    let ns = c.args.rows.now.numbers.items in
    let node = c.args.joined.node.now in
    let taken = taken_rows node cs c.deref.result.now c.in_ok-read.read.items ns c.deref-2.result.now
    c.in_ok-taken.taken.items ds c.deref.ensures.value c.deref-2.ensures.value c.deref-4.ensures.value
    c.in_ok-read.ensures c.in_ok-taken.ensures in
    let count : c.len.result ≡ length ns =
    omega (arith, c.len.ensures, c.args.rows.now.numbers.ok.0) in
    fits_there node cs ds (length ns) (numbered ns) c.len.result count taken.0 taken.1
    c.requires.fit.0

pub execute_right-requires-clause-left : goal.execute_right-requires-clause-left
execute_right-requires-clause-left c =
    let m = standard_meaning in
    let cs = c.args.columns.now in
    let n = c.args.row_count in
    let ds = c.deref-4.result.now in
    let ns = c.args.rows.now.numbers.items in
    let node = c.args.joined.node.now in
    let op = c.args.joined.operator in
    let l = c.requires.left in
    let taken = taken_rows node cs c.deref.result.now c.in_ok-read.read.items ns c.deref-2.result.now
    c.in_ok-taken.taken.items ds c.deref.ensures.value c.deref-2.ensures.value c.deref-4.ensures.value
    c.in_ok-read.ensures c.in_ok-taken.ensures in
    let count : c.len.result ≡ length ns =
    omega (arith, c.len.ensures, c.args.rows.now.numbers.ok.0) in
    let there =
    left_there m cs ds n op node l.left l.right l.joins c.args.left.now l.has l.truth l.decides l.values
    (type_of c.dtype-typed.result.now) c.dtype-typed.ensures.dtype c.dtype-typed.ensures.typed ns
    c.args.rows.now.codes.items l.coded taken.0 c.in_ok-take.field-0
    (subst (λ (xs : List ℕ). IsTaken c.args.left.now xs c.in_ok-take.field-0) c.deref-3.ensures.value
    c.in_ok-take.ensures)
    (left_bound op node l.left l.right l.joins c.dtype-typed.ensures.typed)
    (λ p r. taken.0 p (left_reads op node l.left l.right l.joins p r)) in (
      l.left,
      l.right,
      l.joins,
      subst (λ (k : ℕ). HasTreeRows m ds k l.left c.in_ok-take.field-0) (sym count) there,
    )

pub returns-in_err-answered : goal.returns-in_err-answered
returns-in_err-answered c =
    let m = standard_meaning in
    let cs = c.args.columns.now in
    let n = c.args.row_count in
    let ds = c.deref-4.result.now in
    let ns = c.args.rows.now.numbers.items in
    let node = c.args.joined.node.now in
    let op = c.args.joined.operator in
    let l = c.requires.left in
    let taken = taken_rows node cs c.deref.result.now c.in_ok-read.read.items ns c.deref-2.result.now
    c.in_ok-taken.taken.items ds c.deref.ensures.value c.deref-2.ensures.value c.deref-4.ensures.value
    c.in_ok-read.ensures c.in_ok-taken.ensures in
    let count : c.len.result ≡ length ns =
    omega (arith, c.len.ensures, c.args.rows.now.numbers.ok.0) in
    answers_refusal (HasTreeRows m cs n node) (IsFirstFault m cs n node)
    c.from_residual-in_err-answered.result c.in_err-answered.field-0.0
    c.from_residual-in_err-answered.ensures.1
    (UnlessMemory-weaker (IsFirstFault m ds c.len.result node) (IsFirstFault m cs n node)
    (λ e f.
    absurd
    (no_fault m cs ds n op node l.left l.right l.joins c.args.left.now l.has l.truth l.decides l.values
    (type_of c.dtype-typed.result.now) c.dtype-typed.ensures.dtype c.dtype-typed.ensures.typed ns
    c.args.rows.now.codes.items l.coded taken.0 e
    (subst (λ (k : ℕ). IsFirstFault m ds k node e) count f)))
    c.in_err-answered.field-0.0 c.in_err-answered.ensures)

pub returns : goal.returns
returns c =
    let m = standard_meaning in
    let cs = c.args.columns.now in
    let n = c.args.row_count in
    let ds = c.deref-4.result.now in
    let ns = c.args.rows.now.numbers.items in
    let node = c.args.joined.node.now in
    let op = c.args.joined.operator in
    let l = c.requires.left in
    let taken = taken_rows node cs c.deref.result.now c.in_ok-read.read.items ns c.deref-2.result.now
    c.in_ok-taken.taken.items ds c.deref.ensures.value c.deref-2.ensures.value c.deref-4.ensures.value
    c.in_ok-read.ensures c.in_ok-taken.ensures in
    let count : c.len.result ≡ length ns =
    omega (arith, c.len.ensures, c.args.rows.now.numbers.ok.0) in
    let answered = c.in_ok-answered.answered in
    let there =
    subst (λ (k : ℕ). HasTreeRows m ds k node answered) count c.in_ok-answered.ensures in
    Answers-weaker c.take-2.result (IsTaken answered c.deref-5.result.now) (HasTreeRows m cs n node)
    (λ e. ⊥) (IsFirstFault m cs n node)
    (λ d is.
    opened_rows m cs ds n op node l.left l.right l.joins c.args.left.now l.has l.truth l.decides l.values
    (type_of c.dtype-typed.result.now) c.dtype-typed.ensures.dtype c.dtype-typed.ensures.typed ns
    c.args.rows.now.codes.items l.coded taken.0 answered d there
    (subst (λ (xs : List ℕ). IsTaken answered xs d) c.deref-5.ensures.value is))
    (λ e p. absurd p) c.take-2.ensures
