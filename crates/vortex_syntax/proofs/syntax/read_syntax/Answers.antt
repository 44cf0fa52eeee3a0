use Rattle.std.proofs.Common.{◌≡◌, map, sym}
use Rattle.vortex_syntax.specs.Tokens.{token_in}
use Rattle.vortex_syntax.specs.Lexing.{Lexes}
use Rattle.vortex_syntax.specs.Syntax.{Syntax}
use Rattle.vortex_syntax.specs.Postfix.{step_in, postfix}
use Rattle.vortex_syntax.specs.Grammar.{Reads}
use Rattle.vortex_syntax.specs.Reading.{steps_of}
use Rattle.vortex_syntax.proofs.Whole.{found_in, found_of, steps_read, only_of, is_paired}
use Rattle.vortex_syntax.proofs.syntax.read_syntax.Goals as goal

pub returns-clause-found : goal.returns-clause-found
returns-clause-found c =
    let ts = map token_in c.as_slice-tokens.result.now in
    let lexed : Lexes c.args.text.now ts =
    rw c.as_slice-tokens.ensures.value c.in_ok-read.ensures.found in
    found_of (λ v. map step_in v.steps.items) (steps_of ts)
    (λ xs. (t : Syntax) × Reads c.args.text.now t × (xs ≡ postfix t))
    (λ xs e. found_in c.args.text.now ts xs lexed (sym c.in_default.ensures.nests) e) c.read_steps.result
    c.read_steps.ensures.read

pub returns-clause-only : goal.returns-clause-only
returns-clause-only c = λ t r.
    let ts = map token_in c.as_slice-tokens.result.now in
    let lexed : Lexes c.args.text.now ts =
    rw c.as_slice-tokens.ensures.value c.in_ok-read.ensures.found in
    only_of (λ v. map step_in v.steps.items) (steps_of ts) (postfix t)
    (steps_read c.args.text.now ts t lexed r) c.read_steps.result c.read_steps.ensures.read

pub returns-clause-paired : goal.returns-clause-paired
returns-clause-paired c = is_paired c.read_steps.result
