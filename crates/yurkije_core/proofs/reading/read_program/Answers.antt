use Rattle.std.proofs.Common.{rules, ◌≡◌, ℕ, List, sym, subst}
use Rattle.vortex_types.specs.TypeOf.{struct_fields}
use Rattle.vortex_expressions.specs.Answers.{ExpressesAll, IsRefusedAll}
use Rattle.yurkije_core.proofs.reading.read_program.Goals as goal

pub returns-in-Ok-read-clause-refused : goal.returns-in-Ok-read-clause-refused
returns-in-Ok-read-clause-refused c = λ r utf8 refused.
    let scope = struct_fields c.args.scope in
    let same : c.in-Ok.text.now ≡ c.args.text.now = search rules in
    c.in-Ok-read.ensures.refused r
    (subst (λ (w : List ℕ). IsRefusedAll scope c.args.kinds.items w r) (sym same) refused)

pub returns-in-Err-read-clause-only : goal.returns-in-Err-read-clause-only
returns-in-Err-read-clause-only c = λ list utf8 said.
    let scope = struct_fields c.args.scope in
    let same : c.in-Ok.text.now ≡ c.args.text.now = search rules in
    c.in-Err-read.ensures.only list
    (subst (λ (w : List ℕ). ExpressesAll scope c.args.kinds.items w list) (sym same) said)

pub returns-in-Err-read-clause-refused : goal.returns-in-Err-read-clause-refused
returns-in-Err-read-clause-refused c = λ r utf8 refused.
    let scope = struct_fields c.args.scope in
    let same : c.in-Ok.text.now ≡ c.args.text.now = search rules in
    c.in-Err-read.ensures.refused r
    (subst (λ (w : List ℕ). IsRefusedAll scope c.args.kinds.items w r) (sym same) refused)
