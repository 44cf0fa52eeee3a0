use Rattle.std.proofs.Common.{◌≡◌, rules}
use Rattle.vortex_types.specs.TypeOf.{allows_null}
use Rattle.vortex_columns.specs.ValidRows.{either_nullable}
use Rattle.vortex_like.proofs.RowLemmas.{constant_like}
use Rattle.vortex_like.proofs.execute.like_of_constants.Goals as goal

pub returns : goal.returns
returns c =
    let l = c.args.input.now in
    let r = c.args.pattern.now in
    let n = allows_null c.bitor-nullability.result in
    let nullable : n ≡ either_nullable l r = search rules in
    constant_like c.args.options l r c.args.chars.0.now c.args.chars.1.now c.in_ok-found.found n
    c.bool.result c.len.result c.constant.result c.requires.lengths c.requires.input
    c.requires.pattern c.in_ok-found.ensures nullable c.bool.ensures c.len.ensures
    c.constant.ensures
