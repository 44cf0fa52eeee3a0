use Rattle.std.specs.Prelude.{All}
use Rattle.rowfn_options.specs.Fields.{MayBeNull}
use Rattle.rowfn_options.proofs.fields.nulls_option.Given as goal

-- the texts so far may be null
abbrev pub invariant-loop-text : goal.invariant-loop-text
invariant-loop-text l =
    let b = l.bytes in
    All (λ n. MayBeNull b.delimiter b.output_delimiter b.comment n.now) l.others.items
