use Rattle.std.proofs.Common.{rules, ◌∙◌, sym, inr}
use Rattle.yurkije_columns.specs.Outputs.{IsOfKind}
use Rattle.yurkije_columns.proofs.outputs.copy_answer.Goals as goal

pub returns-in-Ok-clause-copied : goal.returns-in-Ok-clause-copied
returns-in-Ok-clause-copied c =
    let same : IsOfKind c.in-Some.kind c.args.column.now.dtype = search rules in record {
      kind = c.in-Some.kind;
      numbered = sym c.kind_numbered.ensures ∙ c.in-Some.is;
      dtype = same;
      means = search rules;
      stands = c.in-Ok.ensures.copied;
    }

pub returns-in-Err-clause-refused : goal.returns-in-Err-clause-refused
returns-in-Err-clause-refused c =
    let same : IsOfKind c.in-Some.kind c.args.column.now.dtype = search rules in (
      c.in-Some.kind,
      sym c.kind_numbered.ensures ∙ c.in-Some.is,
      inr ((same, search rules), c.in-Err.ensures.refused),
    )
