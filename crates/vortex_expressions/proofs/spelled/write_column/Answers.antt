use Rattle.vortex_expressions.proofs.Answered.{column_pushed}
use Rattle.vortex_expressions.proofs.spelled.write_column.Goals as goal

pub returns-in-Some-name_in : goal.returns-in-Some-name_in
returns-in-Some-name_in c =
    column_pushed c.args.tree.now c.in-Some._place c.in_ok-text.text c.as_str.result.now
    c.in-Some-name_in.name.now c.args.writer.now c.push_name.new.self c.in-Some.ensures
    c.in_ok-text.ensures
    c.as_str.ensures.value c.in-Some-name_in.ensures c.in_ok-push_name-in-Some-name_in.ensures
