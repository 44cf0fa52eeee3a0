use Rattle.std.proofs.Common.{ap}
use Rattle.vortex_errors.specs.declared.error.VortexError.TheVariants.{Custom}
use Rattle.vortex_sql_patterns.proofs.SameMatches.{groups_of_regex, pattern_of_regex, no_pattern}
use Rattle.vortex_sql_patterns.proofs.compiled.compile.Goals as goal

pub returns-in-Ok-clause-value : goal.returns-in-Ok-clause-value
returns-in-Ok-clause-value c =
    let made = c.in-Ok.ensures in
    pattern_of_regex c.in-Ok.regex c.args.pattern.now made.source made.config made.read

pub returns-in-Ok-clause-groups : goal.returns-in-Ok-clause-groups
returns-in-Ok-clause-groups c =
    let made = c.in-Ok.ensures in
    groups_of_regex c.in-Ok.regex c.args.pattern.now made.source made.config made.read

pub returns-in-Err-Syntax-clause-value : goal.returns-in-Err-Syntax-clause-value
returns-in-Err-Syntax-clause-value c = (
  no_pattern c.args.pattern.now c.in-Err-Syntax.field-0 c.in-Err-Syntax.field-0-0
      c.in-Err-Syntax.field-0-is c.in-Err-Syntax.ensures.kind c.in-Err-Syntax.ensures.by_grammar,
  ap Custom c.number.ensures,
)
