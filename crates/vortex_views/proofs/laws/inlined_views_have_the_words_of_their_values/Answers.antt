use Rattle.vortex_views.proofs.Layouts.{short_value}
use Rattle.vortex_views.proofs.laws.inlined_views_have_the_words_of_their_values.Goals as goal

pub returns-clause-value : goal.returns-clause-value
returns-clause-value c = short_value c.args.value.now c.requires
