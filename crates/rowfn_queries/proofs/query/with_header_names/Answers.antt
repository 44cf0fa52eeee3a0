use Rattle.std.proofs.Common.{◌∙◌, inr, refl}
use Rattle.rowfn_queries.proofs.query.with_header_names.Goals as goal

pub returns-in-Err-bind : goal.returns-in-Err-bind
returns-in-Err-bind c =
    λ r. inr (record {
      wide = _;
      same_words = refl;
      same_sample = refl;
      columns = c.scope.ensures ∙ c.in-Ok.ensures;
      refused = c.in-Err-bind.ensures r;
    })
