use Rattle.std.proofs.Common.{◌∙◌, string_bytes}
use Rattle.std.specs.Str.{bytes_eq}
use Rattle.rowfn_queries.proofs.Gathering.{any_map}
use Rattle.rowfn_queries.proofs.scopes.is_in_names.Goals as goal

pub returns : goal.returns
returns c =
    c.has_name.ensures ∙ any_map (λ n. bytes_eq n c.args.name.now) string_bytes c.args.names.now
