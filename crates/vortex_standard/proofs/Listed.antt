-- A function of the lists is in one of them.
use Rattle.std.specs.Prelude.{◌≡◌, ℕ, List}
use Rattle.std.specs.List.{find}
use Rattle.std.specs.Option.{option_or}
use Rattle.std.proofs.lemmas.List.Folds.{find-append}
use Rattle.vortex_standard.specs.declared.key_functions.TheConstants.{KEY_FUNCTIONS}
use Rattle.vortex_standard.specs.declared.names.TheConstants.{FUNCTIONS}
use Rattle.vortex_standard.specs.Names.{functions, has_name}

pub in_either : (w : List ℕ)
    → find (has_name w) functions
    ≡ option_or (find (has_name w) FUNCTIONS) (find (has_name w) KEY_FUNCTIONS)
in_either w = find-append (has_name w) FUNCTIONS KEY_FUNCTIONS
