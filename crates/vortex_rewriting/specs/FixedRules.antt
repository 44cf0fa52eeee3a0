-- The function without arguments that returns false has the default validity and no rules.
use Rattle.std.specs.Prelude.{◌≡◌, codes, get_or}
use Rattle.std.proofs.Common.{ap, ◌∙◌, arith}
use Rattle.vortex_interface.specs.Rewrites.{LawfulRules}
use Rattle.vortex_interface.specs.ValidityRules.{default_rules}
use Rattle.vortex_interface.proofs.Validities.{default_rules_lawful}
use Rattle.vortex_functions.specs.Fixed.{fixed_meaning, fixed_lawful}
use Rattle.vortex_rewriting.specs.Identities.{IsOwnIdentity, first_letter}

pub fixed_rules_lawful : {V O : Type 0}
    → LawfulRules (fixed_meaning {V = V} {O = O}) (default_rules fixed_meaning)
fixed_rules_lawful = default_rules_lawful fixed_meaning fixed_lawful

pub fixed_identity : {V : Type 0} → V → IsOwnIdentity (codes "rowfn.none")
fixed_identity f s e =
    let same : 114 ≡ 118 = ap (λ id. get_or id 0 0) e ∙ first_letter s in
    absurd (omega (arith, same))
