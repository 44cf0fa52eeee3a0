-- A caller's Not has the default validity and no rules.
use Rattle.std.specs.Prelude.{◌≡◌, codes, get_or}
use Rattle.std.proofs.Common.{ap, ◌∙◌, arith}
use Rattle.vortex_interface.specs.Shipped.{Not, shipped_meaning, shipped_lawful}
use Rattle.vortex_interface.specs.Meaning.{Meaning}
use Rattle.vortex_interface.specs.Rewrites.{LawfulRules}
use Rattle.vortex_interface.specs.ValidityRules.{default_rules}
use Rattle.vortex_interface.proofs.Validities.{default_rules_lawful}
use Rattle.vortex_rewriting.specs.Identities.{IsOwnIdentity, first_letter}

abbrev pub levelled_meaning : {V O : Type 0} → Meaning V O
levelled_meaning = shipped_meaning (codes "test.levelled") (λ o. Not)

pub levelled_rules_lawful : {V O : Type 0}
    → LawfulRules (levelled_meaning {V = V} {O = O}) (default_rules levelled_meaning)
levelled_rules_lawful =
    default_rules_lawful levelled_meaning (shipped_lawful (codes "test.levelled") (λ o. Not))

pub levelled_identity : {V : Type 0} → V → IsOwnIdentity (codes "test.levelled")
levelled_identity f s e =
    let same : 116 ≡ 118 = ap (λ id. get_or id 0 0) e ∙ first_letter s in
    absurd (omega (arith, same))
