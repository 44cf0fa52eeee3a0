-- The functions of the list are lawful, by their rows alone.
use Rattle.std.specs.Prelude.{◌≡◌}
use Rattle.std.proofs.Common.{ap, ◌∙◌, arith}
use Rattle.std.specs.Prelude.{get_or}
use Rattle.vortex_standard.specs.declared.standard.Standard.{Standard}
use Rattle.vortex_interface.specs.Meaning.{Lawful}
use Rattle.vortex_interface.specs.Rewrites.{LawfulRules}
use Rattle.vortex_interface.specs.ValidityRules.{default_rules}
use Rattle.vortex_interface.proofs.Validities.{default_rules_lawful}
use Rattle.vortex_rewriting.specs.Identities.{IsOwnIdentity, first_letter}
use Rattle.vortex_sql_rows.specs.Laws as laws
use Rattle.vortex_standard.specs.Standard.{row_of, lawful_of, standard_meaning}

pub standard_lawful : {O : Type 0} → Lawful (standard_meaning {O = O})
standard_lawful = record {
  typed = λ f o ts t vs e h. laws.typed (row_of f) (lawful_of f) ts t vs e h;
  alike = λ f o ts us t u vs e g a h k. laws.alike (row_of f) ts us vs a;
  strict_type = λ f o ts t s e a. laws.strict_type (row_of f) (lawful_of f) ts t s e a;
  strict_value = λ f o ts t vs s e h a. laws.strict_value (row_of f) ts vs s a;
  never_faults = λ f o ts t vs s e h. laws.never_faults (row_of f) (lawful_of f) ts t vs e h s;
}

pub standard_rules_lawful : {O : Type 0}
    → LawfulRules (standard_meaning {O = O}) (default_rules standard_meaning)
standard_rules_lawful = default_rules_lawful standard_meaning standard_lawful

pub standard_identity : (f : Standard) → IsOwnIdentity (row_of f).id
standard_identity f s e =
    let same : get_or (row_of f).id 0 0 ≡ 118 = ap (λ id. get_or id 0 0) e ∙ first_letter s in
    absurd (omega (arith, same, (lawful_of f).named))
