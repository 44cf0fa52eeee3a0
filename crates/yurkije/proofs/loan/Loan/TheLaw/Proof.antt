-- A `&` to a loan borrows its share of the token, and so reaches what is lent. Assumes `Logic`.
use denote.Param.Shared.{copy_shared}
use denote.Struct.Field.{RawPtr-field}
use denote.Struct.Laws.{RawPtr-copy}
use denote.Struct.Lending.{of_Lends, lent_at, lent_at_shr_laws}
use Rattle.yurkije.specs.contracts.held.Held.{the_row}
use Rattle.yurkije.proofs.held.Held.TheLaws as held_laws
use Rattle.yurkije.specs.contracts.loan.Loan as C
use Rattle.yurkije.proofs.loan.Loan.TheLaw.Statement.{statement}
use Rattle.yurkije.proofs.Loans.{Lends-loan}

pub shares : statement
shares =
    of_Lends C.struct C.the_codes C.the_heap C.the_lent
    (λ d p. lent_at_shr_laws the_row held_laws.the_row_laws.shr_laws d.at d.held)
    (copy_shared RawPtr-field RawPtr-copy, tt)
    (λ M 𝓤 𝓛 d p. Lends-loan 𝓛 (lent_at the_row d.at d.held)
    (lent_at_shr_laws the_row held_laws.the_row_laws.shr_laws d.at d.held) d.life d.share
    C.the_row.lives)
