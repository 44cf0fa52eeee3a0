-- What is asked of an answer that is there, or is not.
use Rattle.std.proofs.Common.{ℕ, List, Option, Some, None, sym, subst}
use Rattle.vortex_columns.specs.ColumnView.{ColumnView}
use Rattle.yurkije.specs.Asking.{Asks}
use Rattle.yurkije.specs.Answering.{AsksAnswer, FindsColumn, FindsNone}

pub asks_found : (answers : Option (List ColumnView)) (k result : ℕ) (same : Type 0)
    (P : ColumnView → Type 0) (c : ColumnView) → FindsColumn answers k c → P c
    → AsksAnswer answers k result same P
asks_found None k result same P c found h = absurd found
asks_found (Some cs) k result same P c found h =
    subst (λ (o : Option ColumnView). Asks o 101 result same P) (sym found) h

pub asks_none : (answers : Option (List ColumnView)) (k result : ℕ) (same : Type 0)
    (P : ColumnView → Type 0) → FindsNone answers k result → same
    → AsksAnswer answers k result same P
asks_none None k result same P h kept = (h, kept)
asks_none (Some cs) k result same P h kept =
    subst (λ (o : Option ColumnView). Asks o 101 result same P) (sym h.1) (h.0, kept)
