-- The text of one more cell.
use Rattle.std.proofs.Common.{◌≡◌, ℕ, ◌+◌, ◌<◌, List, [], ◌∷◌, ◌++◌, length, take, sym, ap, ◌∙◌}
use Rattle.std.proofs.Common.{add-one, append_assoc, false}
use Rattle.std.proofs.Math.Seq.{take-suc}
use Rattle.std.specs.Prelude.{codes}
use Rattle.std.proofs.lemmas.Grind.{flat_map-append}
use Rattle.std.proofs.lemmas.List.{append-nil}
use Rattle.vortex_types.specs.LogicalTypes.{LogicalType}
use Rattle.vortex_types.specs.Values.{Value, null}
use Rattle.vortex_columns.specs.ColumnView.{row}
use Rattle.vortex_columns.specs.Printing.{value_text, cells_text}

pub one_more_cell : (before : List ℕ) (t : LogicalType) (rows : List Value) (i : ℕ)
    → i < length rows
    → ((before ++ cells_text t (take i rows)) ++ codes " ") ++ value_text false t (row rows i)
    ≡ before ++ cells_text t (take (i + 1) rows)
one_more_cell before t rows i h =
    append_assoc (before ++ cells_text t (take i rows)) (codes " ") cell
    ∙ append_assoc before (cells_text t (take i rows)) (codes " " ++ cell)
    ∙ ap (λ (bs : List ℕ). before ++ bs) (sym taken)
  where
    cell : List ℕ
    cell = value_text false t (row rows i)

    taken : cells_text t (take (i + 1) rows)
        ≡ cells_text t (take i rows) ++ (codes " " ++ cell)
    taken =
        ap (λ (n : ℕ). cells_text t (take n rows)) (add-one i)
        ∙ ap (cells_text t) (take-suc rows i null h)
        ∙ flat_map-append (λ v. codes " " ++ value_text false t v) (take i rows) (row rows i ∷ [])
        ∙ ap (λ (bs : List ℕ). cells_text t (take i rows) ++ bs) (append-nil (codes " " ++ cell))
