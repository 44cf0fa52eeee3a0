-- Columns that are constants where their inputs are.
use Rattle.std.specs.Prelude.{IsSome}
use Rattle.vortex_columns.specs.ColumnView.{ColumnView}

-- a constant stays constant
abbrev pub KeepsConstant : ColumnView → ColumnView → Type 0
KeepsConstant c d = IsSome c.constant → IsSome d.constant

-- constant if both inputs are
abbrev pub KeepsTwoConstants : ColumnView → ColumnView → ColumnView → Type 0
KeepsTwoConstants l r c = IsSome l.constant → KeepsConstant r c

-- constant if all three inputs are
abbrev pub KeepsThreeConstants : ColumnView → ColumnView → ColumnView → ColumnView → Type 0
KeepsThreeConstants x l r c = IsSome x.constant → KeepsTwoConstants l r c
