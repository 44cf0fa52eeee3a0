-- The rows after a first one have the common type.
use Rattle.std.proofs.Common.{◌≡◌, List, ◌∷◌, subst}
use Rattle.std.specs.Prelude.{All}
use Rattle.std.proofs.lemmas.List.Elements.{All-tail}
use Rattle.vortex_types.specs.LogicalTypes.{LogicalType}
use Rattle.vortex_types.specs.Typing.{HasType}
use Rattle.vortex_types.specs.Values.{Value}
use Rattle.vortex_columns.specs.ColumnView.{AreTyped}

pub typed_rest : (t : LogicalType) (v : Value) (rows rest : List Value) → rows ≡ v ∷ rest
    → AreTyped t rows → AreTyped t rest
typed_rest t v rows rest is typed =
    All-tail (HasType t) v rest (subst (All (HasType t)) is typed)
