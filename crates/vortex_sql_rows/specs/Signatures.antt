-- What a function says of itself.
use Rattle.std.specs.Prelude.{◌≡◌}
use Rattle.vortex_sql_rows.specs.Row.{Row}
use Rattle.vortex_sql_rows.specs.declared.row.Signature.{Signature}

-- it says what its row has
pub record Describes (r : Row) (s : Signature) : Type 0 where
  pub id : s.id.now ≡ r.id
  pub arity : s.arity ≡ r.arity
  pub types : s.types ≡ r.types
  pub strict : s.is_strict ≡ r.strict
  pub infallible : s.is_infallible ≡ r.infallible
