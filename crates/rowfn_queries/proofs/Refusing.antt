-- Why a text declares no columns.
use Rattle.std.proofs.Common.{◌≡◌, ◌≢◌, ℕ, List, refl, inl, inr, subst, sym}
use Rattle.std.specs.Prelude.{◌⊎◌}
use Rattle.vortex_syntax.specs.Tokens.{Token}
use Rattle.vortex_syntax.specs.Lexing.{Lexes}
use Rattle.rowfn_queries.specs.declared.scope.ScopeReason.{ScopeReason}
use Rattle.rowfn_queries.specs.declared.scope.ScopeReason.TheVariants as reason
use Rattle.rowfn_queries.specs.Outcomes.{refuses}
use Rattle.rowfn_queries.specs.Scopes.{columns_of, IsRefusedScope, refused, without_memory}

module _ (text : List ℕ) (ts : List Token) (lexed : Lexes text ts) where
  told : (e : ScopeReason) → (e ≢ reason.OutOfMemory → columns_of ts ≡ refuses e)
      → IsRefusedScope text e
  told reason.OutOfMemory h = without_memory refl
  told reason.NoToken h = refused ts lexed (h (λ x. cc))
  told reason.NoName h = refused ts lexed (h (λ x. cc))
  told reason.NoPlace h = refused ts lexed (h (λ x. cc))
  told reason.NoAs h = refused ts lexed (h (λ x. cc))
  told reason.NoType h = refused ts lexed (h (λ x. cc))
  told reason.NoComma h = refused ts lexed (h (λ x. cc))
  told reason.UnknownType h = refused ts lexed (h (λ x. cc))
  told reason.NameTwice h = refused ts lexed (h (λ x. cc))
  told reason.NotUtf8 h = refused ts lexed (h (λ x. cc))

  -- the reason is told, unless memory ran out meanwhile
  pub refused_so : (e r : ScopeReason) → (e ≢ reason.OutOfMemory → columns_of ts ≡ refuses e)
      → (r ≡ e) ⊎ (r ≡ reason.OutOfMemory) → IsRefusedScope text r
  refused_so e r h (inl same) = subst (IsRefusedScope text) (sym same) (told e h)
  refused_so e r h (inr none) = without_memory none
