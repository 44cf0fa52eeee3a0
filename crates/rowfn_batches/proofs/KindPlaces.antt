-- The kind of a column, by its place in a list of kinds.
use Rattle.std.proofs.Common.{◌≡◌, ℕ, zero, suc, List, [], ◌∷◌, Some, None, refl}
use Rattle.std.specs.Prelude.{slice_get}
use Rattle.vortex_logical.specs.declared.kind.Kind.{Kind}
use Rattle.vortex_logical.specs.declared.kind.Kind.TheVariants.{Plain}
use Rattle.vortex_expressions.specs.Calls.{kind_at}

pub there : (ks : List Kind) (n : ℕ) (k : Kind) → slice_get ks n ≡ Some k → kind_at ks n ≡ k
there [] n k e = absurd (cc)
there (j ∷ ks) zero k e = cc
there (j ∷ ks) (suc n) k e = there ks n k e

pub missing : (ks : List Kind) (n : ℕ) → slice_get ks n ≡ None → kind_at ks n ≡ Plain
missing [] n e = refl
missing (j ∷ ks) zero e = absurd (cc)
missing (j ∷ ks) (suc n) e = missing ks n e
