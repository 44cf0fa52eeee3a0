-- The number of a kind, by its place in a list of kinds.
use Rattle.std.proofs.Common.{◌≡◌, ℕ, zero, suc, List, [], ◌∷◌, Some, None, refl, ap}
use Rattle.std.specs.Prelude.{slice_get}
use Rattle.vortex_logical.specs.declared.kind.Kind.{Kind}
use Rattle.yurkije_columns.specs.Kinds.{kind_number, number_at}

pub there : (ks : List Kind) (n : ℕ) (k : Kind) → slice_get ks n ≡ Some k
    → number_at ks n ≡ kind_number k
there [] n k e = absurd (cc)
there (j ∷ ks) zero k e = let same : j ≡ k = cc in ap kind_number same
there (j ∷ ks) (suc n) k e = there ks n k e

pub missing : (ks : List Kind) (n : ℕ) → slice_get ks n ≡ None → number_at ks n ≡ 0
missing [] n e = refl
missing (j ∷ ks) zero e = absurd (cc)
missing (j ∷ ks) (suc n) e = missing ks n e
