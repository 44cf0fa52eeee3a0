-- Once a number with a fraction was met, one more changes no kind.
use Rattle.std.proofs.Common.{◌≡◌, Bool, true, false, refl}
use Rattle.vortex_logical.specs.declared.kind.Kind.{Kind}
use Rattle.vortex_logical.specs.declared.kind.Kind.TheVariants.{Plain, Date, Timestamp, Decimal}
use Rattle.vortex_logical.specs.declared.kind.Kind.TheVariants.{F64, F32}
use Rattle.vortex_expressions.specs.Kinded.{fraction_kind}

pub fraction_again : (b : Bool) (k : Kind)
    → fraction_kind b (fraction_kind true k) ≡ fraction_kind true k
fraction_again true Plain = refl
fraction_again true Date = refl
fraction_again true Timestamp = refl
fraction_again true (Decimal d) = refl
fraction_again true F64 = refl
fraction_again true F32 = refl
fraction_again false k = refl
