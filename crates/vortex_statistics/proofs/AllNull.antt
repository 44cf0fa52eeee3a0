-- Rows of which each is null.
use Rattle.std.proofs.Common.{◌≡◌, ℕ, zero, suc, ◌+◌, ◌<◌, Bool, true, false, not, List, [], ◌∷◌, refl}
use Rattle.std.proofs.Common.{sym, ◌∙◌, length, arith, if◌then◌else◌, ◌&&◌, ◌≤◌}
use Rattle.std.specs.Prelude.{Option, Some, None, IfSome, count_by, slice_index_or}
use Rattle.std.proofs.lemmas.List.Sums.{count_by-le-length, sum_by-cons}
use Rattle.std.specs.Cmp.{unsigned_Decides}
use Rattle.vortex_types.specs.Values.{Value, is_null}
use Rattle.vortex_statistics.specs.StatisticsView.{StatisticsView, is_all_null}
use Rattle.vortex_statistics.specs.Describes.{Describes, AreBehind}

pub record AreNull (vs : List Value) : Type 0 where
  pub each : (k : ℕ) (d : Value) → k < length vs → is_null (slice_index_or vs k d) ≡ true

step : (b : Bool) (vs : List Value) (n : ℕ) → (if b then 1 else 0) + count_by is_null vs ≡ suc n
    → count_by is_null vs ≤ n → (b ≡ true) × (count_by is_null vs ≡ n)
step true vs n h le = (refl, omega (arith, h))
step false vs n h le = absurd (omega (arith, h, le))

counts : (v : Value) (vs : List Value)
    → (if is_null v then 1 else 0) + count_by is_null vs ≡ count_by is_null (v ∷ vs)
counts v vs = sym (sum_by-cons (λ w. if is_null w then 1 else 0) v vs)

each_null : (vs : List Value) → count_by is_null vs ≡ length vs → (k : ℕ) (d : Value)
    → k < length vs → is_null (slice_index_or vs k d) ≡ true
each_null [] e k d lt = absurd (omega (arith, lt))
each_null (v ∷ vs) e zero d lt =
    (step (is_null v) vs (length vs) (counts v vs ∙ e) (count_by-le-length is_null vs)).0
each_null (v ∷ vs) e (suc k) d lt =
    each_null vs (step (is_null v) vs (length vs) (counts v vs ∙ e) (count_by-le-length is_null vs)).1
    k d
    (omega (arith, lt))

none_there : (vs : List Value) → length vs ≡ 0 → AreNull vs
none_there vs e = record { each = λ k d lt. absurd (omega (arith, e, lt)) }

pub counted : (rows nulls : Option ℕ) (vs : List Value) → is_all_null rows nulls ≡ true
    → IfSome rows (λ n. length vs ≡ n) → IfSome nulls (λ n. count_by is_null vs ≡ n) → AreNull vs
counted (Some n) (Some k) vs h rows nulls =
    record {
      each = each_null vs (nulls ∙ sym ((unsigned_Decides n k).0 h) ∙ sym rows);
    }
counted (Some n) None vs h rows nulls = none_there vs (rows ∙ (unsigned_Decides n 0).0 h)
counted None nulls vs h rows k = cc

-- statistics that say so of a column that they describe
pub all_null : (s : StatisticsView) (vs : List Value) → Describes s vs
    → is_all_null s.rows s.nulls ≡ true → AreNull vs
all_null s vs d h = counted s.rows s.nulls vs h d.rows d.nulls

unbounded : (b c : Bool) → b ≡ true → (not b && c) ≡ true → ⊥
unbounded true c h k = cc
unbounded false c h k = cc

-- any value is then an end
pub nulls_behind : (order : Value → Value → Bool) (skips : Bool) (w : Value) (vs : List Value)
    → AreNull vs → AreBehind order skips w vs
nulls_behind order skips w vs p = λ k d lt h. absurd (unbounded _ _ (p.each k d lt) h)
