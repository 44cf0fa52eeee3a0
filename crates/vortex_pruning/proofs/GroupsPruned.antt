-- Items at their places, and one more of them.
use Rattle.std.proofs.Common.{◌≡◌, ◌<◌, ◌+◌, ℕ, zero, suc, List, [], ◌∷◌, ◌++◌, length, take, get_or}
use Rattle.std.proofs.Common.{sym, subst, arith, refl}
use Rattle.std.proofs.lemmas.Option.{slice_get_read, slice_get-get_or}
use Rattle.vortex_errors.specs.Answers.{UnlessMemory}
use Rattle.vortex_errors.specs.declared.error.VortexError.{VortexError}
use Rattle.vortex_errors.specs.declared.error.VortexError.TheVariants.{OutOfMemory}
use Rattle.vortex_interface.specs.Meaning.{Meaning}
use Rattle.vortex_interface.specs.Trees.{Tree}
use Rattle.vortex_statistics.specs.StatisticsView.{StatisticsView}
use Rattle.vortex_pruning.specs.declared.groups.FieldStatistics.{FieldStatistics}
use Rattle.vortex_pruning.specs.declared.groups.GroupError.{GroupError}
use Rattle.vortex_pruning.specs.declared.groups.GroupError.TheVariants.{Refused}
use Rattle.vortex_pruning.specs.Groups.{statistics_in, RefusesField, RefusesFields, RefusesGroup}
use Rattle.vortex_pruning.specs.Groups.{RefusesGroups, at, no_memory, fields, refused, group}
use Rattle.vortex_pruning.specs.Pruning.{RefusesPruning}
use Rattle.vortex_pruning.specs.Groups.{AllFrom}

module _ {A B : Type 0} (P : ℕ → A → B → Type 0) (d x : A) (y : B) where
  behind : (s : ℕ) (xs : List A) (ys : List B) (l : ℕ) → l < length xs → x ≡ get_or xs l d
      → AllFrom P s (take l xs) ys → P (l + s) x y → AllFrom P s (take (suc l) xs) (ys ++ y ∷ [])
  behind s [] ys l lt here h p = absurd (omega (arith, lt))
  behind s (z ∷ zs) [] zero lt here h p =
      let same : zero + s ≡ s = omega arith in
      (subst (λ (w : A). P s w y) here (subst (λ (n : ℕ). P n x y) same p), tt)
  behind s (z ∷ zs) (w ∷ ws) zero lt here h p = absurd h
  behind s (z ∷ zs) [] (suc l) lt here h p = absurd h
  behind s (z ∷ zs) (w ∷ ws) (suc l) lt here h p =
      let same : suc l + s ≡ l + suc s = omega arith in
      (h.0, behind (suc s) zs ws l (omega (arith, lt)) here h.1 (subst (λ (n : ℕ). P n x y) same p))

  pub all_more : (xs : List A) (ys : List B) (k j : ℕ) → j ≡ suc k → k < length xs
      → x ≡ get_or xs k d → AllFrom P 0 (take k xs) ys → P k x y
      → AllFrom P 0 (take j xs) (ys ++ y ∷ [])
  all_more xs ys k j next lt here h p =
      let same : k ≡ k + 0 = omega arith in
      subst (λ (n : ℕ). AllFrom P 0 (take n xs) (ys ++ y ∷ [])) (sym next)
      (behind 0 xs ys k lt here h (subst (λ (n : ℕ). P n x y) same p))

-- a field of which the statistics are refused
pub field_refused : (fs : List FieldStatistics) (g n f : ℕ) (field : FieldStatistics)
    (e : GroupError) → f < length fs → field ≡ get_or fs f field → RefusesField field f g n e
    → RefusesFields fs g n e
field_refused fs g n f field e lt here r =
    at f field (slice_get_read fs (length fs) f field refl lt here) r

module _ {V O : Type 0} (m : Meaning V O) (fs : List FieldStatistics) (t : Tree V O) where
  pub fields_refused : (g n : ℕ) (e : GroupError) → RefusesFields fs g n e → RefusesGroup m fs t g n e
  fields_refused g n e r = fields r

  pub tree_refused : (g n : ℕ) (ss : List StatisticsView) (x : VortexError)
      → ss ≡ statistics_in g n fs
      → UnlessMemory (RefusesPruning m ss t) x → RefusesGroup m fs t g n (Refused x)
  tree_refused g n ss OutOfMemory same r = fields (no_memory refl)
  tree_refused g n ss x same r =
      refused x (subst (λ (s : List StatisticsView). RefusesPruning m s t x) same r) refl

  pub group_refused : (ns : List ℕ) (g : ℕ) (e : GroupError) → g < length ns
      → RefusesGroup m fs t g (get_or ns g 0) e → RefusesGroups m fs t ns e
  group_refused ns g e lt r = group g (get_or ns g 0) (slice_get-get_or ns g 0 lt) r
