-- Options are equal where they are the same, and a function that is the same as a shipped one is
-- that one.
use Rattle.std.proofs.Common.{◌≡◌, ℕ, List, Bool, true, false, ◌&&◌, Option, Some, None, refl, ap}
use Rattle.std.proofs.Common.{nat_eq, eq-eqb}
use Rattle.std.proofs.lemmas.Bool.{eqb-true, and_parts, and_from}
use Rattle.std.specs.Option.{option_eq}
use Rattle.std.proofs.lemmas.Slice.Eq.{bytes_eq-Decides}
use Rattle.std.specs.Str.{bytes_eq}
use mathlib.Core.Bool.{beq}
use denote.Enum.Bare.{sameb, same_true, true_same}
use Rattle.vortex_operators.specs.declared.operators.Operator.{Operator}
use Rattle.vortex_operators.specs.contracts.operators.Operator as operator
use Rattle.vortex_operators.specs.declared.between.StrictComparison.{StrictComparison}
use Rattle.vortex_operators.specs.contracts.between.StrictComparison as strict
use Rattle.vortex_operators.specs.declared.between.BetweenOptions.{BetweenOptions}
use Rattle.vortex_like.specs.declared.options.LikeOptions.{LikeOptions}
use Rattle.vortex_interface.specs.Shipped.{Shipped}
use Rattle.vortex_interface.specs.Functions.{Function, ours, custom}
use Rattle.vortex_functions.specs.SameFunctions.{AreSame}

-- a test, and what it decides
abbrev pub Tells : Bool → Type 0 → Type 0
Tells b P = (b ≡ true → P) × (P → b ≡ true)

tells_both : (a b : Bool) (P Q : Type 0) → Tells a P → Tells b Q → Tells (a && b) (P × Q)
tells_both a b P Q p q = (
  λ e. let both = and_parts a b e in (p.0 both.0, q.0 both.1),
  λ h. and_from a b (p.1 h.0) (q.1 h.1),
)

pub operators_tell : (a b : Operator) → Tells (sameb operator.the_type a b) (a ≡ b)
operators_tell a b =
    (λ e. same_true operator.the_type tt a b e, λ e. true_same operator.the_type a b e)

abbrev strict_eq : StrictComparison → StrictComparison → Bool
strict_eq a b = sameb strict.the_type a b

strict_tell : (a b : StrictComparison) → Tells (strict_eq a b) (a ≡ b)
strict_tell a b = (λ e. same_true strict.the_type tt a b e, λ e. true_same strict.the_type a b e)

pub bounds_tell : (a b : BetweenOptions) → Tells
    (strict_eq a.lower_strict b.lower_strict && strict_eq a.upper_strict b.upper_strict) (a ≡ b)
bounds_tell a b =
    let both = tells_both (strict_eq a.lower_strict b.lower_strict)
    (strict_eq a.upper_strict b.upper_strict) (a.lower_strict ≡ b.lower_strict)
    (a.upper_strict ≡ b.upper_strict) (strict_tell a.lower_strict b.lower_strict)
    (strict_tell a.upper_strict b.upper_strict) in (
      λ e. let h = both.0 e in λ i. record { lower_strict = h.0 i; upper_strict = h.1 i },
      λ e. both.1 (
        ap (λ (o : BetweenOptions). o.lower_strict) e,
        ap (λ (o : BetweenOptions). o.upper_strict) e,
      ),
    )

flags_tell : (a b : Bool) → Tells (beq a b) (a ≡ b)
flags_tell true true = (λ e. refl, λ e. refl)
flags_tell false false = (λ e. refl, λ e. refl)
flags_tell true false = (λ e. cc, λ e. cc)
flags_tell false true = (λ e. cc, λ e. cc)

escapes_tell : (a b : Option ℕ) → Tells (option_eq nat_eq a b) (a ≡ b)
escapes_tell None None = (λ e. refl, λ e. refl)
escapes_tell (Some x) (Some y) = (λ e. ap Some (eqb-true x y e), λ e. eq-eqb x y (cc))
escapes_tell None (Some y) = (λ e. cc, λ e. cc)
escapes_tell (Some x) None = (λ e. cc, λ e. cc)

pub likes_tell : (a b : LikeOptions) → Tells
    (beq a.negated b.negated
    && (beq a.case_insensitive b.case_insensitive && option_eq nat_eq a.escape b.escape))
    (a ≡ b)
likes_tell a b =
    let last = tells_both (beq a.case_insensitive b.case_insensitive)
    (option_eq nat_eq a.escape b.escape) (a.case_insensitive ≡ b.case_insensitive)
    (a.escape ≡ b.escape) (flags_tell a.case_insensitive b.case_insensitive)
    (escapes_tell a.escape b.escape) in
    let all = tells_both (beq a.negated b.negated)
    (beq a.case_insensitive b.case_insensitive && option_eq nat_eq a.escape b.escape)
    (a.negated ≡ b.negated) ((a.case_insensitive ≡ b.case_insensitive) × (a.escape ≡ b.escape))
    (flags_tell a.negated b.negated) last in (
      λ e.
          let h = all.0 e in
          λ i. record { negated = h.0 i; case_insensitive = h.1.0 i; escape = h.1.1 i },
      λ e. all.1 (
        ap (λ (o : LikeOptions). o.negated) e,
        (
          ap (λ (o : LikeOptions). o.case_insensitive) e,
          ap (λ (o : LikeOptions). o.escape) e,
        ),
      ),
    )

pub instances_tell : (id other : List ℕ) (b : Bool)
    → Tells (bytes_eq id other && b) ((id ≡ other) × (b ≡ true))
instances_tell id other b =
    tells_both (bytes_eq id other) b (id ≡ other) (b ≡ true) (bytes_eq-Decides id other)
    (λ e. e, λ e. e)

pub same_as_shipped : {V O : Type 0} (id : V → List ℕ) (E : O → O → Bool) (f g : Function V O)
    (s : Shipped) → f ≡ ours s → AreSame id E f g → f ≡ g
same_as_shipped id E (ours t) (ours u) s e h = ap ours h
same_as_shipped id E (ours t) (custom g p) s e h = absurd h
same_as_shipped id E (custom f o) g s e h = cc
