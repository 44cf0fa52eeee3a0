-- Options are read back from the bytes that they are written as, and from no others.
use Rattle.std.proofs.Common.{◌≡◌, ℕ, zero, suc, ◌+◌, ◌-◌, List, [], ◌∷◌, Bool, true}
use Rattle.std.proofs.Common.{false, cond}
use Rattle.std.proofs.Common.{Option, Some, None, refl, sym, subst, ap, ◌∙◌, arith}
use Rattle.std.specs.Prelude.{◌==◌, ◌&&◌, nat_lt, not}
use Rattle.std.specs.Char.{IsScalar}
use Rattle.std.specs.Int.{w32, to_be_bytes, from_be_bytes}
use Rattle.std.specs.Option.{option_map, option_and_then}
use Rattle.std.specs.Str.{bytes_eq}
use Rattle.std.proofs.Math.Utf8.{scalar, scalar_fits}
use Rattle.std.proofs.lemmas.Bool.{eqb-true, ltb-false}
use Rattle.std.proofs.lemmas.Nat.{from_be_bytes-to_be_bytes_4}
use Rattle.std.proofs.lemmas.Slice.Eq.{bytes_eq-Decides}
use Rattle.vortex_errors.specs.OptionBytes.{IsFormat, two_bits}
use Rattle.vortex_errors.proofs.ReadBytes.{read_among-written}
use Rattle.vortex_operators.specs.declared.operators.Operator.{Operator}
use Rattle.vortex_operators.specs.declared.operators.Operator.TheVariants.{Eq, NotEq, Gt, Gte, Lt}
use Rattle.vortex_operators.specs.declared.operators.Operator.TheVariants.{Lte, And, Or, Add, Sub}
use Rattle.vortex_operators.specs.declared.operators.Operator.TheVariants.{Mul, Div}
use Rattle.vortex_operators.specs.declared.between.BetweenOptions.{BetweenOptions}
use Rattle.vortex_operators.specs.declared.between.StrictComparison.{StrictComparison}
use Rattle.vortex_operators.specs.declared.between.StrictComparison.TheVariants.{Strict, NonStrict}
use Rattle.vortex_operators.specs.Operators.{all_operators}
use Rattle.vortex_operators.specs.OptionBytes.{operator_bytes, operator_read}
use Rattle.vortex_operators.specs.OptionBytes.{between_bytes, between_read, all_bounds}
use Rattle.vortex_like.specs.declared.options.LikeOptions.{LikeOptions}
use Rattle.vortex_like.specs.OptionBytes.{like_bytes, like_read, escape_bytes, escape_read}
use Rattle.vortex_like.specs.OptionBytes.{with_bits, asked, HasCharacter, IsLikeFormat}
use Rattle.vortex_like.specs.Tokens.{backslash}
use Rattle.vortex_interface.specs.Shipped as shipped
use Rattle.vortex_interface.specs.Shipped.{Shipped}
use Rattle.vortex_interface.specs.OptionBytes.{shipped_bytes, with_options, HasCharacters}

operator_back : (o : Operator) → operator_read (operator_bytes o) ≡ Some o
operator_back Eq = refl
operator_back NotEq = refl
operator_back Gt = refl
operator_back Gte = refl
operator_back Lt = refl
operator_back Lte = refl
operator_back And = refl
operator_back Or = refl
operator_back Add = refl
operator_back Sub = refl
operator_back Mul = refl
operator_back Div = refl

bounds_back : (lower upper : StrictComparison)
    → (let o : BetweenOptions = record { lower_strict = lower; upper_strict = upper } in
    between_read (between_bytes o) ≡ Some o)
bounds_back NonStrict NonStrict = refl
bounds_back Strict NonStrict = refl
bounds_back NonStrict Strict = refl
bounds_back Strict Strict = refl

between_back : (o : BetweenOptions) → between_read (between_bytes o) ≡ Some o
between_back o = bounds_back o.lower_strict o.upper_strict

no_escape_back : (n c : Bool)
    → like_read (escape_bytes (two_bits n c) None) ≡ Some (asked n c None)
no_escape_back false false = refl
no_escape_back true false = refl
no_escape_back false true = refl
no_escape_back true true = refl

backslash_back : (n c : Bool)
    → like_read (two_bits n c ∷ []) ≡ Some (asked n c (Some backslash))
backslash_back false false = refl
backslash_back true false = refl
backslash_back false true = refl
backslash_back true true = refl

-- a character but the backslash is read from its four bytes
escape_back : (e : ℕ) → IsScalar e → (e == backslash) ≡ false
    → escape_read (to_be_bytes w32 e) ≡ Some e
escape_back e s other =
    ap (λ c. escape_by c (to_be_bytes w32 e)) (from_be_bytes-to_be_bytes_4 e (scalar_fits e s))
    ∙ ap (λ b. cond (b && (scalar e && not (e == backslash))) (Some e) None)
    ((bytes_eq-Decides (to_be_bytes w32 e) (to_be_bytes w32 e)).1 refl)
    ∙ ap (λ b. cond (b && not (e == backslash)) (Some e) None) s
    ∙ ap (λ b. cond (not b) (Some e) None) other
  where
    escape_by : ℕ → List ℕ → Option ℕ
    escape_by c number =
        cond (bytes_eq (to_be_bytes w32 c) number && (scalar c && not (c == backslash))) (Some c)
        None

written_back : (n c : Bool) (e : ℕ) → IsScalar e → (e == backslash) ≡ false
    → like_read ((two_bits n c + 4) ∷ to_be_bytes w32 e) ≡ Some (asked n c (Some e))
written_back false false e s other =
    ap (λ r. option_and_then (λ x. with_bits 0 (Some x)) r) (escape_back e s other)
written_back true false e s other =
    ap (λ r. option_and_then (λ x. with_bits 1 (Some x)) r) (escape_back e s other)
written_back false true e s other =
    ap (λ r. option_and_then (λ x. with_bits 2 (Some x)) r) (escape_back e s other)
written_back true true e s other =
    ap (λ r. option_and_then (λ x. with_bits 3 (Some x)) r) (escape_back e s other)

asked_back : (n c : Bool) (escape : Option ℕ) → HasCharacter (asked n c escape)
    → like_read (like_bytes (asked n c escape)) ≡ Some (asked n c escape)
asked_back n c None h = no_escape_back n c
asked_back n c (Some e) h = by (e == backslash) refl
  where
    by : (b : Bool) → (e == backslash) ≡ b
        → like_read (escape_bytes (two_bits n c) (Some e)) ≡ Some (asked n c (Some e))
    by true is =
        ap
        (λ b. like_read (cond b (two_bits n c ∷ []) ((two_bits n c + 4) ∷ to_be_bytes w32 e))) is
        ∙ backslash_back n c
        ∙ ap (λ d. Some (asked n c (Some d))) (sym (eqb-true e backslash is))
    by false other =
        ap
        (λ b. like_read (cond b (two_bits n c ∷ []) ((two_bits n c + 4) ∷ to_be_bytes w32 e)))
        other
        ∙ written_back n c e h other

like_back : (o : LikeOptions) → HasCharacter o → like_read (like_bytes o) ≡ Some o
like_back o h = asked_back o.negated o.case_insensitive o.escape h

-- options read from two bits have these, and that escape
pub record HasBits (b : ℕ) (escape : Option ℕ) (o : LikeOptions) : Type 0 where
  pub bits : b ≡ two_bits o.negated o.case_insensitive
  pub kept : o.escape ≡ escape

has_asked : (n c : Bool) (b : ℕ) (escape : Option ℕ) (o : LikeOptions) → b ≡ two_bits n c
    → asked n c escape ≡ o → HasBits b escape o
has_asked n c b escape o e same =
    subst (λ (p : LikeOptions). HasBits b escape p) same (record { bits = e; kept = refl })

has_bits : (b : ℕ) (escape : Option ℕ) (o : LikeOptions) → with_bits b escape ≡ Some o
    → HasBits b escape o
has_bits zero escape o e = has_asked false false 0 escape o refl (cc)
has_bits (suc zero) escape o e = has_asked true false 1 escape o refl (cc)
has_bits (suc (suc zero)) escape o e = has_asked false true 2 escape o refl (cc)
has_bits (suc (suc (suc zero))) escape o e = has_asked true true 3 escape o refl (cc)
has_bits (suc (suc (suc (suc b)))) escape o e = cc

-- an escape that is read is in the bytes as its four bytes
escape_alone : (number : List ℕ) (e : ℕ) → escape_read number ≡ Some e
    → (number ≡ to_be_bytes w32 e) × ((e == backslash) ≡ false)
escape_alone number e is =
    by (bytes_eq (to_be_bytes w32 n) number) (scalar n) (n == backslash) refl refl is
  where
    n : ℕ
    n = from_be_bytes w32 number

    by : (w s q : Bool) → bytes_eq (to_be_bytes w32 n) number ≡ w → (n == backslash) ≡ q
        → cond (w && (s && not q)) (Some n) None ≡ Some e
        → (number ≡ to_be_bytes w32 e) × ((e == backslash) ≡ false)
    by true true false f g h =
        let same : n ≡ e = cc in (
          sym ((bytes_eq-Decides (to_be_bytes w32 n) number).0 f) ∙ ap (to_be_bytes w32) same,
          ap (λ c. c == backslash) (sym same) ∙ g,
        )
    by true true true f g h = cc
    by true false q f g h = cc
    by false s q f g h = cc

one_alone : (b : ℕ) (o : LikeOptions) → like_read (b ∷ []) ≡ Some o → b ∷ [] ≡ like_bytes o
one_alone b o e = by (nat_lt b 8) refl e
  where
    by : (low : Bool) → nat_lt b 8 ≡ low
        → cond low (with_bits b (Some backslash)) (with_bits (b - 8) None) ≡ Some o
        → b ∷ [] ≡ like_bytes o
    by true lt h =
        let has = has_bits b (Some backslash) o h in
        ap (λ k. k ∷ []) has.bits
        ∙ ap (escape_bytes (two_bits o.negated o.case_insensitive)) (sym has.kept)
    by false lt h =
        let has = has_bits (b - 8) None o h in
        let high : b ≡ two_bits o.negated o.case_insensitive + 8 =
        omega (arith, has.bits, ltb-false b 8 lt) in
        ap (λ k. k ∷ []) high
        ∙ ap (escape_bytes (two_bits o.negated o.case_insensitive)) (sym has.kept)

more_alone : (b : ℕ) (number : List ℕ) (o : LikeOptions)
    → cond (nat_lt b 4) None (option_and_then (λ c. with_bits (b - 4) (Some c))
    (escape_read number))
    ≡ Some o
    → b ∷ number ≡ like_bytes o
more_alone b number o e = by (nat_lt b 4) (escape_read number) refl refl e
  where
    by : (low : Bool) (r : Option ℕ) → nat_lt b 4 ≡ low → escape_read number ≡ r
        → cond low None (option_and_then (λ c. with_bits (b - 4) (Some c)) r) ≡ Some o
        → b ∷ number ≡ like_bytes o
    by true r lt f h = cc
    by false None lt f h = cc
    by false (Some c) lt f h =
        let has = has_bits (b - 4) (Some c) o h in
        let read = escape_alone number c f in
        let bits = two_bits o.negated o.case_insensitive in
        let high : b ≡ bits + 4 = omega (arith, has.bits, ltb-false b 4 lt) in
        ap (λ k. k ∷ number) high ∙ ap (λ ks. (bits + 4) ∷ ks) read.0
        ∙ sym (ap (λ q. cond q (bits ∷ []) ((bits + 4) ∷ to_be_bytes w32 c)) read.1)
        ∙ ap (escape_bytes bits) (sym has.kept)

like_alone : (bytes : List ℕ) (o : LikeOptions) → like_read bytes ≡ Some o → bytes ≡ like_bytes o
like_alone [] o e = cc
like_alone (b ∷ []) o e = one_alone b o e
like_alone (b ∷ x ∷ number) o e = more_alone b (x ∷ number) o e

pub operator_format : IsFormat operator_bytes operator_read
operator_format = record {
  back = operator_back;
  alone = λ bytes o e. read_among-written operator_bytes all_operators bytes o e;
}

pub between_format : IsFormat between_bytes between_read
between_format = record {
  back = between_back;
  alone = λ bytes o e. read_among-written between_bytes all_bounds bytes o e;
}

pub like_format : IsLikeFormat
like_format = record { back = like_back; alone = like_alone }

pub options_back : (f : Shipped) → HasCharacters f → with_options f (shipped_bytes f) ≡ Some f
options_back (shipped.Binary o) h = ap (option_map shipped.Binary) (operator_back o)
options_back (shipped.Between o) h = ap (option_map shipped.Between) (between_back o)
options_back (shipped.Like o) h = ap (option_map shipped.Like) (like_back o h)
options_back f h = refl
