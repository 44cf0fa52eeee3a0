-- How the tables of levels are related.
use Rattle.std.proofs.Common.{◌≡◌, ◌≢◌, ℕ, zero, ◌<◌, ◌≤◌, Bool, true, false, cond, nat_lt, nat_le}
use Rattle.std.proofs.Common.{List, []}
use Rattle.std.proofs.Common.{◌∷◌, refl, ap, arith, lit<, lit≤}
use Rattle.std.proofs.lemmas.Bool.Decides.{nat_tests}
use Rattle.vortex_syntax.specs.declared.step.WrittenOperator.{WrittenOperator}
use Rattle.vortex_syntax.specs.declared.step.WrittenOperator.TheVariants as operator
use Rattle.vortex_syntax.specs.declared.token.Sign.{Sign}
use Rattle.vortex_syntax.specs.declared.token.Sign.TheVariants as sign
use Rattle.vortex_syntax.specs.Frames.{Frame, hole, top_hole, ceiling, top_ceiling, guard, whole}
use Rattle.vortex_syntax.specs.Frames as frame
use Rattle.vortex_syntax.specs.Tokens.{Token, name, number, text, sign}
use Rattle.vortex_syntax.specs.Syntax as tree
use Rattle.vortex_syntax.specs.Syntax.{Syntax}
use Rattle.vortex_syntax.specs.Reading.{waits_word, waits_in}
use Rattle.vortex_syntax.specs.Levels.{level, operand_level, sign_level, typed_level, own, left}
use Rattle.vortex_syntax.specs.Levels.{right, or_level, and_level, not_level, is_level}
use Rattle.vortex_syntax.specs.Levels.{comparison_level, predicate_level, concat_level, sum_level}
use Rattle.vortex_syntax.specs.Levels.{bit_not_level, product_level, atom_level, literal_level}
use Rattle.vortex_syntax.specs.Levels.{takes_in, first_level}

pub own_left : (o : WrittenOperator) → own o ≤ left o
own_left operator.Or = lit≤ tt
own_left o = lit≤ tt

pub own_right : (o : WrittenOperator) → own o < right o
own_right operator.Or = lit< tt
own_right o = lit< tt

pub right_sign : (o : WrittenOperator) → right o ≤ sign_level
right_sign operator.Or = lit≤ tt
right_sign o = lit≤ tt

pub own_product : (o : WrittenOperator) → own o ≤ product_level
own_product operator.Or = lit≤ tt
own_product o = lit≤ tt

-- no sign after an operand has the level of one before an operand, so a sign below or at a frame's
-- level closes it
pub tight : (f : Frame) (n : ℕ) → 0 < guard f → n ≤ whole f → n ≢ not_level → n ≢ bit_not_level
    → n ≢ sign_level → n < guard f
tight frame.Not n h le ne nb nm = omega (arith, le, ne)
tight frame.BitNot n h le ne nb nm = omega (arith, le, nb)
tight frame.Minus n h le ne nb nm = omega (arith, le, nm)
tight frame.Plus n h le ne nb nm = omega (arith, le, nm)
tight (frame.Join o) n h le ne nb nm = omega (arith, le, own_right o)
tight (frame.Distinct m) n h le ne nb nm = omega (arith, le)
tight (frame.Bounded m) n h le ne nb nm = omega (arith, le)
tight (frame.Like k) n h le ne nb nm = omega (arith, le)
tight f n h le ne nb nm = absurd (let k : ⊥ = omega (arith, h) in k)

pub guard_hole : (f : Frame) → guard f ≤ hole f
guard_hole frame.Open = lit≤ tt
guard_hole (frame.Cast p) = lit≤ tt
guard_hole frame.Not = lit≤ tt
guard_hole frame.Minus = lit≤ tt
guard_hole frame.Plus = lit≤ tt
guard_hole frame.BitNot = lit≤ tt
guard_hole (frame.Join o) = omega arith
guard_hole (frame.Distinct m) = lit≤ tt
guard_hole (frame.Between m) = lit≤ tt
guard_hole (frame.Bounded m) = lit≤ tt
guard_hole (frame.Like k) = lit≤ tt
guard_hole (frame.Arguments w n) = omega arith
guard_hole (frame.Extract w) = lit≤ tt
guard_hole (frame.From w) = lit≤ tt
guard_hole (frame.For w) = lit≤ tt
guard_hole (frame.Place w) = lit≤ tt
guard_hole (frame.Trim d) = lit≤ tt
guard_hole (frame.TrimFrom d) = lit≤ tt
guard_hole (frame.TrimBy d) = lit≤ tt
guard_hole (frame.Items m n) = lit≤ tt
guard_hole (frame.Case p m n) = lit≤ tt

first_sign : (b : Bool) → cond b concat_level or_level ≤ sign_level
first_sign true = lit≤ tt
first_sign false = lit≤ tt

pub hole_sign : (f : Frame) → hole f ≤ sign_level
hole_sign (frame.Join o) = right_sign o
hole_sign (frame.Arguments w zero) = first_sign (takes_in w)
hole_sign f = lit≤ tt

pub top_sign : (fs : List Frame) → top_hole fs ≤ sign_level
top_sign [] = lit≤ tt
top_sign (f ∷ fs) = hole_sign f

pub top_atom : (fs : List Frame) → top_hole fs ≤ atom_level
top_atom fs = omega (arith, top_sign fs)

pub whole_atom : (f : Frame) → whole f ≤ atom_level
whole_atom (frame.Join o) = omega (arith, own_product o)
whole_atom f = lit≤ tt

-- what may come where a frame waits
pub atom_ceiling : (fs : List Frame) → atom_level ≤ top_ceiling fs
atom_ceiling [] = lit≤ tt
atom_ceiling (frame.Minus ∷ fs) = lit≤ tt
atom_ceiling (f ∷ fs) = lit≤ tt

pub typed_ceiling : (fs : List Frame) → typed_level ≤ top_ceiling fs
    → literal_level ≤ top_ceiling fs
typed_ceiling [] h = lit≤ tt
typed_ceiling (frame.Minus ∷ fs) h = absurd (let k : ⊥ = omega (arith, h) in k)
typed_ceiling (f ∷ fs) h = lit≤ tt

pub ceiling_below : (fs : List Frame) (n : ℕ) → top_hole fs ≤ n → n < sign_level
    → literal_level ≤ top_ceiling fs
ceiling_below [] n h k = lit≤ tt
ceiling_below (frame.Minus ∷ fs) n h k = absurd (let j : ⊥ = omega (arith, h, k) in j)
ceiling_below (f ∷ fs) n h k = lit≤ tt

operand_literal : (t : Token) → operand_level t ≤ literal_level
operand_literal (name w) = lit≤ tt
operand_literal t = lit≤ tt

pub level_literal : (t : Syntax) → level t ≤ literal_level
level_literal (tree.operand t) = operand_literal t
level_literal (tree.joined o a b) = omega (arith, own_product o)
level_literal (tree.converted a w n) = level_literal a
level_literal t = lit≤ tt

-- the level of the sign that comes after an operand: only frames above it are closed. A bracket, a
-- text or a number comes after none but a bare name, which is no operand then
abbrev pub reach_of : Sign → ℕ
reach_of sign.And = and_level
reach_of sign.Is = is_level
reach_of sign.IsNull = is_level
reach_of sign.NotNull = is_level
reach_of sign.Equal = comparison_level
reach_of sign.NotEqual = comparison_level
reach_of sign.Less = comparison_level
reach_of sign.LessOrEqual = comparison_level
reach_of sign.Greater = comparison_level
reach_of sign.GreaterOrEqual = comparison_level
reach_of sign.Not = predicate_level
reach_of sign.Between = predicate_level
reach_of sign.In = predicate_level
reach_of sign.Like = predicate_level
reach_of sign.Ilike = predicate_level
reach_of sign.Escape = concat_level
reach_of sign.Concat = concat_level
reach_of sign.BitAnd = concat_level
reach_of sign.BitOr = concat_level
reach_of sign.BitXor = concat_level
reach_of sign.ShiftLeft = concat_level
reach_of sign.ShiftRight = concat_level
reach_of sign.BitNot = concat_level
reach_of sign.MatchAnyCase = concat_level
reach_of sign.NotMatch = concat_level
reach_of sign.NotMatchAnyCase = concat_level
reach_of sign.Plus = sum_level
reach_of sign.Minus = sum_level
reach_of sign.Times = product_level
reach_of sign.Divide = product_level
reach_of sign.Modulo = product_level
reach_of sign.Typed = atom_level
reach_of sign.Open = 15
reach_of _ = or_level

abbrev pub token_reach : Token → ℕ
token_reach (sign s) = reach_of s
token_reach (text bs) = 15
token_reach (number ds) = 15
token_reach t = 0

abbrev pub reach : List Token → ℕ
reach [] = 0
reach (t ∷ ts) = token_reach t

-- the same after these frames: where a word may come, a bare name before `from` is no operand
abbrev pub reach_at : List Frame → List Token → ℕ
reach_at fs (sign sign.From ∷ ts) = cond (waits_word fs) 15 0
reach_at fs ts = reach ts

weaker_from : (b : Bool) → 0 ≤ cond b 15 0
weaker_from true = lit≤ tt
weaker_from false = lit≤ tt

pub weaker : (fs : List Frame) (ts : List Token) → reach ts ≤ reach_at fs ts
weaker fs [] = lit≤ tt
weaker fs (sign sign.From ∷ ts) = weaker_from (waits_word fs)
weaker fs (t ∷ ts) = omega arith

pub unworded : (fs : List Frame) (ts : List Token) → waits_word fs ≡ false
    → reach_at fs ts ≡ reach ts
unworded fs [] h = refl
unworded fs (sign sign.From ∷ ts) h = ap (λ b. cond b 15 0) h
unworded fs (t ∷ ts) h = refl

is_unworded : (b : Bool) → cond b 15 0 ≤ atom_level → b ≡ false
is_unworded true h = absurd (let k : ⊥ = omega (arith, h) in k)
is_unworded false h = refl

pub no_word : (fs : List Frame) → cond (waits_word fs) 15 0 ≤ atom_level → waits_word fs ≡ false
no_word fs h = is_unworded (waits_word fs) h

-- the level of what `in` follows, in a call of a function that takes it
pub taken_level : (f : List ℕ) → takes_in f ≡ true → first_level f ≡ concat_level
taken_level f h = ap (λ b. cond b concat_level or_level) h

pub untaken_level : (f : List ℕ) → takes_in f ≡ false → first_level f ≡ or_level
untaken_level f h = ap (λ b. cond b concat_level or_level) h

is_untaken : (b : Bool) → cond b concat_level or_level ≤ predicate_level → b ≡ false
is_untaken true h = absurd (let k : ⊥ = omega (arith, h) in k)
is_untaken false h = refl

-- where IN may come, no `in` ends an argument
pub not_placing : (fs : List Frame) → top_hole fs ≤ predicate_level → waits_in fs ≡ false
not_placing [] h = refl
not_placing (frame.Arguments f zero ∷ fs) h = is_untaken (takes_in f) h
not_placing (f ∷ fs) h = refl

sign_not_eleven : (s : Sign) → reach_of s ≢ sign_level
sign_not_eleven sign.And h = absurd (let k : ⊥ = omega (arith, h) in k)
sign_not_eleven s h = absurd (let k : ⊥ = omega (arith, h) in k)

sign_not_eight : (s : Sign) → reach_of s ≢ bit_not_level
sign_not_eight sign.And h = absurd (let k : ⊥ = omega (arith, h) in k)
sign_not_eight s h = absurd (let k : ⊥ = omega (arith, h) in k)

sign_not_two : (s : Sign) → reach_of s ≢ not_level
sign_not_two sign.And h = absurd (let k : ⊥ = omega (arith, h) in k)
sign_not_two s h = absurd (let k : ⊥ = omega (arith, h) in k)

pub not_two : (ts : List Token) → reach ts ≢ not_level
not_two [] h = absurd (let k : ⊥ = omega (arith, h) in k)
not_two (sign s ∷ ts) h = sign_not_two s h
not_two (t ∷ ts) h = absurd (let k : ⊥ = omega (arith, h) in k)

pub not_eight : (ts : List Token) → reach ts ≢ bit_not_level
not_eight [] h = absurd (let k : ⊥ = omega (arith, h) in k)
not_eight (sign s ∷ ts) h = sign_not_eight s h
not_eight (t ∷ ts) h = absurd (let k : ⊥ = omega (arith, h) in k)

pub not_eleven : (ts : List Token) → reach ts ≢ sign_level
not_eleven [] h = absurd (let k : ⊥ = omega (arith, h) in k)
not_eleven (sign s ∷ ts) h = sign_not_eleven s h
not_eleven (t ∷ ts) h = absurd (let k : ⊥ = omega (arith, h) in k)

pub lower : (m n : ℕ) → m < n → nat_lt m n ≡ true
lower m n h = grind (arith, nat_tests)

pub not_lower : (m n : ℕ) → n ≤ m → nat_lt m n ≡ false
not_lower m n h = grind (arith, nat_tests)

pub over : (m n : ℕ) → n < m → nat_le m n ≡ false
over m n h = grind (arith, nat_tests)

pub at_most : (m n : ℕ) → m ≤ n → nat_le m n ≡ true
at_most m n h = grind (arith, nat_tests)
