-- Frames that wait for an operand while a text is read.
use Rattle.std.specs.Prelude.{ℕ, zero, suc, List, [], ◌∷◌, Bool}
use Rattle.vortex_syntax.specs.declared.step.WrittenOperator.{WrittenOperator}
use Rattle.vortex_syntax.specs.declared.step.BetweenKind.{BetweenKind}
use Rattle.vortex_syntax.specs.declared.step.LikeKind.{LikeKind}
use Rattle.vortex_syntax.specs.declared.token.TrimSide.{TrimSide}
use Rattle.vortex_syntax.specs.declared.frame.CasePart.{CasePart}
use Rattle.vortex_syntax.specs.declared.frame.Frame as held
use Rattle.vortex_syntax.specs.declared.frame.Frame.TheVariants as variant
use Rattle.vortex_syntax.specs.declared.step.Call.TheVariants as call
use Rattle.vortex_syntax.specs.Levels.{own, right, not_level, distinct_level, comparison_level}
use Rattle.vortex_syntax.specs.Levels.{predicate_level, concat_level, sign_level, atom_level}
use Rattle.vortex_syntax.specs.Levels.{bit_not_level, literal_level, first_level}
use Rattle.vortex_syntax.specs.Postfix.{Step, called}

-- Cast is by `try_cast` if the flag is true; Between is before its `and`, Bounded after it; Arguments
-- is a call of that name, after as many arguments; Extract is one after a word and `from`; From is
-- one after an argument and `from`, For after one more and `for`; Place is one after an argument
-- and `in`; Trim is one after a side, TrimFrom after a side and `from`, TrimBy after what it trims
-- by and `from`; Items are those of IN, after as many; Case is before that part of a CASE, which has
-- an operand if the flag is true, after as many values
pub data Frame : Type 0 where
  Open : Frame
  Cast : Bool → Frame
  Not : Frame
  Minus : Frame
  Plus : Frame
  BitNot : Frame
  Join : WrittenOperator → Frame
  Distinct : Bool → Frame
  Between : BetweenKind → Frame
  Bounded : BetweenKind → Frame
  Like : LikeKind → Frame
  Arguments : List ℕ → ℕ → Frame
  Extract : List ℕ → Frame
  From : List ℕ → Frame
  For : List ℕ → Frame
  Place : List ℕ → Frame
  Trim : TrimSide → Frame
  TrimFrom : TrimSide → Frame
  TrimBy : TrimSide → Frame
  Items : Bool → ℕ → Frame
  Case : CasePart → Bool → ℕ → Frame

abbrev pub frame_in : held.Frame → Frame
frame_in variant.Open = Open
frame_in (variant.Cast p) = Cast p
frame_in variant.Not = Not
frame_in variant.Minus = Minus
frame_in variant.Plus = Plus
frame_in variant.BitNot = BitNot
frame_in (variant.Join o) = Join o
frame_in (variant.Distinct n) = Distinct n
frame_in (variant.Between k) = Between k
frame_in (variant.Bounded k) = Bounded k
frame_in (variant.Like k) = Like k
frame_in (variant.Arguments w n) = Arguments w.now n
frame_in (variant.Extract w) = Extract w.now
frame_in (variant.From w) = From w.now
frame_in (variant.For w) = For w.now
frame_in (variant.Place w) = Place w.now
frame_in (variant.Trim d) = Trim d
frame_in (variant.TrimFrom d) = TrimFrom d
frame_in (variant.TrimBy d) = TrimBy d
frame_in (variant.Items n k) = Items n k
frame_in (variant.Case p n k) = Case p n k

-- the least level of an operand that a frame waits for
abbrev pub hole : Frame → ℕ
hole Open = 0
hole (Cast p) = 0
hole Not = not_level
hole Minus = sign_level
hole Plus = sign_level
hole BitNot = bit_not_level
hole (Join o) = right o
hole (Distinct n) = comparison_level
hole (Between k) = concat_level
hole (Bounded k) = concat_level
hole (Like k) = concat_level
hole (Arguments w zero) = first_level w
hole (Arguments w (suc n)) = 0
hole (Extract w) = 0
hole (From w) = 0
hole (For w) = 0
hole (Place w) = 0
hole (Trim d) = 0
hole (TrimFrom d) = 0
hole (TrimBy d) = 0
hole (Items n k) = 0
hole (Case p n k) = 0

abbrev pub top_hole : List Frame → ℕ
top_hole [] = 0
top_hole (f ∷ fs) = hole f

-- the highest level of an operand that a frame waits for: a minus sign before a literal is its own
abbrev pub ceiling : Frame → ℕ
ceiling Minus = atom_level
ceiling f = literal_level

abbrev pub top_ceiling : List Frame → ℕ
top_ceiling [] = literal_level
top_ceiling (f ∷ fs) = ceiling f

-- a frame is closed before a sign of a lower level than this: never where more than one operand is
-- missing
abbrev pub guard : Frame → ℕ
guard Open = 0
guard (Cast p) = 0
guard Not = not_level
guard Minus = sign_level
guard Plus = sign_level
guard BitNot = bit_not_level
guard (Join o) = right o
guard (Distinct n) = comparison_level
guard (Between k) = 0
guard (Bounded k) = concat_level
guard (Like k) = concat_level
guard (Arguments w n) = 0
guard (Extract w) = 0
guard (From w) = 0
guard (For w) = 0
guard (Place w) = 0
guard (Trim d) = 0
guard (TrimFrom d) = 0
guard (TrimBy d) = 0
guard (Items n k) = 0
guard (Case p n k) = 0

-- the level of a frame with its operand, and its step
abbrev pub whole : Frame → ℕ
whole Open = atom_level
whole (Cast p) = atom_level
whole Not = not_level
whole Minus = sign_level
whole Plus = sign_level
whole BitNot = bit_not_level
whole (Join o) = own o
whole (Distinct n) = distinct_level
whole (Between k) = predicate_level
whole (Bounded k) = predicate_level
whole (Like k) = predicate_level
whole (Arguments w n) = atom_level
whole (Extract w) = atom_level
whole (From w) = atom_level
whole (For w) = atom_level
whole (Place w) = atom_level
whole (Trim d) = atom_level
whole (TrimFrom d) = atom_level
whole (TrimBy d) = atom_level
whole (Items n k) = predicate_level
whole (Case p n k) = atom_level

abbrev pub closing : Frame → Step
closing Open = called call.Not
closing (Cast p) = called call.Not
closing Not = called call.Not
closing Minus = called call.Minus
closing Plus = called call.Plus
closing BitNot = called call.BitNot
closing (Join o) = called (call.Join o)
closing (Distinct n) = called (call.Distinct n)
closing (Between k) = called (call.Between k)
closing (Bounded k) = called (call.Between k)
closing (Like k) = called (call.Like k)
closing (Arguments w n) = called call.Not
closing (Extract w) = called call.Not
closing (From w) = called call.Not
closing (For w) = called call.Not
closing (Place w) = called call.Not
closing (Trim d) = called call.Not
closing (TrimFrom d) = called call.Not
closing (TrimBy d) = called call.Not
closing (Items n k) = called call.Not
closing (Case p n k) = called call.Not
