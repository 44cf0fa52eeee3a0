-- What was read before a token: pending frames with their operands, and an operand after them.
use Rattle.std.proofs.Common.{◌≡◌, ℕ, ◌≤◌, Bool, true, false, nat_le, ◌&&◌, cond, List, [], ◌∷◌}
use Rattle.std.proofs.Common.{◌++◌, Option, Some, None, refl, ap, sym, subst, ◌∙◌, append_assoc}
use Rattle.std.proofs.Common.{arith}
use Rattle.std.proofs.lemmas.List.{append-nil}
use Rattle.std.proofs.lemmas.Bool.Decides.{nat_tests}
use Rattle.vortex_syntax.specs.declared.step.BetweenKind.{BetweenKind}
use Rattle.vortex_syntax.specs.declared.step.LikeKind.{LikeKind}
use Rattle.vortex_syntax.specs.declared.token.Sign.TheVariants as sign
use Rattle.vortex_syntax.specs.Frames.{Frame, top_hole, top_ceiling, whole}
use Rattle.vortex_syntax.specs.Frames as frame
use Rattle.vortex_syntax.specs.declared.frame.Mode.{Mode}
use Rattle.vortex_syntax.specs.declared.frame.Mode.TheVariants as mode
use Rattle.vortex_syntax.specs.Tokens.{Token, name, sign}
use Rattle.vortex_syntax.specs.Syntax.{Syntax, Arguments}
use Rattle.vortex_syntax.specs.Levels.{level, Fits, distinct_level, is_level, predicate_level}
use Rattle.vortex_syntax.specs.Levels.{concat_level, atom_level, typed_level, literal_level}
use Rattle.vortex_syntax.specs.Levels.{is_interval, is_count}
use Rattle.vortex_syntax.specs.Spelling.{cast_sign}
use Rattle.vortex_syntax.specs.Spelling.{spelling, type_token, with_not, is_tokens, like_sign}
use Rattle.vortex_syntax.specs.Postfix.{Step, operand, cast, argument_count, postfix, side_of}
use Rattle.vortex_syntax.specs.Reading.{State, Operand, settled}
use Rattle.vortex_syntax.proofs.Held.{Held, opened, casting, lower, matching, calling, listing}
use Rattle.vortex_syntax.proofs.Held.{extracting, parting, limiting, placing, siding, trimming}
use Rattle.vortex_syntax.proofs.Held.{trimming_by}
use Rattle.vortex_syntax.specs.declared.token.TrimSide.{TrimSide}
use Rattle.vortex_syntax.proofs.Held.{frame_of, written, held, IsSound, frames_of, all_written}
use Rattle.vortex_syntax.proofs.Held.{all_held, Nested, Settles, settled_sound}

-- what was read before: pending frames, then these steps and tokens
pub record Behind (fs : List Frame) (out : List Step) (before : List Token) (xs : List Step)
    (ts : List Token) : Type 0 where
  pub hs : List Held
  pub frames : fs ≡ frames_of hs
  pub steps : out ≡ all_held hs ++ xs
  pub tokens : before ≡ all_written hs ++ ts
  pub nested : Nested hs

pub more : (fs : List Frame) (out : List Step) (before : List Token) (xs : List Step)
    (ts : List Token) (ys : List Step) (us : List Token) → Behind fs out before xs ts
    → Behind fs (out ++ ys) (before ++ us) (xs ++ ys) (ts ++ us)
more fs out before xs ts ys us b = record {
  hs = b.hs;
  frames = b.frames;
  steps = ap (λ zs. zs ++ ys) b.steps ∙ append_assoc (all_held b.hs) xs ys;
  tokens = ap (λ zs. zs ++ us) b.tokens ∙ append_assoc (all_written b.hs) ts us;
  nested = b.nested;
}

pub more_tokens : (fs : List Frame) (out : List Step) (before : List Token) (xs : List Step)
    (ts us : List Token) → Behind fs out before xs ts → Behind fs out (before ++ us) xs (ts ++ us)
more_tokens fs out before xs ts us b = record {
  hs = b.hs;
  frames = b.frames;
  steps = b.steps;
  tokens = ap (λ zs. zs ++ us) b.tokens ∙ append_assoc (all_written b.hs) ts us;
  nested = b.nested;
}

pub as_tokens : (fs : List Frame) (out : List Step) (before : List Token) (xs : List Step)
    (ts us : List Token) → ts ≡ us → Behind fs out before xs ts → Behind fs out before xs us
as_tokens fs out before xs ts us e b = subst (λ (zs : List Token). Behind fs out before xs zs) e b

pub as_steps : (fs : List Frame) (out : List Step) (before : List Token) (xs ys : List Step)
    (ts : List Token) → xs ≡ ys → Behind fs out before xs ts → Behind fs out before ys ts
as_steps fs out before xs ys ts e b = subst (λ (zs : List Step). Behind fs out before zs ts) e b

pub pushed : (h : Held) (fs : List Frame) (out : List Step) (before : List Token)
    → Behind fs out before (held h) (written h) → IsSound h → top_hole fs ≤ whole (frame_of h)
    → Behind (frame_of h ∷ fs) out before [] []
pushed h fs out before b s place = record {
  hs = h ∷ b.hs;
  frames = ap (λ gs. frame_of h ∷ gs) b.frames;
  steps = b.steps ∙ sym (append-nil (all_held b.hs ++ held h));
  tokens = b.tokens ∙ sym (append-nil (all_written b.hs ++ written h));
  nested = (
    s,
    subst (λ (gs : List Frame). top_hole gs ≤ whole (frame_of h)) b.frames place,
    b.nested,
  );
}

-- the last frame with its operands
pub record Popped (f : Frame) (fs : List Frame) (out : List Step) (before : List Token)
    (xs : List Step) (ts : List Token) : Type 0 where
  pub h : Held
  pub is : f ≡ frame_of h
  pub sound : IsSound h
  pub place : top_hole fs ≤ whole f
  pub behind : Behind fs out before (held h ++ xs) (written h ++ ts)

pub head_frame : List Frame → Frame
head_frame [] = frame.Open
head_frame (f ∷ fs) = f

pub rest_frames : List Frame → List Frame
rest_frames [] = []
rest_frames (f ∷ fs) = fs

pub popped_of : (f : Frame) (fs : List Frame) (out : List Step) (before : List Token)
    (xs : List Step) (ts : List Token) (hs : List Held) → f ∷ fs ≡ frames_of hs
    → out ≡ all_held hs ++ xs → before ≡ all_written hs ++ ts → Nested hs
    → Popped f fs out before xs ts
unfolding head_frame rest_frames
popped_of f fs out before xs ts [] e k j n = absurd cc
popped_of f fs out before xs ts (h ∷ hs) e k j n =
    let is : f ≡ frame_of h = ap head_frame e in
    let rest : fs ≡ frames_of hs = ap rest_frames e in
    record {
      h = h;
      is = is;
      sound = n.0;
      place = subst (λ (g : Frame). top_hole fs ≤ whole g) (sym is)
          (subst (λ (gs : List Frame). top_hole gs ≤ whole (frame_of h)) (sym rest) n.1);
      behind = record {
        hs = hs;
        frames = rest;
        steps = k ∙ append_assoc (all_held hs) (held h) xs;
        tokens = j ∙ append_assoc (all_written hs) (written h) ts;
        nested = n.2;
      };
    }

pub popped : (f : Frame) (fs : List Frame) (out : List Step) (before : List Token) (xs : List Step)
    (ts : List Token) → Behind (f ∷ fs) out before xs ts → Popped f fs out before xs ts
popped f fs out before xs ts b =
    popped_of f fs out before xs ts b.hs b.frames b.steps b.tokens b.nested

pub open_is : (h : Held) → frame.Open ≡ frame_of h → h ≡ opened
open_is opened e = refl
open_is h e = absurd cc

pub cast_mark : (p q : Bool) → frame.Cast p ≡ frame.Cast q → p ≡ q
cast_mark p q e = cc

pub cast_is : (p : Bool) (h : Held) → frame.Cast p ≡ frame_of h → h ≡ casting p
cast_is p (casting q) e = ap casting (sym (cast_mark p q e))
cast_is p h e = absurd cc

pub lower_mark : (k j : BetweenKind) → frame.Between k ≡ frame.Between j → k ≡ j
lower_mark k j e = cc

pub lower_is : (k : BetweenKind) (h : Held) → frame.Between k ≡ frame_of h
    → (a : Syntax) × (h ≡ lower k a)
lower_is k (lower j a) e = (a, ap (λ v. lower v a) (sym (lower_mark k j e)))
lower_is k h e = absurd cc

pub like_mark : (k j : LikeKind) → frame.Like k ≡ frame.Like j → k ≡ j
like_mark k j e = cc

pub like_is : (k : LikeKind) (h : Held) → frame.Like k ≡ frame_of h
    → (a : Syntax) × (h ≡ matching k a)
like_is k (matching j a) e = (a, ap (λ v. matching v a) (sym (like_mark k j e)))
like_is k h e = absurd cc

pub called_name : (w v : List ℕ) (n m : ℕ) → frame.Arguments w n ≡ frame.Arguments v m → w ≡ v
called_name w v n m e = cc

pub called_count : (w v : List ℕ) (n m : ℕ) → frame.Arguments w n ≡ frame.Arguments v m → n ≡ m
called_count w v n m e = cc

pub call_is : (w : List ℕ) (n : ℕ) (h : Held) → frame.Arguments w n ≡ frame_of h
    → (args : Arguments) × (p : Bool) × (h ≡ calling p w args) × (n ≡ argument_count args)
call_is w n (calling p v args) e = (
  args,
  p,
  ap (λ u. calling p u args) (sym (called_name w v n (argument_count args) e)),
  called_count w v n (argument_count args) e,
)
call_is w n h e = absurd cc

pub extract_name : (f g : List ℕ) → frame.Extract f ≡ frame.Extract g → f ≡ g
extract_name f g e = cc

pub extract_is : (f : List ℕ) (h : Held) → frame.Extract f ≡ frame_of h
    → (p : Bool) × (w : List ℕ) × (h ≡ extracting p f w)
extract_is f (extracting p g w) e = (p, w, ap (λ v. extracting p v w) (sym (extract_name f g e)))
extract_is f h e = absurd cc

pub from_name : (f g : List ℕ) → frame.From f ≡ frame.From g → f ≡ g
from_name f g e = cc

pub part_is : (f : List ℕ) (h : Held) → frame.From f ≡ frame_of h
    → (p : Bool) × (s : Syntax) × (h ≡ parting p f s)
part_is f (parting p g s) e = (p, s, ap (λ v. parting p v s) (sym (from_name f g e)))
part_is f h e = absurd cc

pub for_name : (f g : List ℕ) → frame.For f ≡ frame.For g → f ≡ g
for_name f g e = cc

pub limit_is : (f : List ℕ) (h : Held) → frame.For f ≡ frame_of h
    → (p : Bool) × (s : Syntax) × (a : Syntax) × (w : List ℕ) × (h ≡ limiting p f s a w)
limit_is f (limiting p g s a w) e =
    (p, s, a, w, ap (λ v. limiting p v s a w) (sym (for_name f g e)))
limit_is f h e = absurd cc

pub place_name : (f g : List ℕ) → frame.Place f ≡ frame.Place g → f ≡ g
place_name f g e = cc

pub place_is : (f : List ℕ) (h : Held) → frame.Place f ≡ frame_of h
    → (p : Bool) × (a : Syntax) × (h ≡ placing p f a)
place_is f (placing p g a) e = (p, a, ap (λ v. placing p v a) (sym (place_name f g e)))
place_is f h e = absurd cc

pub side_mark : (d e : TrimSide) → frame.Trim d ≡ frame.Trim e → d ≡ e
side_mark d e k = cc

pub side_is : (d : TrimSide) (h : Held) → frame.Trim d ≡ frame_of h
    → (p : Bool) × (f : List ℕ) × (h ≡ siding p f d)
side_is d (siding p f e) k = (p, f, ap (λ v. siding p f v) (sym (side_mark d e k)))
side_is d h k = absurd cc

pub trim_mark : (d e : TrimSide) → frame.TrimFrom d ≡ frame.TrimFrom e → d ≡ e
trim_mark d e k = cc

pub trim_is : (d : TrimSide) (h : Held) → frame.TrimFrom d ≡ frame_of h
    → (p : Bool) × (f : List ℕ) × (h ≡ trimming p f d)
trim_is d (trimming p f e) k = (p, f, ap (λ v. trimming p f v) (sym (trim_mark d e k)))
trim_is d h k = absurd cc

pub by_mark : (d e : TrimSide) → frame.TrimBy d ≡ frame.TrimBy e → d ≡ e
by_mark d e k = cc

pub by_is : (d : TrimSide) (h : Held) → frame.TrimBy d ≡ frame_of h
    → (p : Bool) × (f : List ℕ) × (o : Option TrimSide) × (c : Syntax) × (h ≡ trimming_by p f o c)
    × (d ≡ side_of o)
by_is d (trimming_by p f o c) k = (p, f, o, c, refl, by_mark d (side_of o) k)
by_is d h k = absurd cc

pub item_mark : (n m : Bool) (k i : ℕ) → frame.Items n k ≡ frame.Items m i → n ≡ m
item_mark n m k i e = cc

pub item_count : (n m : Bool) (k i : ℕ) → frame.Items n k ≡ frame.Items m i → k ≡ i
item_count n m k i e = cc

pub items_are : (n : Bool) (k : ℕ) (h : Held) → frame.Items n k ≡ frame_of h
    → (a : Syntax) × (args : Arguments) × (h ≡ listing n a args) × (k ≡ argument_count args)
items_are n k (listing m a args) e = (
  a,
  args,
  ap (λ v. listing v a args) (sym (item_mark n m k (argument_count args) e)),
  item_count n m k (argument_count args) e,
)
items_are n k h e = absurd cc

-- an operand after pending frames, then these tokens
pub record HasOperand (l : ℕ) (fs : List Frame) (out : List Step)
    (before ts : List Token) : Type 0 where
  pub tree : Syntax
  pub fits : Fits tree
  pub level : l ≡ level tree
  pub place : top_hole fs ≤ l
  pub under : l ≤ top_ceiling fs
  pub behind : Behind fs out before (postfix tree) (spelling tree ++ ts)

pub settled_operand : (p l : ℕ) (fs : List Frame) (out : List Step) (before ts : List Token)
    → HasOperand l fs out before ts
    → HasOperand (settled p l fs out).level (settled p l fs out).frames
    (settled p l fs out).steps before ts
settled_operand p l fs out before ts a =
    let b = a.behind in
    let canonical : settled p l fs out ≡ settled p (level a.tree) (frames_of b.hs)
    (all_held b.hs ++ postfix a.tree) =
    ap (λ m. settled p m fs out) a.level ∙ ap (λ gs. settled p (level a.tree) gs out) b.frames
    ∙ ap (λ xs. settled p (level a.tree) (frames_of b.hs) xs) b.steps in
    let s : Settles (settled p l fs out) (all_written b.hs ++ spelling a.tree) =
    subst (λ (v : Operand). Settles v (all_written b.hs ++ spelling a.tree)) (sym canonical)
    (settled_sound p b.hs a.tree b.nested a.fits
    (subst (λ (m : ℕ). top_hole (frames_of b.hs) ≤ m) a.level
    (subst (λ (gs : List Frame). top_hole gs ≤ l) b.frames a.place))
    (subst (λ (m : ℕ). m ≤ top_ceiling (frames_of b.hs)) a.level
    (subst (λ (gs : List Frame). l ≤ top_ceiling gs) b.frames a.under))) in
    record {
      tree = s.tree;
      fits = s.fits;
      level = s.level;
      place = s.place;
      under = s.under;
      behind = record {
        hs = s.hs;
        frames = s.frames;
        steps = s.steps;
        tokens =
            b.tokens ∙ sym (append_assoc (all_written b.hs) (spelling a.tree) ts)
            ∙ ap (λ us. us ++ ts) s.tokens
            ∙ append_assoc (all_written s.hs) (spelling s.tree) ts;
        nested = s.nested;
      };
    }

-- the invariant of a state, by the tokens before it
abbrev pub Holds : Mode → List Frame → List Step → List Token → Type 0
Holds mode.Want fs out before = Behind fs out before [] []
Holds mode.Signed fs out before = Behind fs out before [] (sign sign.Minus ∷ [])
Holds (mode.Have l) fs out before = HasOperand l fs out before []
Holds mode.Named fs out before =
    (w : List ℕ) × Behind fs out before (operand (name w) ∷ []) (name w ∷ [])
Holds mode.Unit fs out before =
    (w : List ℕ) × (t : Token) × (is_interval w ≡ true) × (is_count t ≡ true)
    × Behind fs out before (operand t ∷ []) (name w ∷ t ∷ [])
Holds mode.Typing fs out before = (l : ℕ) × HasOperand l fs out before (sign sign.Typed ∷ [])
    × (literal_level ≤ l)
Holds (mode.Converting l) fs out before =
    HasOperand l fs out before (sign sign.Typed ∷ []) × (atom_level ≤ l) × (l ≤ typed_level)
Holds (mode.Is n) fs out before =
    (l : ℕ) × HasOperand l fs out before (is_tokens n) × (is_level ≤ l) × (top_hole fs ≤ is_level)
Holds (mode.Distinct n) fs out before =
    (l : ℕ) × HasOperand l fs out before (is_tokens n ++ (sign sign.Distinct ∷ []))
    × (is_level ≤ l) × (top_hole fs ≤ distinct_level)
Holds (mode.Listing n) fs out before =
    (l : ℕ) × HasOperand l fs out before (with_not n sign.In) × (concat_level ≤ l)
    × (top_hole fs ≤ predicate_level)
Holds (mode.Negating l) fs out before =
    HasOperand l fs out before (sign sign.Not ∷ []) × (concat_level ≤ l)
    × (top_hole fs ≤ predicate_level)
Holds (mode.Casting p) fs out before = Behind fs out before [] (sign (cast_sign p) ∷ [])
Holds (mode.CastType p) fs out before =
    (a : Syntax) × Fits a × Behind fs out before (postfix a)
    (sign (cast_sign p) ∷ sign sign.Open ∷ (spelling a ++ (sign sign.As ∷ [])))
Holds mode.CastEnd fs out before =
    (a : Syntax) × (w : List ℕ) × (n : Bool) × (p : Bool) × Fits a
    × Behind fs out before (postfix a ++ (cast p w n ∷ []))
    (sign (cast_sign p) ∷ sign sign.Open ∷ (spelling a ++ (sign sign.As ∷ type_token w n ∷ [])))
Holds (mode.Escaping k) fs out before =
    (a : Syntax) × (p : Syntax) × (concat_level ≤ level a) × (concat_level ≤ level p) × Fits a
    × Fits p
    × (top_hole fs ≤ predicate_level)
    × Behind fs out before (postfix a ++ postfix p)
    (spelling a ++ (like_sign k ++ (spelling p ++ (sign sign.Escape ∷ []))))

abbrev pub HoldsIn : State → List Token → Type 0
HoldsIn s before = Holds s.mode s.frames s.steps before

pub some_is : (r s : State) → Some r ≡ Some s → r ≡ s
some_is r s e = cc

pub along : (r s : State) (before : List Token) → Some r ≡ Some s → HoldsIn r before
    → HoldsIn s before
along r s before e h = subst (λ (v : State). HoldsIn v before) (some_is r s e) h

-- the result where a test is true
pub both : (b c : Bool) → (b && c) ≡ true → (b ≡ true) × (c ≡ true)
both true true e = (refl, refl)
both true false e = absurd cc
both false c e = absurd cc

pub chosen : (b : Bool) (r s : State) → cond b (Some r) None ≡ Some s
    → (b ≡ true) × (Some r ≡ Some s)
chosen true r s e = (refl, e)
chosen false r s e = absurd cc

pub fits_below : (m n : ℕ) → nat_le m n ≡ true → m ≤ n
fits_below m n h = grind (arith, nat_tests)

pub operand_more : (l : ℕ) (fs : List Frame) (out : List Step) (before ts us : List Token)
    → HasOperand l fs out before ts → HasOperand l fs out (before ++ us) (ts ++ us)
operand_more l fs out before ts us a = record {
  tree = a.tree;
  fits = a.fits;
  level = a.level;
  place = a.place;
  under = a.under;
  behind = as_tokens fs out (before ++ us) (postfix a.tree) ((spelling a.tree ++ ts) ++ us)
      (spelling a.tree ++ (ts ++ us)) (append_assoc (spelling a.tree) ts us)
      (more_tokens fs out before (postfix a.tree) (spelling a.tree ++ ts) us a.behind);
}

-- a complete operand
pub operand_is : (t : Syntax) (fs : List Frame) (out : List Step) (before : List Token) → Fits t
    → top_hole fs ≤ level t → level t ≤ top_ceiling fs
    → Behind fs out before (postfix t) (spelling t)
    → HasOperand (level t) fs out before []
operand_is t fs out before f place under b = record {
  tree = t;
  fits = f;
  level = refl;
  place = place;
  under = under;
  behind = as_tokens fs out before (postfix t) (spelling t) (spelling t ++ [])
      (sym (append-nil (spelling t))) b;
}
