-- Arguments and items are read as they are spelled.
use Rattle.std.proofs.Common.{◌≡◌, ℕ, suc, ◌<◌, ◌≤◌, Bool, true, false, List, [], ◌∷◌, ◌++◌}
use Rattle.std.proofs.Common.{refl, ap, sym, ◌∙◌, append_assoc, arith, lit<, lit≤, map, ◌||◌}
use Rattle.std.proofs.Common.{Option, Some, None}
use Rattle.std.specs.Prelude.{codes}
use Rattle.std.specs.Char.{to_ascii_lowercase}
use Rattle.std.specs.Str.{bytes_eq}
use Rattle.std.proofs.lemmas.Bool.{false≢true}
use Rattle.std.proofs.lemmas.Slice.Eq.{bytes_eq-Decides}
use Rattle.std.proofs.lemmas.List.{append-nil}
use Rattle.vortex_syntax.specs.declared.token.Sign.TheVariants as sign
use Rattle.vortex_syntax.specs.Frames.{Frame, hole, top_hole, ceiling, top_ceiling, guard, whole}
use Rattle.vortex_syntax.specs.Frames as frame
use Rattle.vortex_syntax.specs.Tokens.{Token, name, text, sign}
use Rattle.vortex_syntax.specs.Syntax as tree
use Rattle.vortex_syntax.specs.Syntax.{Syntax, Tested, Arguments, Branches}
use Rattle.vortex_syntax.specs.Levels.{sign_level, level, takes_word, takes_from, takes_in, is_for}
use Rattle.vortex_syntax.specs.Levels.{first_level, first_of, takes_side}
use Rattle.vortex_syntax.specs.declared.token.TrimSide.{TrimSide}
use Rattle.vortex_syntax.specs.Levels.{predicate_level, concat_level}
use Rattle.vortex_syntax.specs.Levels.{atom_level, literal_level}
use Rattle.vortex_syntax.specs.Spelling.{spelling, all_spelled}
use Rattle.vortex_syntax.specs.Spelling.{in_tokens, side_tokens}
use Rattle.vortex_syntax.specs.Spelling.{function_tokens}
use Rattle.vortex_syntax.specs.Postfix.{Step, operand, applied, listed, trimmed, side_of}
use Rattle.vortex_syntax.specs.Postfix.{argument_count, postfix, all_postfix}
use Rattle.vortex_syntax.proofs.Tables.{level_literal}
use Rattle.vortex_syntax.proofs.Tables.{ceiling_below}
use Rattle.vortex_syntax.proofs.Tables.{reach_at, unworded, taken_level, untaken_level}
use Rattle.vortex_syntax.proofs.Closes.{want, have, IsRead}
use Rattle.vortex_syntax.proofs.StepsRead.{step_function}
use Rattle.vortex_syntax.proofs.StepsRead.{step_nullary, step_comma, step_applied, step_in}
use Rattle.vortex_syntax.proofs.StepsRead.{step_item, step_listed, step_word, step_extracted}
use Rattle.vortex_syntax.proofs.StepsRead.{step_from, step_for, step_parted, step_parted_for}
use Rattle.vortex_syntax.proofs.StepsRead.{step_place, step_placed, step_side, step_side_from}
use Rattle.vortex_syntax.proofs.StepsRead.{step_by, step_by_from, step_trimmed, step_trimmed_by}

pub regrouped_2 : (out a : List Step) (x : Step) → (out ++ a) ++ (x ∷ []) ≡ out ++ (a ++ (x ∷ []))
regrouped_2 out a x = append_assoc out a (x ∷ [])

pub regrouped_3 : (out a b : List Step) (x : Step)
    → ((out ++ a) ++ b) ++ (x ∷ []) ≡ out ++ (a ++ (b ++ (x ∷ [])))
regrouped_3 out a b x = simp append_assoc

pub regrouped_4 : (out a b c : List Step) (x : Step)
    → (((out ++ a) ++ b) ++ c) ++ (x ∷ []) ≡ out ++ (a ++ (b ++ (c ++ (x ∷ []))))
regrouped_4 out a b c x = simp append_assoc

-- any tree may come where a frame looser than a minus sign waits
pub beneath : (a : Syntax) (fs : List Frame) (n : ℕ) → top_hole fs ≤ n → n < sign_level
    → level a ≤ top_ceiling fs
beneath a fs n h k = omega (arith, level_literal a, ceiling_below fs n h k)

-- a frame for each number of arguments or items before the next
pub record Separates (f : ℕ → Frame) : Type 0 where
  pub more : (n : ℕ) → hole (f (suc n)) ≡ 0
  pub all : (n : ℕ) → literal_level ≤ ceiling (f n)
  pub comma : (n l : ℕ) (fs : List Frame) (out : List Step) (ts : List Token)
      → have l (f n ∷ fs) out (sign sign.Comma ∷ ts) ≡ want (f (suc n) ∷ fs) out ts

arguments_separate : (w : List ℕ) → Separates (λ n. frame.Arguments w n)
arguments_separate w =
    record {
      more = λ n. refl;
      all = λ n. lit≤ tt;
      comma = λ n l fs out ts. step_comma w n l fs out ts;
    }

items_separate : (m : Bool) → Separates (λ n. frame.Items m n)
items_separate m =
    record {
      more = λ n. refl;
      all = λ n. lit≤ tt;
      comma = λ n l fs out ts. step_item m n l fs out ts;
    }

-- the first of some arguments binds as tightly as a frame requires
abbrev pub FirstWaits : Frame → Arguments → Type 0
FirstWaits g tree.no_arguments = Unit {0}
FirstWaits g (tree.argument args a) = hole g ≤ level (first_of args a)

earlier : (g : Frame) (args : Arguments) (a : Syntax) → hole g ≤ level (first_of args a)
    → FirstWaits g args
earlier g tree.no_arguments a h = tt
earlier g (tree.argument args b) a h = h

next_waits : (f : ℕ → Frame) → Separates f → (args : Arguments) (a : Syntax)
    → hole (f 0) ≤ level (first_of args a) → hole (f (argument_count args)) ≤ level a
next_waits f s tree.no_arguments a h = h
next_waits f s (tree.argument args b) a h = omega (arith, s.more (argument_count args))

-- arguments and their commas
abbrev pub AreRead : Arguments → Type 0
AreRead args = (f : ℕ → Frame) → Separates f → FirstWaits (f 0) args → (fs : List Frame)
    (out : List Step) (rest : List Token)
    → want (f 0 ∷ fs) out (all_spelled args ++ rest)
    ≡ want (f (argument_count args) ∷ fs) (out ++ all_postfix args) rest

pub read_no_arguments : AreRead tree.no_arguments
read_no_arguments = λ f s waits fs out rest.
    ap (λ xs. want (f 0 ∷ fs) xs rest) (sym (append-nil out))

pub read_argument : (args : Arguments) (a : Syntax) → AreRead args → IsRead a
    → AreRead (tree.argument args a)
read_argument args a ias ia = λ f s waits fs out rest.
    let n = argument_count args in
    ap (want (f 0 ∷ fs) out)
    (append_assoc (all_spelled args) (spelling a ++ (sign sign.Comma ∷ [])) rest
    ∙ ap (λ ts. all_spelled args ++ ts) (append_assoc (spelling a) (sign sign.Comma ∷ []) rest))
    ∙ ias f s (earlier (f 0) args a waits) fs out (spelling a ++ (sign sign.Comma ∷ rest))
    ∙ ia (f n ∷ fs) (out ++ all_postfix args) (sign sign.Comma ∷ rest) (next_waits f s args a waits)
    (omega (arith, level_literal a, s.all n)) (omega arith)
    ∙ s.comma n (level a) fs ((out ++ all_postfix args) ++ postfix a) rest
    ∙ ap (λ xs. want (f (suc n) ∷ fs) xs rest) (append_assoc out (all_postfix args) (postfix a))

pub read_nullary : (p : Bool) (w : List ℕ) → IsRead (tree.nullary p w)
read_nullary p w = λ fs out rest top under end.
    ap (want fs out) (append_assoc (function_tokens p w) (sign sign.Close ∷ []) rest)
    ∙ step_function p w fs out (sign sign.Close ∷ rest)
    ∙ step_nullary w fs out rest

pub read_applied : (p : Bool) (w : List ℕ) (args : Arguments) (a : Syntax)
    → first_level w ≤ level (first_of args a) → AreRead args → IsRead a
    → IsRead (tree.applied p w args a)
read_applied p w args a h ias ia = λ fs out rest top under end.
    let n = argument_count args in
    ap (want fs out)
    (append_assoc (function_tokens p w)
    (all_spelled args ++ (spelling a ++ (sign sign.Close ∷ []))) rest)
    ∙ step_function p w fs out
    ((all_spelled args ++ (spelling a ++ (sign sign.Close ∷ []))) ++ rest)
    ∙ ap (want (frame.Arguments w 0 ∷ fs) out)
    (append_assoc (all_spelled args) (spelling a ++ (sign sign.Close ∷ [])) rest
    ∙ ap (λ ts. all_spelled args ++ ts) (append_assoc (spelling a) (sign sign.Close ∷ []) rest))
    ∙ ias (λ m. frame.Arguments w m) (arguments_separate w) (earlier (frame.Arguments w 0) args a h)
    fs out
    (spelling a ++ (sign sign.Close ∷ rest))
    ∙ ia (frame.Arguments w n ∷ fs) (out ++ all_postfix args) (sign sign.Close ∷ rest)
    (next_waits (λ m. frame.Arguments w m) (arguments_separate w) args a h)
    (level_literal a) (omega arith)
    ∙ step_applied w n (level a) fs ((out ++ all_postfix args) ++ postfix a) rest
    ∙ ap (λ xs. have atom_level fs xs rest)
    (regrouped_3 out (all_postfix args) (postfix a) (applied w (suc n)))

pub read_extracted : (p : Bool) (f w : List ℕ) (a : Syntax) → takes_word f ≡ true → IsRead a
    → IsRead (tree.extracted p f w a)
read_extracted p f w a is ia = λ fs out rest top under end.
    let end : List Token = spelling a ++ (sign sign.Close ∷ []) in
    let word : List Step = operand (text w) ∷ [] in
    ap (want fs out) (append_assoc (function_tokens p f) (name w ∷ sign sign.From ∷ end) rest)
    ∙ step_function p f fs out (name w ∷ sign sign.From ∷ (end ++ rest))
    ∙ step_word f w is fs out (end ++ rest)
    ∙ ap (want (frame.Extract f ∷ fs) (out ++ word))
    (append_assoc (spelling a) (sign sign.Close ∷ []) rest)
    ∙ ia (frame.Extract f ∷ fs) (out ++ word) (sign sign.Close ∷ rest) (omega arith)
    (level_literal a) (omega arith)
    ∙ step_extracted f (level a) fs ((out ++ word) ++ postfix a) rest
    ∙ ap (λ xs. have atom_level fs xs rest) (regrouped_3 out word (postfix a) (applied f 2))

-- no function takes both a word and `from`
one_form : (f : List ℕ) → takes_from f ≡ true → takes_word f ≡ false
one_form f h = by (takes_word f) refl
  where
    by : (b : Bool) → takes_word f ≡ b → takes_word f ≡ false
    by false e = e
    by true e =
        let w = map to_ascii_lowercase f in
        let is : w ≡ codes "extract" = grind (arith, e, bytes_eq-Decides w (codes "extract")) in
        absurd (false≢true
        (sym (ap (λ v. bytes_eq v (codes "substring") || bytes_eq v (codes "substr")) is) ∙ h))

-- no function takes both `in` and `from`
one_word : (f : List ℕ) → takes_from f ≡ true → takes_in f ≡ false
one_word f h = by (takes_in f) refl
  where
    by : (b : Bool) → takes_in f ≡ b → takes_in f ≡ false
    by false e = e
    by true e =
        let w = map to_ascii_lowercase f in
        let is : w ≡ codes "position" = grind (arith, e, bytes_eq-Decides w (codes "position")) in
        absurd (false≢true
        (sym (ap (λ v. bytes_eq v (codes "substring") || bytes_eq v (codes "substr")) is) ∙ h))

word_reach : (f : List ℕ) → takes_from f ≡ true → (fs : List Frame) (ts : List Token)
    → reach_at (frame.Arguments f 0 ∷ fs) (sign sign.From ∷ ts) ≡ 0
word_reach f h fs ts = unworded (frame.Arguments f 0 ∷ fs) (sign sign.From ∷ ts) (one_form f h)

-- `from` and what follows, up to the next operand
from_read : (p : Bool) (f : List ℕ) (s : Syntax) → takes_from f ≡ true → IsRead s
    → (fs : List Frame) (out : List Step) (end : List Token)
    → want fs out (function_tokens p f ++ (spelling s ++ (sign sign.From ∷ end)))
    ≡ want (frame.From f ∷ fs) (out ++ postfix s) end
from_read p f s is ist fs out end =
    step_function p f fs out (spelling s ++ (sign sign.From ∷ end))
    ∙ ist (frame.Arguments f 0 ∷ fs) out (sign sign.From ∷ end)
    (omega (arith, untaken_level f (one_word f is))) (level_literal s)
    (omega (arith, word_reach f is fs end))
    ∙ step_from f is (level s) fs (out ++ postfix s) end

parted_written : (a b c rest : List Token)
    → (a ++ (b ++ (sign sign.From ∷ (c ++ (sign sign.Close ∷ []))))) ++ rest
    ≡ a ++ (b ++ (sign sign.From ∷ (c ++ (sign sign.Close ∷ rest))))
parted_written a b c rest = simp append_assoc

pub read_parted : (p : Bool) (f : List ℕ) (s a : Syntax) → takes_from f ≡ true → IsRead s
    → IsRead a → IsRead (tree.parted p f s a)
read_parted p f s a is ist ia = λ fs out rest top under end.
    let close : List Token = sign sign.Close ∷ rest in
    ap (want fs out) (parted_written (function_tokens p f) (spelling s) (spelling a) rest)
    ∙ from_read p f s is ist fs out (spelling a ++ close)
    ∙ ia (frame.From f ∷ fs) (out ++ postfix s) close (omega arith) (level_literal a)
    (omega arith)
    ∙ step_parted f (level a) fs ((out ++ postfix s) ++ postfix a) rest
    ∙ ap (λ xs. have atom_level fs xs rest) (regrouped_3 out (postfix s) (postfix a) (applied f 2))

parted_for_written : (w : List ℕ) (a b c d rest : List Token)
    → (a ++ (b ++ (sign sign.From ∷ (c ++ (name w ∷ (d ++ (sign sign.Close ∷ []))))))) ++ rest
    ≡ a ++ (b ++ (sign sign.From ∷ (c ++ (name w ∷ (d ++ (sign sign.Close ∷ rest))))))
parted_for_written w a b c d rest = simp append_assoc

pub read_parted_for : (p : Bool) (f : List ℕ) (s a : Syntax) (w : List ℕ) (b : Syntax)
    → takes_from f ≡ true → is_for w ≡ true → IsRead s → IsRead a → IsRead b
    → IsRead (tree.parted_for p f s a w b)
read_parted_for p f s a w b is word ist ia ib = λ fs out rest top under end.
    let close : List Token = sign sign.Close ∷ rest in
    let limit : List Token = name w ∷ (spelling b ++ close) in
    let first : List Step = out ++ postfix s in
    ap (want fs out)
    (parted_for_written w (function_tokens p f) (spelling s) (spelling a) (spelling b) rest)
    ∙ from_read p f s is ist fs out (spelling a ++ limit)
    ∙ ia (frame.From f ∷ fs) first limit (omega arith) (level_literal a) (omega arith)
    ∙ step_for f w word (level a) fs (first ++ postfix a) (spelling b ++ close)
    ∙ ib (frame.For f ∷ fs) (first ++ postfix a) close (omega arith) (level_literal b)
    (omega arith)
    ∙ step_parted_for f (level b) fs ((first ++ postfix a) ++ postfix b) rest
    ∙ ap (λ xs. have atom_level fs xs rest)
    (regrouped_4 out (postfix s) (postfix a) (postfix b) (applied f 3))

placed_written : (a b c rest : List Token)
    → (a ++ (b ++ (sign sign.In ∷ (c ++ (sign sign.Close ∷ []))))) ++ rest
    ≡ a ++ (b ++ (sign sign.In ∷ (c ++ (sign sign.Close ∷ rest))))
placed_written a b c rest = simp append_assoc

pub read_placed : (p : Bool) (f : List ℕ) (a b : Syntax) → takes_in f ≡ true
    → concat_level ≤ level a → IsRead a → IsRead b → IsRead (tree.placed p f a b)
read_placed p f a b is h ia ib = λ fs out rest top under end.
    let close : List Token = sign sign.Close ∷ rest in
    let last : List Token = spelling b ++ close in
    ap (want fs out) (placed_written (function_tokens p f) (spelling a) (spelling b) rest)
    ∙ step_function p f fs out (spelling a ++ (sign sign.In ∷ last))
    ∙ ia (frame.Arguments f 0 ∷ fs) out (sign sign.In ∷ last) (omega (arith, h, taken_level f is))
    (level_literal a) (omega (arith, h))
    ∙ step_place f is (level a) fs (out ++ postfix a) last
    ∙ ib (frame.Place f ∷ fs) (out ++ postfix a) close (omega arith) (level_literal b) (omega arith)
    ∙ step_placed f (level b) fs ((out ++ postfix a) ++ postfix b) rest
    ∙ ap (λ xs. have atom_level fs xs rest) (regrouped_3 out (postfix a) (postfix b) (applied f 2))

-- the function that takes a side takes neither a word, nor `in`, nor `from` before a place
side_word : (f : List ℕ) → takes_side f ≡ true → map to_ascii_lowercase f ≡ codes "trim"
side_word f h =
    let w = map to_ascii_lowercase f in
    grind (arith, h, bytes_eq-Decides w (codes "trim"))

wordless : (f : List ℕ) → takes_side f ≡ true → takes_word f ≡ false
wordless f h = ap (λ v. bytes_eq v (codes "extract")) (side_word f h)

placeless : (f : List ℕ) → takes_side f ≡ true → takes_in f ≡ false
placeless f h = ap (λ v. bytes_eq v (codes "position")) (side_word f h)

partless : (f : List ℕ) → takes_side f ≡ true → takes_from f ≡ false
partless f h =
    ap (λ v. bytes_eq v (codes "substring") || bytes_eq v (codes "substr")) (side_word f h)

side_reach : (f : List ℕ) → takes_side f ≡ true → (fs : List Frame) (ts : List Token)
    → reach_at (frame.Arguments f 0 ∷ fs) (sign sign.From ∷ ts) ≡ 0
side_reach f h fs ts = unworded (frame.Arguments f 0 ∷ fs) (sign sign.From ∷ ts) (wordless f h)

-- a side, if there is one, what a text is trimmed by and `from`
by_read : (f : List ℕ) (o : Option TrimSide) (c : Syntax) → takes_side f ≡ true → IsRead c
    → (fs : List Frame) (out : List Step) (end : List Token)
    → want (frame.Arguments f 0 ∷ fs) out
    (side_tokens o ++ (spelling c ++ (sign sign.From ∷ end)))
    ≡ want (frame.TrimBy (side_of o) ∷ fs) (out ++ postfix c) end
by_read f None c is ic fs out end =
    ic (frame.Arguments f 0 ∷ fs) out (sign sign.From ∷ end)
    (omega (arith, untaken_level f (placeless f is))) (level_literal c)
    (omega (arith, side_reach f is fs end))
    ∙ step_by_from f (partless f is) is (level c) fs (out ++ postfix c) end
by_read f (Some d) c is ic fs out end =
    step_side f is d fs out (spelling c ++ (sign sign.From ∷ end))
    ∙ ic (frame.Trim d ∷ fs) out (sign sign.From ∷ end) (omega arith) (level_literal c)
    (omega arith)
    ∙ step_by d (level c) fs (out ++ postfix c) end

trimmed_written : (d : TrimSide) (a b rest : List Token)
    → (a ++ (sign (sign.Side d) ∷ sign sign.From ∷ (b ++ (sign sign.Close ∷ [])))) ++ rest
    ≡ a ++ (sign (sign.Side d) ∷ sign sign.From ∷ (b ++ (sign sign.Close ∷ rest)))
trimmed_written d a b rest = simp append_assoc

pub read_trimmed : (p : Bool) (f : List ℕ) (d : TrimSide) (a : Syntax) → takes_side f ≡ true
    → IsRead a → IsRead (tree.trimmed p f d a)
read_trimmed p f d a is ia = λ fs out rest top under end.
    let close : List Token = sign sign.Close ∷ rest in
    let last : List Token = spelling a ++ close in
    ap (want fs out) (trimmed_written d (function_tokens p f) (spelling a) rest)
    ∙ step_function p f fs out (sign (sign.Side d) ∷ sign sign.From ∷ last)
    ∙ step_side f is d fs out (sign sign.From ∷ last)
    ∙ step_side_from d fs out last
    ∙ ia (frame.TrimFrom d ∷ fs) out close (omega arith) (level_literal a) (omega arith)
    ∙ step_trimmed d (level a) fs (out ++ postfix a) rest
    ∙ ap (λ xs. have atom_level fs xs rest) (regrouped_2 out (postfix a) (trimmed d false))

trimmed_by_written : (a b c d rest : List Token)
    → (a ++ (b ++ (c ++ (sign sign.From ∷ (d ++ (sign sign.Close ∷ [])))))) ++ rest
    ≡ a ++ (b ++ (c ++ (sign sign.From ∷ (d ++ (sign sign.Close ∷ rest)))))
trimmed_by_written a b c d rest = simp append_assoc

pub read_trimmed_by : (p : Bool) (f : List ℕ) (o : Option TrimSide) (c a : Syntax)
    → takes_side f ≡ true → IsRead c → IsRead a → IsRead (tree.trimmed_by p f o c a)
read_trimmed_by p f o c a is ic ia = λ fs out rest top under end.
    let close : List Token = sign sign.Close ∷ rest in
    let last : List Token = spelling a ++ close in
    let first : List Step = out ++ postfix c in
    ap (want fs out)
    (trimmed_by_written (function_tokens p f) (side_tokens o) (spelling c) (spelling a) rest)
    ∙ step_function p f fs out (side_tokens o ++ (spelling c ++ (sign sign.From ∷ last)))
    ∙ by_read f o c is ic fs out last
    ∙ ia (frame.TrimBy (side_of o) ∷ fs) first close (omega arith) (level_literal a) (omega arith)
    ∙ step_trimmed_by (side_of o) (level a) fs (first ++ postfix a) rest
    ∙ ap (λ xs. have atom_level fs xs rest)
    (regrouped_3 out (postfix c) (postfix a) (trimmed (side_of o) true))

reach_in : (n : Bool) (fs : List Frame) (ts : List Token)
    → reach_at fs (in_tokens n ++ ts) ≡ predicate_level
reach_in true fs ts = refl
reach_in false fs ts = refl

list_written : (a b c d rest : List Token)
    → (a ++ (b ++ (c ++ (d ++ (sign sign.Close ∷ []))))) ++ rest
    ≡ a ++ (b ++ (c ++ (d ++ (sign sign.Close ∷ rest))))
list_written a b c d rest = simp append_assoc

pub read_listed : (n : Bool) (a : Syntax) (args : Arguments) (b : Syntax) → concat_level ≤ level a
    → IsRead a → AreRead args → IsRead b → IsRead (tree.listed n a args b)
read_listed n a args b h ia ias ib = λ fs out rest top under end.
    let k = argument_count args in
    let close : List Token = sign sign.Close ∷ rest in
    let last : List Token = spelling b ++ close in
    let items : List Token = all_spelled args ++ last in
    let first : List Step = out ++ postfix a in
    ap (want fs out)
    (list_written (spelling a) (in_tokens n) (all_spelled args) (spelling b) rest)
    ∙ ia fs out (in_tokens n ++ items) (omega (arith, top, h))
    (beneath a fs predicate_level top (lit< tt)) (omega (arith, h, reach_in n fs items))
    ∙ step_in n (level a) fs first items h top
    ∙ ias (λ m. frame.Items n m) (items_separate n) (earlier (frame.Items n 0) args b (omega arith))
    fs first last
    ∙ ib (frame.Items n k ∷ fs) (first ++ all_postfix args) close (omega arith) (level_literal b)
    (omega arith)
    ∙ step_listed n k (level b) fs ((first ++ all_postfix args) ++ postfix b) rest
    ∙ ap (λ xs. have predicate_level fs xs rest)
    (regrouped_4 out (postfix a) (all_postfix args) (postfix b) (listed n (suc k)))
