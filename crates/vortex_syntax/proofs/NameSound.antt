-- What a token after a bare name does to what was read.
use Rattle.std.proofs.Common.{◌≡◌, ℕ, zero, Bool, true, false, List, [], ◌∷◌, ◌++◌, Some, refl, ap, sym, ◌∙◌}
use Rattle.std.proofs.Common.{append_assoc, subst, cond, ◌&&◌, None}
use Rattle.std.proofs.lemmas.Bool.{and_parts}
use Rattle.std.proofs.lemmas.List.{append-nil}
use Rattle.vortex_syntax.specs.declared.token.Sign.TheVariants as sign
use Rattle.vortex_syntax.specs.Frames.{Frame}
use Rattle.vortex_syntax.specs.Frames as frame
use Rattle.vortex_syntax.specs.declared.frame.Mode.TheVariants as mode
use Rattle.vortex_syntax.specs.Tokens.{Token, name, number, text, sign}
use Rattle.vortex_syntax.specs.Syntax as tree
use Rattle.vortex_syntax.specs.Levels.{atom_level, takes_word, is_interval, is_unit, are_digits}
use Rattle.vortex_syntax.specs.Levels.{is_count}
use Rattle.vortex_syntax.specs.Postfix.{Step, operand, typed, last_name}
use Rattle.vortex_syntax.specs.Reading.{State, state, call_of, open_call, literal_of, text_named}
use Rattle.vortex_syntax.specs.Reading.{word_of, waits_word, word_from, behind, after_name}
use Rattle.vortex_syntax.specs.Reading.{counted, titled, number_of, number_named, unit_expected}
use Rattle.vortex_syntax.proofs.Tables.{top_atom, atom_ceiling}
use Rattle.vortex_syntax.proofs.LastName.{name_last}
use Rattle.vortex_syntax.specs.Syntax.{Arguments}
use Rattle.vortex_syntax.specs.Spelling.{function_tokens}
use Rattle.vortex_syntax.specs.Postfix.{argument_count}
use Rattle.vortex_syntax.proofs.Held.{Held, calling, extracting, written, held, all_held}
use Rattle.vortex_syntax.proofs.Held.{all_written}
use Rattle.vortex_syntax.proofs.Before.{Behind, pushed, HasOperand, Holds, HoldsIn, along, more}
use Rattle.vortex_syntax.proofs.Before.{chosen}
use Rattle.vortex_syntax.proofs.Before.{operand_is, as_tokens, popped, call_is}
use Rattle.vortex_syntax.proofs.OperandsSound.{none_are}
use Rattle.vortex_syntax.proofs.SignsSound.{behind_sound}

pub named_operand : (fs : List Frame) (out : List Step) (before : List Token)
    → Holds mode.Named fs out before → HasOperand atom_level fs out before []
named_operand fs out before h =
    operand_is (tree.operand (name h.0)) fs out before refl (top_atom fs) (atom_ceiling fs) h.1

-- the steps before the name
named_last : (w : List ℕ) (fs : List Frame) (out : List Step) (before ts : List Token)
    → (b : Behind fs out before (operand (name w) ∷ []) ts) → last_name out ≡ Some (all_held b.hs, w)
named_last w fs out before ts b = ap last_name b.steps ∙ name_last (all_held b.hs) w

-- what was read before the name, and a call of it
call_begun : (w : List ℕ) (fs : List Frame) (out : List Step) (before : List Token)
    → (b : Behind fs out before (operand (name w) ∷ []) (name w ∷ []))
    → Behind (frame.Arguments w 0 ∷ fs) (all_held b.hs) (before ++ (sign sign.Open ∷ [])) [] []
call_begun w fs out before b =
    pushed (calling true w tree.no_arguments) fs (all_held b.hs)
    (before ++ (sign sign.Open ∷ []))
    (record {
      hs = b.hs;
      frames = b.frames;
      steps = sym (append-nil (all_held b.hs));
      tokens =
          ap (λ ts. ts ++ (sign sign.Open ∷ [])) b.tokens
          ∙ append_assoc (all_written b.hs) (name w ∷ []) (sign sign.Open ∷ []);
      nested = b.nested;
    }) (tt, tt) (top_atom fs)

open_sound : (fs : List Frame) (out : List Step) (s : State) (before : List Token)
    → open_call fs out ≡ Some s → Holds mode.Named fs out before
    → HoldsIn s (before ++ (sign sign.Open ∷ []))
open_sound fs out s before e h =
    along (state mode.Want (frame.Arguments h.0 0 ∷ fs) (all_held h.1.hs)) s
    (before ++ (sign sign.Open ∷ []))
    (sym (ap (call_of fs) (named_last h.0 fs out before _ h.1)) ∙ e)
    (call_begun h.0 fs out before h.1)

titled_is : (w bs : List ℕ) → (is_interval w && are_digits bs) ≡ false → (fs : List Frame)
    (out : List Step) (before : List Token)
    → (b : Behind fs out before (operand (name w) ∷ []) (name w ∷ []))
    → HasOperand atom_level fs (all_held b.hs ++ (operand (text bs) ∷ typed w false ∷ []))
    (before ++ (text bs ∷ [])) []
titled_is w bs e fs out before b =
    operand_is (tree.titled w bs) fs (all_held b.hs ++ (operand (text bs) ∷ typed w false ∷ []))
    (before ++ (text bs ∷ [])) e (top_atom fs) (atom_ceiling fs)
    (record {
      hs = b.hs;
      frames = b.frames;
      steps = refl;
      tokens =
          ap (λ ts. ts ++ (text bs ∷ [])) b.tokens
          ∙ append_assoc (all_written b.hs) (name w ∷ []) (text bs ∷ []);
      nested = b.nested;
    })

-- digits after `interval`
count_held : (w : List ℕ) (t : Token) (fs : List Frame) (out : List Step) (before : List Token)
    → (b : Behind fs out before (operand (name w) ∷ []) (name w ∷ [])) → is_interval w ≡ true
    → is_count t ≡ true
    → Holds mode.Unit fs (all_held b.hs ++ (operand t ∷ [])) (before ++ (t ∷ []))
count_held w t fs out before b h k = (
  w,
  t,
  h,
  k,
  record {
    hs = b.hs;
    frames = b.frames;
    steps = refl;
    tokens =
        ap (λ ts. ts ++ (t ∷ [])) b.tokens
        ∙ append_assoc (all_written b.hs) (name w ∷ []) (t ∷ []);
    nested = b.nested;
  },
)

text_if : (w bs : List ℕ) (fs : List Frame) (out : List Step) (s : State) (before : List Token)
    → (b : Behind fs out before (operand (name w) ∷ []) (name w ∷ [])) → (v : Bool)
    → (is_interval w && are_digits bs) ≡ v
    → cond v (counted fs (all_held b.hs) (text bs)) (titled fs (all_held b.hs) w bs) ≡ Some s
    → HoldsIn s (before ++ (text bs ∷ []))
text_if w bs fs out s before b true k e =
    along (state mode.Unit fs (all_held b.hs ++ (operand (text bs) ∷ []))) s
    (before ++ (text bs ∷ [])) e (count_held w (text bs) fs out before b
    (and_parts (is_interval w) (are_digits bs) k).0 (and_parts (is_interval w) (are_digits bs) k).1)
text_if w bs fs out s before b false k e =
    along
    (state (mode.Have atom_level) fs
    (all_held b.hs ++ (operand (text bs) ∷ typed w false ∷ []))) s (before ++ (text bs ∷ [])) e
    (titled_is w bs k fs out before b)

text_sound : (fs : List Frame) (out : List Step) (bs : List ℕ) (s : State) (before : List Token)
    → text_named fs out bs ≡ Some s → Holds mode.Named fs out before
    → HoldsIn s (before ++ (text bs ∷ []))
text_sound fs out bs s before e h =
    text_if h.0 bs fs out s before h.1 (is_interval h.0 && are_digits bs) refl
    (sym (ap (literal_of fs bs) (named_last h.0 fs out before _ h.1)) ∙ e)

number_if : (w ds : List ℕ) (fs : List Frame) (out : List Step) (s : State) (before : List Token)
    → (b : Behind fs out before (operand (name w) ∷ []) (name w ∷ [])) → (v : Bool)
    → (is_interval w && are_digits ds) ≡ v
    → cond v (counted fs (all_held b.hs) (number ds)) None ≡ Some s
    → HoldsIn s (before ++ (number ds ∷ []))
number_if w ds fs out s before b true k e =
    along (state mode.Unit fs (all_held b.hs ++ (operand (number ds) ∷ []))) s
    (before ++ (number ds ∷ [])) e (count_held w (number ds) fs out before b
    (and_parts (is_interval w) (are_digits ds) k).0 (and_parts (is_interval w) (are_digits ds) k).1)
number_if w ds fs out s before b false k e = absurd cc

number_sound : (fs : List Frame) (out : List Step) (ds : List ℕ) (s : State) (before : List Token)
    → number_named fs out ds ≡ Some s → Holds mode.Named fs out before
    → HoldsIn s (before ++ (number ds ∷ []))
number_sound fs out ds s before e h =
    number_if h.0 ds fs out s before h.1 (is_interval h.0 && are_digits ds) refl
    (sym (ap (number_of fs ds) (named_last h.0 fs out before _ h.1)) ∙ e)

-- the unit
measured_is : (w : List ℕ) (t : Token) (u : List ℕ) → is_interval w ≡ true → is_count t ≡ true
    → is_unit u ≡ true → (fs : List Frame) (out : List Step) (before : List Token)
    → Behind fs out before (operand t ∷ []) (name w ∷ t ∷ [])
    → HasOperand atom_level fs (out ++ (typed u false ∷ [])) (before ++ (name u ∷ [])) []
measured_is w t u h k j fs out before b =
    operand_is (tree.measured w t u) fs (out ++ (typed u false ∷ [])) (before ++ (name u ∷ []))
    (h, k, j) (top_atom fs) (atom_ceiling fs)
    (more fs out before (operand t ∷ []) (name w ∷ t ∷ []) (typed u false ∷ []) (name u ∷ []) b)

pub unit_sound : (fs : List Frame) (out : List Step) (t : Token) (s : State) (before : List Token)
    → unit_expected fs out t ≡ Some s → Holds mode.Unit fs out before
    → HoldsIn s (before ++ (t ∷ []))
unit_sound fs out (name u) s before e h =
    let after = state (mode.Have atom_level) fs (out ++ (typed u false ∷ [])) in
    let c = chosen (is_unit u) after s e in
    along after s (before ++ (name u ∷ [])) c.1
    (measured_is h.0 h.1 u h.2 h.3 c.0 fs out before h.4)
unit_sound fs out t s before e h = absurd cc

-- the word in a call, with no argument before it
word_in : (p : Bool) (f w : List ℕ) (args : Arguments) (h : Held) (fs : List Frame)
    (out : List Step) (before : List Token) → h ≡ calling p f args → 0 ≡ argument_count args
    → Behind fs out before (held h ++ (operand (name w) ∷ [])) (written h ++ (name w ∷ []))
    → Behind fs out before (operand (name w) ∷ []) (function_tokens p f ++ (name w ∷ []))
word_in p f w args h fs out before e k r =
    let is : h ≡ calling p f tree.no_arguments = e ∙ ap (calling p f) (none_are args k) in
    as_tokens fs out before (operand (name w) ∷ [])
    ((function_tokens p f ++ []) ++ (name w ∷ [])) (function_tokens p f ++ (name w ∷ []))
    (ap (λ ts. ts ++ (name w ∷ [])) (append-nil (function_tokens p f)))
    (subst (λ (v : Held).
    Behind fs out before (held v ++ (operand (name w) ∷ [])) (written v ++ (name w ∷ []))) is r)

extract_begun : (p : Bool) (f w : List ℕ) → takes_word f ≡ true → (fs : List Frame)
    (out : List Step) (before : List Token)
    → (b : Behind fs out before (operand (name w) ∷ []) (function_tokens p f ++ (name w ∷ [])))
    → Behind (frame.Extract f ∷ fs) (all_held b.hs ++ (operand (text w) ∷ []))
    (before ++ (sign sign.From ∷ [])) [] []
extract_begun p f w is fs out before b =
    let from : List Token = sign sign.From ∷ [] in
    pushed (extracting p f w) fs (all_held b.hs ++ (operand (text w) ∷ [])) (before ++ from)
    (record {
      hs = b.hs;
      frames = b.frames;
      steps = refl;
      tokens =
          ap (λ ts. ts ++ from) b.tokens
          ∙ append_assoc (all_written b.hs) (function_tokens p f ++ (name w ∷ [])) from
          ∙ ap (λ ts. all_written b.hs ++ ts)
          (append_assoc (function_tokens p f) (name w ∷ []) from);
      nested = b.nested;
    }) is (top_atom fs)

word_sound : (fs : List Frame) (out : List Step) (s : State) (before : List Token)
    → waits_word fs ≡ true → word_from fs out ≡ Some s → Holds mode.Named fs out before
    → HoldsIn s (before ++ (sign sign.From ∷ []))
word_sound (frame.Arguments f zero ∷ fs) out s before is e h =
    let w = h.0 in
    let r = popped (frame.Arguments f 0) fs out before (operand (name w) ∷ []) (name w ∷ []) h.1 in
    let i = call_is f 0 r.h r.is in
    let b = word_in i.1 f w i.0 r.h fs out before i.2 i.3 r.behind in
    let after = state mode.Want (frame.Extract f ∷ fs) (all_held b.hs ++ (operand (text w) ∷ [])) in
    let taken = ap (word_of f fs) (named_last w fs out before _ b) in
    along after s (before ++ (sign sign.From ∷ [])) (sym taken ∙ e)
    (extract_begun i.1 f w is fs out before b)
word_sound fs out s before is e h = absurd cc

from_if : (fs : List Frame) (out : List Step) (s : State) (before : List Token) (b : Bool)
    → waits_word fs ≡ b
    → cond b (word_from fs out) (behind atom_level fs out (sign sign.From)) ≡ Some s
    → Holds mode.Named fs out before → HoldsIn s (before ++ (sign sign.From ∷ []))
from_if fs out s before true is e h = word_sound fs out s before is e h
from_if fs out s before false is e h =
    behind_sound atom_level fs out (sign sign.From) s before e (named_operand fs out before h)

pub named_sound : (fs : List Frame) (out : List Step) (t : Token) (s : State)
    (before : List Token) → after_name fs out t ≡ Some s → Holds mode.Named fs out before
    → HoldsIn s (before ++ (t ∷ []))
named_sound fs out (sign sign.Open) s before e h = open_sound fs out s before e h
named_sound fs out (sign sign.From) s before e h =
    from_if fs out s before (waits_word fs) refl e h
named_sound fs out (text bs) s before e h = text_sound fs out bs s before e h
named_sound fs out (number ds) s before e h = number_sound fs out ds s before e h
named_sound fs out t s before e h =
    behind_sound atom_level fs out t s before e (named_operand fs out before h)
