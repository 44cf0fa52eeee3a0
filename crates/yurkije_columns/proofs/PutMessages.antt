-- A text that is put into bytes, and a NUL behind it.
use Rattle.std.proofs.Common.{◌≡◌, ℕ, ◌+◌, ◌<◌, ◌≤◌, List, ◌++◌, length, take, drop, set}
use Rattle.std.proofs.Common.{refl, sym, ap, ◌∙◌, arith}
use Rattle.std.specs.Str.{IsCharBoundary}
use Rattle.std.proofs.lemmas.List.{take-set, take-append-le, drop-append-le, take-append-drop}
use Rattle.std.proofs.lemmas.List.{get_or-set_same, drop-set-lt, length-append, length-take}
use Rattle.std.proofs.lemmas.List.{length-drop}
use Rattle.vortex_arrow.specs.Written.{SameBehind}
use Rattle.vortex_arrow.proofs.Parts.{drop_further}
use Rattle.yurkije_columns.specs.Messages.{IsMessage}

-- of no bytes none is written
pub no_message : (text old : List ℕ) → length old ≡ 0 → IsCharBoundary text 0
    → IsMessage text old old 0
no_message text old none boundary = record {
  room = omega arith;
  boundary = boundary;
  most = λ i below within. absurd (omega (arith, none, below, within));
  written = refl;
  ended = λ some. absurd (omega (arith, none, some));
  behind = refl;
}

module _ (text old part : List ℕ) (room n : ℕ) (long : length old ≡ room + 1)
    (kept : length part ≡ length (take room old)) (within : n ≤ length (take room old))
    (written : take n part ≡ take n text) (behind : SameBehind n (take room old) part) where
  abbrev all : List ℕ
  all = part ++ drop room old

  taken : length (take room old) ≡ room
  taken = omega (arith, length-take room old, long)

  whole : length all ≡ length old
  whole = omega (
    arith,
    length-append part (drop room old),
    length-drop room old,
    taken,
    kept,
    long,
  )

  same : drop n all ≡ drop n old
  same =
      drop-append-le n part (drop room old) (omega (arith, kept, within))
      ∙ ap (λ (bs : List ℕ). bs ++ drop room old) behind
      ∙ sym (drop-append-le n (take room old) (drop room old) within)
      ∙ ap (drop n) (take-append-drop room old)

  pub message_put : IsCharBoundary text n
      → ((i : ℕ) → n < i → i ≤ length (take room old) → ¬ IsCharBoundary text i)
      → IsMessage text old (set (part ++ drop room old) n 0) n
  message_put boundary most = record {
    room = omega (arith, within, taken, long);
    boundary = boundary;
    most = λ i below le. most i below (omega (arith, le, taken, long));
    written = take-set all n 0
        ∙ take-append-le n part (drop room old) (omega (arith, kept, within))
        ∙ written;
    ended = λ some. get_or-set_same all n 0 1 (omega (arith, whole, within, taken, long));
    behind = drop-set-lt (n + 1) all n 0 (omega arith)
        ∙ drop_further all old n (n + 1) (omega arith) same;
  }
