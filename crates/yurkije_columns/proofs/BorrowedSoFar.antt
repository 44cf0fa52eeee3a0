-- The columns that were lent so far, and one column more.
use Rattle.std.proofs.Common.{◌≡◌, ◌<◌, ◌+◌, ℕ, List, [], ◌∷◌, ◌++◌, length, take, get_or}
use Rattle.std.proofs.Common.{zero, suc, arith, subst, sym, ap, ◌∙◌, Bool, true, false, Option, Some, None}
use Rattle.std.specs.Prelude.{◌≢◌, slice_get}
use Rattle.std.proofs.lemmas.Option.{slice_get-get_or}
use borrow.Author.Count.{below_more}
use Rattle.vortex_arrow.specs.declared.column.ArrowColumn.{ArrowColumn}
use Rattle.yurkije_columns.specs.declared.borrowed.BorrowedColumn.{BorrowedColumn}
use Rattle.yurkije_columns.specs.Kinds.{kind_numbered}
use Rattle.yurkije_columns.specs.Borrowed.{SaysIfRead, AllSay, is_read}

pub all_say_more : (bs : List Bool) (cs : List BorrowedColumn) (os : List (Option ArrowColumn))
    (k j : ℕ) (d : BorrowedColumn) (o : Option ArrowColumn) (b : Bool) → j ≡ suc k
    → k < length cs → AllSay bs (take k cs) os → b ≡ is_read bs k
    → SaysIfRead b (get_or cs k d) o
    → AllSay bs (take j cs) (os ++ o ∷ [])
all_say_more bs cs os k j d o b next lt say read says =
    subst (λ (n : ℕ). AllSay bs (take n cs) (os ++ o ∷ [])) (sym next)
    (go bs cs os k lt say
    (subst (λ (x : Bool). SaysIfRead x (get_or cs k d) o) read says))
  where
    go : (ms : List Bool) (ds : List BorrowedColumn) (rest : List (Option ArrowColumn)) (l : ℕ)
        → l < length ds → AllSay ms (take l ds) rest → SaysIfRead (is_read ms l) (get_or ds l d) o
        → AllSay ms (take (suc l) ds) (rest ++ o ∷ [])
    go ms [] rest l below h s = absurd (omega (arith, below))
    go [] (c ∷ ds) [] zero below h s = (s, tt)
    go (m ∷ ms) (c ∷ ds) [] zero below h s = (s, tt)
    go [] (c ∷ ds) (r ∷ rest) zero below h s = absurd h
    go (m ∷ ms) (c ∷ ds) (r ∷ rest) zero below h s = absurd h
    go [] (c ∷ ds) [] (suc l) below h s = absurd h
    go (m ∷ ms) (c ∷ ds) [] (suc l) below h s = absurd h
    go [] (c ∷ ds) (r ∷ rest) (suc l) below h s =
        (h.0, go [] ds rest l (omega (arith, below)) h.1 s)
    go (m ∷ ms) (c ∷ ds) (r ∷ rest) (suc l) below h s =
        (h.0, go ms ds rest l (omega (arith, below)) h.1 s)

-- a column that says something has a kind, and so have those before it that are read
known_here : (b : Bool) (c d : BorrowedColumn) (o : Option ArrowColumn) → SaysIfRead b d o → d ≡ c
    → b ≡ true → kind_numbered c.kind ≡ None → ⊥
known_here false c d o says same read none = let both : false ≡ true = read in cc
known_here true c d None says same read none = absurd says
known_here true c d (Some a) says same read none =
    let some = says.numbered in
    let kinds : kind_numbered d.kind ≡ kind_numbered c.kind =
    ap (λ (e : BorrowedColumn). kind_numbered e.kind) same in
    absurd (cc)

pub known_more : (bs : List Bool) (cs : List BorrowedColumn) (k : ℕ) (d : BorrowedColumn)
    (o : Option ArrowColumn) (b : Bool) → k < length cs
    → ((i : ℕ) → i < k → (c : BorrowedColumn) → slice_get cs i ≡ Some c → is_read bs i ≡ true
    → kind_numbered c.kind ≢ None)
    → b ≡ is_read bs k → SaysIfRead b (get_or cs k d) o
    → (i : ℕ) → i < k + 1 → (c : BorrowedColumn) → slice_get cs i ≡ Some c → is_read bs i ≡ true
    → kind_numbered c.kind ≢ None
known_more bs cs k d o b lt known marked says =
    below_more
    (λ i. (c : BorrowedColumn) → slice_get cs i ≡ Some c → is_read bs i ≡ true
    → kind_numbered c.kind ≢ None)
    k known
    (λ c is read none.
    let there = slice_get-get_or cs k d lt in
    let same : get_or cs k d ≡ c = cc in
    known_here b c (get_or cs k d) o says same (marked ∙ read) none)
