-- Words and columns at their places.
use Rattle.std.proofs.Common.{◌≡◌, ◌<◌, ◌≤◌, ℕ, List, Bool, true, refl, sym, ap, ◌∙◌, length, get_or}
use Rattle.std.specs.Prelude.{Option, Some, None, String, string_bytes, option_map, slice_get, nat_eq}
use Rattle.std.specs.declared.alloc.Global.{Global}
use Rattle.std.specs.Cmp.Lexicographic.{pointwise, bytes_decides}
use Rattle.std.proofs.lemmas.Option.{slice_get_read, slice_get_past}
use Rattle.rowfn_index.specs.declared.head.IndexedColumn.{IndexedColumn}
use Rattle.rowfn_index.specs.Agreement.{IsNamed, IsAt, word_at}

word_there : (ws : List (String Global)) (k : ℕ) (w : String Global) → k < length ws
    → w ≡ get_or ws k w → word_at ws k ≡ Some (string_bytes w)
word_there ws k w lt here =
    ap (λ (o : Option (String Global)). option_map string_bytes o)
    (slice_get_read ws (length ws) k w refl lt here)

-- two words that were compared
pub same_words : (ws vs : List (String Global)) (k : ℕ) (w v : String Global) (p q : List ℕ)
    → k < length ws → w ≡ get_or ws k w → k < length vs → v ≡ get_or vs k v
    → p ≡ string_bytes w → q ≡ string_bytes v → pointwise nat_eq p q ≡ true
    → word_at ws k ≡ word_at vs k
same_words ws vs k w v p q in_ws is_w in_vs is_v is_p is_q same =
    word_there ws k w in_ws is_w
    ∙ (ap (λ (bs : List ℕ). Some bs) (sym is_p ∙ ((bytes_decides p q).0 same ∙ is_q))
    ∙ sym (word_there vs k v in_vs is_v))

-- no word at a place past the end of both
pub no_words : (ws vs : List (String Global)) (k : ℕ) → length ws ≤ k → length vs ≤ k
    → word_at ws k ≡ word_at vs k
no_words ws vs k past_ws past_vs =
    let shown : Option (String Global) → Option (List ℕ) = λ o. option_map string_bytes o in
    ap shown (slice_get_past ws k past_ws) ∙ sym (ap shown (slice_get_past vs k past_vs))

-- a column whose name was compared
pub is_named : (cs : List IndexedColumn) (k : ℕ) (c : IndexedColumn) (name shown : List ℕ)
    → k < length cs → c ≡ get_or cs k c → shown ≡ string_bytes c.name
    → pointwise nat_eq shown name ≡ true → IsNamed cs k name
is_named cs k c name shown lt here is same =
    record {
      column = c;
      found = slice_get_read cs (length cs) k c refl lt here;
      named = sym is ∙ (bytes_decides shown name).0 same;
    }

pub is_at : (cs : List IndexedColumn) (k : ℕ) (c : IndexedColumn) (place : ℕ) → k < length cs
    → c ≡ get_or cs k c → place ≡ c.place → IsAt cs k place
is_at cs k c place lt here is =
    record {
      column = c;
      found = slice_get_read cs (length cs) k c refl lt here;
      there = sym is;
    }
