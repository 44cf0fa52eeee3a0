use Rattle.std.proofs.Common.{◌≡◌, ◌<◌, ℕ, take, length, true, Some, None}
use Rattle.std.specs.Prelude.{◌≢◌, slice_get}
use Rattle.std.specs.Vec.{vec_len, vec_capacity}
use Rattle.yurkije_columns.specs.declared.borrowed.BorrowedColumn.{BorrowedColumn}
use Rattle.yurkije_columns.specs.Kinds.{kind_numbered}
use Rattle.yurkije_columns.specs.Borrowed.{AllSay, is_read}
use Rattle.yurkije_columns.proofs.borrowed.arrow_columns.Given as goal

-- the columns so far, of which the kinds of those that are read are all some, and the place for the
-- others
abbrev pub invariant-loop-column : goal.invariant-loop-column
invariant-loop-column l = record {
  count : vec_len l.columns ≡ l.column;
  place : vec_capacity l.columns ≡ length l.borrowed;
  say : AllSay l.reads (take l.column l.borrowed) l.columns.items;
  known : (i : ℕ) → i < l.column → (c : BorrowedColumn) → slice_get l.borrowed i ≡ Some c
      → is_read l.reads i ≡ true → kind_numbered c.kind ≢ None;
}
