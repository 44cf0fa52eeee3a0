-- The order of two values, as SQL's ORDER BY with nulls first sorts them within nested values.
use Rattle.std.specs.Prelude.{ℕ}
use Rattle.std.specs.declared.cmp.Ordering.{Ordering}
use Rattle.std.specs.declared.cmp.Ordering.TheVariants.{Less, Equal, Greater}
use Rattle.std.specs.Ordering.{nat_cmp, int_cmp, bool_cmp, ordering_then}
use Rattle.std.specs.Cmp.Lexicographic.{slice_cmp}
use Rattle.vortex_types.specs.Values.{Value, null, truth, number, text, bytes, list, Values}
use Rattle.vortex_types.specs.Values.{no_values, value}

-- Null is least and equal to itself. Two different kinds of value other than null have no type in
-- common, so any total order of the kinds will do.
abbrev pub kind_rank : Value → ℕ
kind_rank null = 0
kind_rank (truth b) = 1
kind_rank (number z) = 2
kind_rank (text bs) = 3
kind_rank (bytes bs) = 4
kind_rank (list vs) = 5

-- false is below true; numbers by value; texts and bytes by their first different byte; lists and
-- records by their first different value; a prefix is below what continues it
abbrev mutual
  pub compare_values : Value → Value → Ordering
  compare_values (truth a) (truth b) = bool_cmp a b
  compare_values (number a) (number b) = int_cmp a b
  compare_values (text a) (text b) = slice_cmp nat_cmp a b
  compare_values (bytes a) (bytes b) = slice_cmp nat_cmp a b
  compare_values (list a) (list b) = compare_lists a b
  compare_values v w = nat_cmp (kind_rank v) (kind_rank w)

  pub compare_lists : Values → Values → Ordering
  compare_lists no_values no_values = Equal
  compare_lists no_values (value w ws) = Less
  compare_lists (value v vs) no_values = Greater
  compare_lists (value v vs) (value w ws) = ordering_then (compare_values v w) (compare_lists vs ws)
