use Rattle.std.proofs.Common.{refl}
use Rattle.vortex_sql_in_list.proofs.FoundRows.{int_items}
use Rattle.vortex_sql_in_list.proofs.execute.looked_up_ints.Goals as goal

pub looked_up-requires : goal.looked_up-requires
looked_up-requires g c κs = (
  (refl, tt),
  (
    c.in_ok-value.ensures.input,
    (
      c.in_ok-value.ensures.count,
      int_items g.T.NativePType.number c.in_ok-value.value.now c.in-Some.numbers.now
          c.in-Some.ensures.1,
    ),
  ),
)
