use Rattle.std.proofs.Common.{sym, ap, ◌∙◌, string_bytes}
use Rattle.rowfn_index.specs.declared.head.IndexedColumn.{IndexedColumn}
use Rattle.rowfn_index.proofs.SameWords.{is_named}
use Rattle.rowfn_index.proofs.agreement.find_column.Goals as goal

pub returns-then-eq : goal.returns-then-eq
returns-then-eq c = (
  c.loop-number-test.true,
  is_named c.args.columns.now c.loop-number.number c.index-columns-number.result c.args.name.now
      c.as_str.result.now c.loop-number-test.true c.index-columns-number.is
      (c.as_str.ensures.value
      ∙ ap (λ (x : IndexedColumn). string_bytes x.name) (sym c.index-columns-number.is))
      (sym c.eq.ensures ∙ c.if-eq.true),
)
