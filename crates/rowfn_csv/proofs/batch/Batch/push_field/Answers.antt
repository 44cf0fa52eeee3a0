use Rattle.rowfn_csv.proofs.batch.Batch.push_field.Goals as goal

pub push_part-requires-clause-filled : goal.push_part-requires-clause-filled
push_part-requires-clause-filled c = c.self.invariant.filled

pub push_part-requires-clause-parts : goal.push_part-requires-clause-parts
push_part-requires-clause-parts c = c.self.invariant.parts

pub invariant_of-self : goal.invariant_of-self
invariant_of-self c = record {
  filled = c.push_part.ensures.filled;
  parts = c.push_part.ensures.parts;
}

pub returns-clause-fields : goal.returns-clause-fields
returns-clause-fields c = rw (← c.self.view_is) c.push_part.ensures.pushed
