use Rattle.std.proofs.Common.{◌≡◌, ◌∙◌, ℕ, List, length, sym, ap, subst}
use Rattle.std.specs.Prelude.{All}
use Rattle.vortex_errors.proofs.Answering.{AnswersUnlessMemory-weaker}
use Rattle.vortex_columns.specs.ValidityView.{Reaches, ValidityView, validity_of}
use Rattle.vortex_columns.specs.Stored.{Kept, kept_of, Stored, kept, stored_of, constant_of}
use Rattle.vortex_columns.specs.Taken.{taken, taken_kept, taken_stored, taken_validity}
use Rattle.vortex_columns.specs.CopyFrames.{stored_view}
use Rattle.vortex_columns.specs.TakenFrames.{rows_in, step_taking}
use Rattle.vortex_columns.specs.declared.column.Storage.{Storage}
use Rattle.vortex_columns.specs.declared.column.copies.Head.{Head}
use Rattle.vortex_columns.specs.declared.column.taken_frames.Step.{Step}
use Rattle.vortex_columns.proofs.TakenRows.{opened_places, opened_reach}
use Rattle.vortex_columns.proofs.TakenRows.{opened_taken_stored, opened_taken_view}
use Rattle.vortex_columns.proofs.column.Column.open_rows.Goals.{in-Null}
use Rattle.vortex_columns.proofs.column.Column.open_rows.Goals.{in-Constant+in_ok-try_clone-in-Constant}
use Rattle.vortex_columns.proofs.column.Column.open_rows.Goals as goal

pub take_validity-requires : goal.take_validity-requires
take_validity-requires c =
    subst (λ (ps : List ℕ). All (Reaches (validity_of c.in-Rows.validity)) ps)
    (sym c.places-places.ensures)
    (opened_reach c.self.inside _ c.self.view_is c.self.invariant (rows_in c.args.rows) c.requires
    _ _ (ap stored_of c.in-Rows.is))

-- taken values with their taken validity are the taken storage
kept_rows : (rows qs : List ℕ) (k : Kept) (v w : ValidityView) (s : Stored) → s ≡ kept k v
    → qs ≡ rows → w ≡ taken_validity qs v → kept (taken_kept rows k) w ≡ taken_stored rows s
kept_rows rows qs k v w s at same is =
    ap (kept (taken_kept rows k)) (is ∙ ap (λ (ps : List ℕ). taken_validity ps v) same)
    ∙ ap (taken_stored rows) (sym at)

pub open_rows-requires-clause-stored : goal.open_rows-requires-clause-stored
open_rows-requires-clause-stored c =
    opened_taken_stored c.self.inside _ c.self.view_is c.self.invariant (rows_in c.args.rows)
    c.requires _ c.in_ok-dtype.ensures _ (c.len.ensures ∙ ap length c.places-places.ensures) _
    (kept_rows _ _ _ _ _ _ (ap stored_of c.in-Rows.is) c.places-places.ensures
    c.in_ok-validity-in-Rows.ensures)

pub open_rows-requires-clause-places : goal.open_rows-requires-clause-places
open_rows-requires-clause-places c =
    opened_places c.self.inside _ c.self.view_is c.self.invariant (rows_in c.args.rows) c.requires
    _ _ (ap stored_of c.in-Rows.is)

pub returns-in-Rows-clause-column : goal.returns-in-Rows-clause-column
returns-in-Rows-clause-column c =
    let rows = rows_in c.args.rows in
    let head : Head = record { dtype = c.in_ok-dtype.dtype; len = c.len.result } in
    AnswersUnlessMemory-weaker c.open_rows.result
    (λ (step : Step). (step_taking step).column
    ≡ stored_view head (kept (taken_kept rows (kept_of c.in-Rows.elements))
    (validity_of c.in_ok-validity-in-Rows.validity)))
    (λ (step : Step). (step_taking step).column ≡ taken rows c.args.self.now)
    (λ step h.
    h
    ∙ opened_taken_view c.self.inside _ c.self.view_is c.self.invariant rows c.requires _
    c.in_ok-dtype.ensures _ (c.len.ensures ∙ ap length c.places-places.ensures) _
    (kept_rows _ _ _ _ _ _ (ap stored_of c.in-Rows.is) c.places-places.ensures
    c.in_ok-validity-in-Rows.ensures))
    c.open_rows.ensures.column

pub returns-clause-column : goal.returns-clause-column
returns-clause-column c =
    let rows = rows_in c.args.rows in
    let so : stored_of c.match-self.storage ≡ taken_stored rows (stored_of c.self.inside.storage) =
    elim c.match-self.branch [
      | in-Null w ↦
          ap stored_of w.storage-is
          ∙ ap (λ (s : Storage). taken_stored rows (stored_of s)) (sym w.in-Null.is)
      | in-Constant+in_ok-try_clone-in-Constant w ↦
          ap stored_of w.storage-is ∙ ap constant_of w.in_ok-try_clone-in-Constant.ensures
          ∙ ap (λ (s : Storage). taken_stored rows (stored_of s)) (sym w.in-Constant.is)
    ] in
    c.with.ensures
    ∙ opened_taken_view c.self.inside _ c.self.view_is c.self.invariant rows c.requires _
    c.in_ok-dtype.ensures _ (c.len.ensures ∙ ap length c.places-places.ensures) _ so
