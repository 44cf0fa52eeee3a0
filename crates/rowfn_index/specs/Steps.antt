-- What is done with chunks.
use Rattle.std.specs.Prelude.{ℕ, Bool, true, List, Option, Some, None, replicate, slice_get}
use Rattle.std.specs.Prelude.{◌&&◌, if◌then◌else◌}
use Rattle.std.specs.List.{flat_map}
use Rattle.vortex_pruning.specs.declared.pruned.Pruned.{Pruned}
use Rattle.vortex_pruning.specs.declared.pruned.Verdict.{Verdict}
use Rattle.vortex_pruning.specs.declared.pruned.Verdict.TheVariants.{Unknown, NoneTrue, AllTrue}
use Rattle.rowfn_index.specs.declared.chunk.Chunk.{Chunk}
use Rattle.rowfn_index.specs.declared.steps.Action.{Action}
use Rattle.rowfn_index.specs.declared.steps.Action.TheVariants.{Run, Skip, Copy}
use Rattle.rowfn_index.specs.declared.steps.Step.{Step}

-- by what is known of its rows: whether no row faults, and whether it may be copied
abbrev pub action_by : Verdict → Bool → Bool → Action
action_by Unknown faultless copied = Run
action_by NoneTrue faultless copied = if faultless then Skip else Run
action_by AllTrue faultless copied = if copied then Copy else Run

-- a chunk is copied where rows are written as they are, and it has nothing but their lines
abbrev pub action_of : Bool → Pruned → Chunk → Action
action_of copies p c = action_by p.verdict p.faultless (copies && c.whole)

abbrev pub action_where : Bool → Option Pruned → Option Chunk → Action
action_where copies (Some p) (Some c) = action_of copies p c
action_where copies p c = Run

-- what is done with the chunk of that number; one of which nothing is known is run
abbrev pub action_at : Bool → List Pruned → List Chunk → ℕ → Action
action_at copies ps cs k = action_where copies (slice_get ps k) (slice_get cs k)

-- what steps do with each chunk
abbrev pub step_actions : Step → List Action
step_actions s = replicate s.count s.action

abbrev pub expanded : List Step → List Action
expanded = flat_map step_actions
