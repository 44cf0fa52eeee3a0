-- What is seen of what a handle holds: an expression or the answers of a batch.
use Rattle.std.specs.Prelude.{ℕ, Bool, List, [], map, Option, Some, None, string_bytes}
use Rattle.vortex_types.specs.LogicalTypes.{Fields}
use Rattle.vortex_types.specs.TypeOf.{struct_fields}
use Rattle.vortex_columns.specs.ColumnView.{ColumnView}
use Rattle.vortex_logical.specs.declared.kind.Kind.{Kind}
use Rattle.vortex_expressions.specs.Items.{Tree}
use Rattle.yurkije_core.specs.declared.expression.Expression.{Expression}
use Rattle.yurkije.specs.declared.content.Content.{Content}
use Rattle.yurkije.specs.declared.content.Content.TheVariants as content

-- its scope and the kinds of its fields, the names of its answers and their kinds, their trees as
-- they were written and as they are run, and for each field whether one of them reads it
pub record ProgramView : Type 0 where
  pub scope : Fields
  pub kinds : List Kind
  pub names : List (List ℕ)
  pub means : List Kind
  pub written : List Tree
  pub optimized : List Tree
  pub reads : List Bool

abbrev pub program_view : Expression → ProgramView
program_view e = record {
  scope = struct_fields e.program.scope;
  kinds = e.program.kinds.items;
  names = map (λ a. string_bytes a.name) e.program.written.items;
  means = map (λ a. a.kind) e.program.written.items;
  written = map (λ a. a.tree) e.program.written.items;
  optimized = map (λ a. a.tree) e.program.optimized.items;
  reads = e.reads.items;
}

-- one of the two, and the kinds of the answers' values
pub record HeldView : Type 0 where
  pub program : Option ProgramView
  pub answers : Option (List ColumnView)
  pub kinds : List Kind

abbrev pub program_held : ProgramView → HeldView
program_held p = record { program = Some p; answers = None; kinds = [] }

abbrev pub answers_held : List ColumnView → List Kind → HeldView
answers_held cs ks = record { program = None; answers = Some cs; kinds = ks }

abbrev pub content_view : Content → HeldView
content_view (content.Expression e) = program_held (program_view e)
content_view (content.Answers columns kinds) = answers_held columns.items kinds.items

-- those that a handle holds
abbrev pub program_in : Option HeldView → Option ProgramView
program_in None = None
program_in (Some h) = h.program

abbrev pub answers_in : Option HeldView → Option (List ColumnView)
answers_in None = None
answers_in (Some h) = h.answers

abbrev pub kinds_in : Option HeldView → List Kind
kinds_in None = []
kinds_in (Some h) = h.kinds
