-- What is told of groups that are pruned, or are not.
use Rattle.std.proofs.Common.{◌≡◌, ◌∙◌, ℕ, List, map, length, Option, Some, sym, ap, subst}
use Rattle.std.specs.Prelude.{Result, MatchResult, String, string_bytes, slice_get, option_map}
use Rattle.std.proofs.lemmas.Option.{slice_get-map}
use Rattle.std.specs.declared.alloc.Global.{Global}
use Rattle.vortex_errors.specs.Answers.{AnswersUnlessMemory}
use Rattle.vortex_errors.specs.declared.error.VortexError.{VortexError}
use Rattle.vortex_expressions.specs.Items.{Tree, meaning}
use Rattle.vortex_program.specs.declared.answer.Answer.{Answer}
use Rattle.vortex_pruning.specs.declared.pruned.Pruned.{Pruned}
use Rattle.yurkije_columns.specs.Messages.{memory_words}
use Rattle.yurkije_core.specs.declared.report.Report.{Report}
use Rattle.yurkije_core.specs.declared.report.ErrorNumbers.{ErrorNumbers}
use Rattle.yurkije_core.specs.Reports.{Tells}
use Rattle.yurkije_core.specs.Messages.{HasMessage}
use Rattle.yurkije_pruning.specs.declared.error.PruneError.{PruneError}
use Rattle.yurkije_pruning.specs.declared.lent.BorrowedStatistics.{BorrowedStatistics}
use Rattle.yurkije_pruning.specs.declared.verdicts.Verdicts.{Verdicts}
use Rattle.yurkije_pruning.specs.Pruning.{PrunesLent, RefusesLent}
use Rattle.yurkije_pruning.specs.Messages.{prune_words}
use Rattle.yurkije.specs.Views.{ProgramView}
use Rattle.yurkije.specs.Pruning.{PrunesAt, PrunesAnswer, TellsGroups, numbers_told}
use Rattle.yurkije.specs.Pruning.{pruned, refused}
use Rattle.yurkije.proofs.ErrorNumbers.{told_in}

-- the tree of an answer that is there
pub tree_there : (answers found : List Answer) (k : ℕ) (a : Answer) → found ≡ answers
    → slice_get found k ≡ Some a → slice_get (map (λ x. x.tree) answers) k ≡ Some a.tree
tree_there answers found k a same there =
    slice_get-map (λ (x : Answer). x.tree) answers k
    ∙ ap (option_map (λ (x : Answer). x.tree))
    (ap (λ (xs : List Answer). slice_get xs k) (sym same) ∙ there)

module _ (p : ProgramView) (k : ℕ) (t : Tree) (ss : List BorrowedStatistics) (ns : List ℕ)
    (room_old room : Verdicts) (result : ℕ) (old report : Report)
    (there : slice_get p.optimized k ≡ Some t) where
  pub groups_told : (ps qs : List Pruned) → PrunesLent meaning p.scope p.kinds ss t ns ps → qs ≡ ps
      → TellsGroups qs room_old room result old report
      → PrunesAnswer p k ss ns room_old room result old report
  groups_told ps qs prunes same told =
      subst (λ (o : Option Tree). PrunesAt p o ss ns room_old room result old report) (sym there)
      (pruned ps prunes
      (subst (λ (xs : List Pruned). TellsGroups xs room_old room result old report) same told))

  pub groups_refused : (e : PruneError) (r : Result (String Global) VortexError) (u : ErrorNumbers)
      → RefusesLent meaning p.scope p.kinds ss t ns e → u ≡ numbers_told e → room ≡ room_old → result ≡ u.status
      → Tells report u
      → AnswersUnlessMemory r (λ w. string_bytes w ≡ prune_words p.scope (length ns) e)
      → MatchResult r (λ w. HasMessage (string_bytes w) old report)
      (λ e. HasMessage memory_words old report)
      → PrunesAnswer p k ss ns room_old room result old report
  groups_refused e r u wrong same kept status told said message =
      subst (λ (o : Option Tree). PrunesAt p o ss ns room_old room result old report) (sym there)
      (refused e wrong (record {
        kept = kept;
        status = status ∙ ap (λ (v : ErrorNumbers). v.status) same;
        told = subst (λ (v : ErrorNumbers). Tells report v) same told;
        message = told_in (λ w. w ≡ prune_words p.scope (length ns) e) r old report said message;
      }))
