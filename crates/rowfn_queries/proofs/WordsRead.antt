-- What is asked by words, from what parsed texts ask.
use Rattle.std.proofs.Common.{◌≡◌, ◌∙◌, ℕ, List, Option, Some, None, Bor, String, Global, subst, sym}
use Rattle.std.proofs.Common.{ap, inl, inr}
use Rattle.std.specs.Prelude.{◌⊎◌}
use Rattle.vortex_program.specs.declared.form.Form.{Form}
use Rattle.vortex_program.specs.declared.form.Form.TheVariants as form
use Rattle.vortex_program.specs.declared.parsed.Parsed.{Parsed}
use Rattle.rowfn_queries.specs.declared.binding.Binding.{Binding}
use Rattle.rowfn_queries.specs.declared.error.QueryError.{QueryError}
use Rattle.rowfn_queries.specs.declared.question.Question.{Question}
use Rattle.rowfn_queries.specs.declared.query.Words.{Words}
use Rattle.rowfn_queries.specs.declared.texts.Texts.{Texts}
use Rattle.rowfn_queries.specs.Bindings.{IsParsedBy, IsBoundIn, IsAskedIn, RefusesIn, RefusesWhere}
use Rattle.rowfn_queries.specs.Bindings.{RefusesBound, by_condition, by_answers, columns_in, sampled_in}
use Rattle.rowfn_queries.specs.Bindings.{read_in, placed_in, IsReadWhere, AreRead, RefusesWidened}
use Rattle.rowfn_queries.specs.Bindings.{AreBoundIn}
use Rattle.rowfn_queries.specs.Columns.{Columns, none, scope_in, with_all, with_texts}
use Rattle.rowfn_queries.specs.DeclaredColumns.{DeclaredColumns, unplaced}
use Rattle.rowfn_queries.specs.Queries.{AskedBy}
use Rattle.rowfn_queries.specs.Reading.{DeclaredBy, AreInferred, as_declared, by_header, columns_read}
use Rattle.rowfn_queries.specs.Refusals.{RefusesBy, RefusesBinding, RefusesWords, by_binding}
use Rattle.rowfn_queries.specs.Refusals as refusals

module _ (b : Binding) (f : Form) where
  pub asked_by : (o : Option (Bor (List ℕ))) (p : Option Parsed) (q : Option Question)
      → IsParsedBy f o p → IsBoundIn b p q → AskedBy f (read_in b f) (placed_in b) o q
  asked_by None None None h g = tt
  asked_by None None (Some q) h g = absurd g
  asked_by None (Some p) q h g = absurd h
  asked_by (Some text) None q h g = absurd h
  asked_by (Some text) (Some p) None h g = absurd g
  asked_by (Some text) (Some p) (Some q) h g =
      subst (λ (x : Form). IsAskedIn b x text.now q) h.0
      (subst (λ (w : List ℕ). IsAskedIn b p.form w q) h.1 g)

  pub refused_by : (o : Option (Bor (List ℕ))) (p : Option Parsed) (e : QueryError)
      → IsParsedBy f o p → RefusesWhere b p e → RefusesBy f (read_in b f) o e
  refused_by None None e h g = absurd g
  refused_by None (Some p) e h g = absurd h
  refused_by (Some text) None e h g = absurd h
  refused_by (Some text) (Some p) e h g =
      subst (λ (x : Form). RefusesIn b x text.now e) h.0
      (subst (λ (w : List ℕ). RefusesIn b p.form w e) h.1 g)

-- the same of both texts, of what they are bound in
module _ {b : Binding} {x y : Option Question} {columns sampled : Columns} (t : Texts)
    (bound : AreBoundIn b t x y) (here : columns_in b ≡ columns) (there : sampled_in b ≡ sampled) where
  asked_over : (f : Form) (o : Option (Bor (List ℕ))) (q : Option Question)
      → AskedBy f (read_in b f) (placed_in b) o q
      → AskedBy f (columns_read columns sampled b.words f) (placed_in b) o q
  asked_over f o q =
      subst (λ (z : Columns × Columns). AskedBy f (columns_read z.0 z.1 b.words f) (placed_in b) o q)
      (λ i. (here i, there i))

  pub answers_asked : IsParsedBy form.Answers b.words.answers t.answers
      → AskedBy form.Answers (columns_read columns sampled b.words form.Answers) (placed_in b)
      b.words.answers x
  answers_asked p =
      asked_over form.Answers b.words.answers x
      (asked_by b form.Answers b.words.answers t.answers x p bound.answers_bound)

  pub condition_asked : IsParsedBy form.Condition b.words.condition t.condition
      → AskedBy form.Condition (columns_read columns sampled b.words form.Condition) (placed_in b)
      b.words.condition y
  condition_asked p =
      asked_over form.Condition b.words.condition y
      (asked_by b form.Condition b.words.condition t.condition y p bound.condition_bound)

read_where : (f : Form) (o : Option (Bor (List ℕ))) (p : Option Parsed) → IsParsedBy f o p
    → IsReadWhere p
read_where f None None h = tt
read_where f None (Some p) h = absurd h
read_where f (Some text) None h = absurd h
read_where f (Some text) (Some p) h = h.2

pub are_read : (t : Texts) (answers condition : Option (Bor (List ℕ)))
    → IsParsedBy form.Answers answers t.answers → IsParsedBy form.Condition condition t.condition
    → AreRead t
are_read t answers condition a c = record {
  answers = read_where form.Answers answers t.answers a;
  condition = read_where form.Condition condition t.condition c;
}

-- why the texts of words are refused
bound_refused : (b : Binding) (t : Texts) (e : QueryError)
    → IsParsedBy form.Answers b.words.answers t.answers
    → IsParsedBy form.Condition b.words.condition t.condition
    → RefusesBound b t e → RefusesBinding b.words (columns_in b) (sampled_in b) e
bound_refused b t e answers condition (by_condition h) =
    refusals.by_condition (refused_by b form.Condition b.words.condition t.condition e condition h)
bound_refused b t e answers condition (by_answers q asked h) =
    refusals.by_answers (placed_in b) q
    (asked_by b form.Condition b.words.condition t.condition q condition asked)
    (refused_by b form.Answers b.words.answers t.answers e answers h)

module _ (b : Binding) (t : Texts) (d : DeclaredColumns) (names : List (String Global))
    (e result : QueryError) (same : columns_in b ≡ unplaced d)
    (declares : DeclaredBy b.words.columns d) (inferred : AreInferred (sampled_in b))
    (answers : IsParsedBy form.Answers b.words.answers t.answers)
    (condition : IsParsedBy form.Condition b.words.condition t.condition) where
  over_widened : RefusesWidened b names t result → RefusesWords b.words result
  over_widened w =
      let wide = columns_in w.wide in
      let answers_there =
      subst (λ (x : Words). IsParsedBy form.Answers x.answers t.answers) (sym w.same_words) answers in
      let condition_there =
      subst (λ (x : Words). IsParsedBy form.Condition x.condition t.condition) (sym w.same_words)
      condition in
      let there = bound_refused w.wide t result answers_there condition_there w.refused in
      let words_here =
      subst (λ (x : Words). RefusesBinding x wide (sampled_in w.wide) result) w.same_words there in
      by_binding d (sampled_in b) wide declares inferred
      (by_header names
      (w.columns
      ∙ ap (λ (cs : Columns). with_texts names (with_all (sampled_in b) (with_all cs none))) same))
      (subst (λ (cs : Columns). RefusesBinding b.words wide cs result)
      (λ i. scope_in (w.same_sample i)) words_here)

  pub refused_so : RefusesBound b t e → (result ≡ e) ⊎ RefusesWidened b names t result
      → RefusesWords b.words result
  refused_so h (inl is) =
      by_binding d (sampled_in b) (columns_in b) declares inferred (as_declared same)
      (subst (λ (x : QueryError). RefusesBinding b.words (columns_in b) (sampled_in b) x) (sym is)
      (bound_refused b t e answers condition h))
  refused_so h (inr w) = over_widened w
