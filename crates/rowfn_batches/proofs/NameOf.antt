-- The name of an answer by its place.
use Rattle.std.proofs.Common.{◌≡◌, ◌<◌, ◌∙◌, ℕ, List, [], length, get_or, ap, sym, string_bytes}
use Rattle.std.proofs.lemmas.List.{get_or-map}
use Rattle.vortex_program.specs.declared.answer.Answer.{Answer}
use Rattle.rowfn_batches.specs.Names.{names_of}

-- of the answer that stands at a place
pub name_at : (answers : List Answer) (k : ℕ) (a : Answer) → k < length answers
    → a ≡ get_or answers k a → get_or (names_of answers) k [] ≡ string_bytes a.name
name_at answers k a below is =
    get_or-map (λ x. string_bytes x.name) answers k a [] below
    ∙ ap (λ (x : Answer). string_bytes x.name) (sym is)
