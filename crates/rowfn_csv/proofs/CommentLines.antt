-- Comments are read as blank lines, and begin at the start of a line alone.
use Rattle.std.proofs.Common.{◌≡◌, ◌==◌, true, ℕ, List, [], ◌∷◌, ◌++◌, map}
use Rattle.std.proofs.Common.{Some, refl, ap, inl, inr}
use Rattle.std.proofs.lemmas.Bool.{ne_eqb}
use Rattle.std.proofs.lemmas.Bool.Decides.{eqb_tells}
use Rattle.rowfn_csv.specs.declared.comments.LinePlace.TheVariants as line
use Rattle.rowfn_csv.specs.Records.{Lacks}
use Rattle.rowfn_csv.specs.Comments.{blanked, CommentIsBlank, QuotesHoldNone, CommentsAreSkipped}

same_byte : (d : ℕ) → (d == d) ≡ true
same_byte d = elim (eqb_tells d d) [ inl h ↦ h.0 | inr h ↦ absurd (h.1 refl) ]

-- a comment goes on to the end of its line
goes_on : (d c : ℕ) (text rest : List ℕ) → Lacks 10 text → Lacks 13 text
    → blanked d (Some c) line.Comment (text ++ rest)
    ≡ map (λ b. 10) text ++ blanked d (Some c) line.Comment rest
goes_on d c [] rest h g = refl
goes_on d c (b ∷ bs) rest h g =
    rw (ne_eqb b 10 h.0, ne_eqb b 13 g.0)
    (ap (λ (t : List ℕ). 10 ∷ t) (goes_on d c bs rest h.1 g.1))

comment_is_blank : CommentIsBlank
comment_is_blank d c text rest e h g =
    rw (e, same_byte c) (ap (λ (t : List ℕ). 10 ∷ t) (goes_on d c text rest h g))

quotes_hold_none : QuotesHoldNone
quotes_hold_none d comment [] rest h = refl
quotes_hold_none d comment (b ∷ bs) rest h =
    rw (ne_eqb b 34 h.0) (ap (λ (t : List ℕ). b ∷ t) (quotes_hold_none d comment bs rest h.1))

pub comments_are_skipped : CommentsAreSkipped
comments_are_skipped = record { comment = comment_is_blank; quotes = quotes_hold_none }
