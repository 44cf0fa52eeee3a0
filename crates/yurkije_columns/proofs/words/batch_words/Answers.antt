use Rattle.std.proofs.Common.{◌≡◌, ◌++◌, List, ℕ, string_bytes, sym, ap, ◌∙◌}
use Rattle.std.specs.Prelude.{codes}
use Rattle.std.specs.Fmt.{decimal}
use Rattle.vortex_arrow.specs.Texts.{arrow_text}
use Rattle.yurkije_columns.specs.Messages.{fault_words, named_words}
use Rattle.yurkije_columns.proofs.words.batch_words.Goals as goal

pub returns-in_ok-format-in-Missing : goal.returns-in_ok-format-in-Missing
returns-in_ok-format-in-Missing c =
    let k = c.args.error.column in
    let said : string_bytes c.in_ok-format-in-Missing.field-0
    ≡ named_words k c.field_named-name.result.now (codes "missing") =
    c.in_ok-format-in-Missing.ensures.ok in
    said ∙ ap (λ (m : List ℕ). named_words k m (codes "missing")) c.field_named-name.ensures
    ∙ ap (fault_words k _ c.args.rows) (sym c.in-Missing.is)

pub returns-in_ok-format-in-OtherType : goal.returns-in_ok-format-in-OtherType
returns-in_ok-format-in-OtherType c =
    let k = c.args.error.column in
    let words = codes "of another type than the field" in
    let said : string_bytes c.in_ok-format-in-OtherType.field-0
    ≡ named_words k c.field_named-name.result.now words =
    c.in_ok-format-in-OtherType.ensures.ok in
    said ∙ ap (λ (m : List ℕ). named_words k m words) c.field_named-name.ensures
    ∙ ap (fault_words k _ c.args.rows) (sym c.in-OtherType.is)

pub returns-in_ok-format-in-OtherLength : goal.returns-in_ok-format-in-OtherLength
returns-in_ok-format-in-OtherLength c =
    let k = c.args.error.column in
    let words = decimal c.in-OtherLength.length ++ (codes " rows in a batch of "
    ++ decimal c.args.rows) in
    let said : string_bytes c.in_ok-format-in-OtherLength.field-0
    ≡ named_words k c.field_named-name.result.now words =
    c.in_ok-format-in-OtherLength.ensures.ok in
    said ∙ ap (λ (m : List ℕ). named_words k m words) c.field_named-name.ensures
    ∙ ap (fault_words k _ c.args.rows) (sym c.in-OtherLength.is)

pub returns-in_ok-format-in-Unread : goal.returns-in_ok-format-in-Unread
returns-in_ok-format-in-Unread c =
    let k = c.args.error.column in
    let words = arrow_text c.in-Unread.error in
    let said : string_bytes c.in_ok-format-in-Unread.field-0
    ≡ named_words k c.field_named-name.result.now words =
    c.in_ok-format-in-Unread.ensures.ok in
    said ∙ ap (λ (m : List ℕ). named_words k m words) c.field_named-name.ensures
    ∙ ap (fault_words k _ c.args.rows) (sym c.in-Unread.is)
