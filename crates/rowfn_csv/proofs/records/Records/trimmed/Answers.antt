use Rattle.std.proofs.Common.{◌≡◌, ◌∙◌, ◌≤◌, ◌-◌, ℕ, List, length, ap, subst, arith}
use Rattle.csv.specs.Reading.{reader_source}
use Rattle.rowfn_csv.specs.Formats.{is_comment_line}
use Rattle.rowfn_csv.specs.KeptLines.{part}
use Rattle.rowfn_csv.specs.Reads.{IsEndOf}
use Rattle.rowfn_csv.proofs.Spans.{own_no_comment, longer_no_comment}
use Rattle.rowfn_csv.proofs.records.Records.trimmed.Goals as goal

pub returns-then-eq : goal.returns-then-eq
returns-then-eq g c =
    let tee = reader_source c.args.self.now.reader in
    let comment = c.args.self.now.format.comment in
    let end = c.args.span.end in
    let own = c.from_record-record.result.now in
    let start : c.saturating_sub-start.result ≡ end - length own = omega arith in
    let on : end ≤ c.saturating_add-end.result = omega arith in
    ap (λ (s : ℕ). is_comment_line comment
    (part tee.kept.items (s - tee.first) (c.saturating_add-end.result - tee.first))) start
    ∙ longer_no_comment comment tee.kept.items tee.first c.args.span.start end
    c.without_mark.result.now
    (subst (λ (bs : List ℕ). IsEndOf bs c.without_mark.result.now) c.requires
    c.without_mark.ensures)
    own c.from_record-record.ensures c.saturating_add-end.result on (omega arith)

pub returns-else-eq : goal.returns-else-eq
returns-else-eq g c =
    let tee = reader_source c.args.self.now.reader in
    let comment = c.args.self.now.format.comment in
    let end = c.args.span.end in
    let own = c.from_record-record.result.now in
    let start : c.saturating_sub-start.result ≡ end - length own = omega arith in
    ap (λ (s : ℕ). is_comment_line comment
    (part tee.kept.items (s - tee.first) (end - tee.first))) start
    ∙ own_no_comment comment tee.kept.items tee.first c.args.span.start end
    c.without_mark.result.now
    (subst (λ (bs : List ℕ). IsEndOf bs c.without_mark.result.now) c.requires
    c.without_mark.ensures)
    own c.from_record-record.ensures

pub returns-else-record-lt1 : goal.returns-else-record-lt1
returns-else-record-lt1 g c =
    let tee = reader_source c.args.self.now.reader in
    let comment = c.args.self.now.format.comment in
    let end = c.args.span.end in
    let own = c.from_record-record.result.now in
    let start : c.saturating_sub-start.result ≡ end - length own = omega arith in
    ap (λ (s : ℕ). is_comment_line comment
    (part tee.kept.items (s - tee.first) (end - tee.first))) start
    ∙ own_no_comment comment tee.kept.items tee.first c.args.span.start end
    c.without_mark.result.now
    (subst (λ (bs : List ℕ). IsEndOf bs c.without_mark.result.now) c.requires
    c.without_mark.ensures)
    own c.from_record-record.ensures
