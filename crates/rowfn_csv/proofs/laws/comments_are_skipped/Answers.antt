use Rattle.rowfn_csv.proofs.CommentLines.{comments_are_skipped}
use Rattle.rowfn_csv.proofs.laws.comments_are_skipped.Goals as goal

pub returns : goal.returns
returns c = comments_are_skipped
