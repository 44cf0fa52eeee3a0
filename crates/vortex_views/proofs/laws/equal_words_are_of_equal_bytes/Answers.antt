use Rattle.vortex_views.proofs.Digits.{are_bytes}
use Rattle.vortex_views.proofs.Layouts.{same_views, same_wholes}
use Rattle.vortex_views.proofs.laws.equal_words_are_of_equal_bytes.Goals as goal

pub returns-clause-words : goal.returns-clause-words
returns-clause-words c =
    same_views c.args.a.now c.args.b.now c.requires.a_len c.requires.b_len
    (are_bytes _ c.type_inv.a) (are_bytes _ c.type_inv.b)

pub returns-clause-as_u128 : goal.returns-clause-as_u128
returns-clause-as_u128 c =
    same_wholes c.args.a.now c.args.b.now c.requires.a_len c.requires.b_len
    (are_bytes _ c.type_inv.a) (are_bytes _ c.type_inv.b)
