use Rattle.std.proofs.Common.{◌≡◌, ◌<◌, ◌-◌, ◌++◌, ◌∷◌, [], Some, map, length, sym, ap, ◌∙◌, arith, rules}
use Rattle.std.proofs.lemmas.Bool.{eqb-true}
use Rattle.std.proofs.lemmas.List.{map-append, length-map}
use Rattle.vortex_syntax.specs.Tokens.{token_in}
use Rattle.vortex_syntax.specs.Pieces.{gap, token, piece_in, first_piece}
use Rattle.vortex_syntax.proofs.Lexed.{begins, to_gap, to_token, ended, one_list, stuck}
use Rattle.vortex_syntax.proofs.Placed.{none_placed, placed_gap, placed_token, all_placed}
use Rattle.vortex_syntax.proofs.lexing.read_tokens.Goals as goal

pub loop-rest-init : goal.loop-rest-init
loop-rest-init c =
    rw (c.new.ensures.items, c.new-2.ensures.items)
    (begins c.args.text.now, none_placed c.args.text.now)

pub loop-rest-preserved : goal.loop-rest-preserved
loop-rest-preserved c =
    let text = c.args.text.now in
    let ts = map token_in c.loop-rest.read.tokens.items in
    let now = c.loop-rest.rest.now in
    let rest = c.in-Some.behind.now in
    let t = token_in c.in-Token.token in
    let e : map token_in c.push.new.self.tokens.items ≡ ts ++ t ∷ [] =
    ap (map token_in) c.in_ok-push-in-Token.ensures.tokens
    ∙ map-append token_in c.loop-rest.read.tokens.items (c.in-Token.token ∷ []) in
    let h : first_piece now ≡ Some (token t, rest) = sym c.in-Some.ensures.piece
    ∙ ap (λ p. Some (piece_in p, c.in-Some.behind.now)) c.in-Token.is in
    let so_far = c.loop-rest.invariant in
    rw (e, c.in_ok-push-in-Token.ensures.places, c.in_ok-push-in-Token.ensures.end) (
      to_token text ts now rest t h c.in-Some.ensures.shorter so_far.0,
      placed_token text ts c.loop-rest.read.places.items c.loop-rest.read.end now rest t
          (length text - length now) h (omega (arith, so_far.0.within)) so_far.1,
    )

pub loop-rest-preserved-in-Gap : goal.loop-rest-preserved-in-Gap
loop-rest-preserved-in-Gap c =
    let text = c.args.text.now in
    let ts = map token_in c.loop-rest.read.tokens.items in
    let now = c.loop-rest.rest.now in
    let rest = c.in-Some.behind.now in
    let h : first_piece now ≡ Some (gap, rest) = sym c.in-Some.ensures.piece
    ∙ ap (λ p. Some (piece_in p, c.in-Some.behind.now)) c.in-Gap.is in (
      to_gap text ts now rest h c.in-Some.ensures.shorter c.loop-rest.invariant.0,
      placed_gap text ts c.loop-rest.read.places.items c.loop-rest.read.end now rest h
          c.loop-rest.invariant.1,
    )

pub returns-in_default-clause-only : goal.returns-in_default-clause-only
returns-in_default-clause-only c = λ ts l.
    let more : 0 < length c.loop-rest.rest.now = search rules in
    absurd
    (stuck c.args.text.now (map token_in c.loop-rest.read.tokens.items) c.loop-rest.rest.now
    c.loop-rest.invariant.0 more (sym c.in_default.ensures.piece) ts l)

pub returns-clause-found : goal.returns-clause-found
returns-clause-found c =
    ended c.args.text.now _ c.loop-rest.rest.now c.loop-rest-test.ensures c.loop-rest.invariant.0

pub returns-clause-only : goal.returns-clause-only
returns-clause-only c = λ ts l. one_list
    (ended c.args.text.now _ c.loop-rest.rest.now c.loop-rest-test.ensures
    c.loop-rest.invariant.0) l

pub returns-clause-places : goal.returns-clause-places
returns-clause-places c = λ n le.
    all_placed c.args.text.now (map token_in c.loop-rest.read.tokens.items)
    c.loop-rest.read.places.items c.loop-rest.read.end c.loop-rest.rest.now
    (eqb-true (length c.loop-rest.rest.now) 0 (sym c.loop-rest-test.ensures))
    c.loop-rest.invariant.1 n
    (omega (arith, le, length-map c.loop-rest.read.tokens.items token_in))
