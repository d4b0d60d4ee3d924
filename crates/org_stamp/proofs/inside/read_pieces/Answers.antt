use Rattle.std.proofs.lemmas.List.{take_rest}
use Rattle.std.proofs.Common.{◌≡◌, ap, ◌+◌, ◌-◌, ◌≤◌, ◌∙◌, arith, rules}
use Rattle.std.specs.Option.{option_map}
use Rattle.org_stamp.specs.Reading.{gathered, piece_with}
use Rattle.org_stamp.proofs.Runs.{cut_here, cut_none, run_more, pieces_next, pieces_stop, pieces_last, taken, not_taken, found_if}
use Rattle.org_stamp.proofs.inside.read_pieces.Goals as goal
use Rattle.org_stamp.proofs.inside.read_pieces.Goals.{then-is_blank+else-not-add_piece, else-is_blank}

pub returns-then-not-add_piece : goal.returns-then-not-add_piece
returns-then-not-add_piece c =
    let low : c.loop-at.start ≤ c.loop-at.at = omega arith in
    let cut = cut_here c.args.tail.now c.loop-at.start c.loop-at.at low (omega arith) c.loop-at.invariant.plain (search rules) in
    pieces_stop _ _ _ _ cut (not_taken c.add_piece.result _ _ c.if-not-add_piece.true c.add_piece.ensures) ∙ c.loop-at.invariant.left

pub loop-at-preserved : goal.loop-at-preserved
loop-at-preserved c =
    let tail = c.args.tail.now in
    let start = c.loop-at.start in
    let at = c.loop-at.at in
    elim c.if-is_blank.branch [
      | then-is_blank+else-not-add_piece w ↦
          let cut = cut_here tail start at (omega arith) (omega arith) c.loop-at.invariant.plain (search rules) in
          let none : at + 1 - (at + 1) ≡ 0 = omega arith in
          rw (w.found-is, w.start-is) (record {
            start = omega arith;
            plain = rw none (search rules);
            left = pieces_next _ _ _ _ _ cut (taken w.add_piece.result _ _ w.if-not-add_piece.false w.add_piece.ensures) ∙ c.loop-at.invariant.left;
          })
      | else-is_blank w ↦
          rw (w.found-is, w.start-is) (record {
            start = omega arith;
            plain = run_more tail start at (omega arith) (omega arith) c.loop-at.invariant.plain (search rules);
            left = c.loop-at.invariant.left;
          })
    ]

pub returns : goal.returns
returns c =
    let cut = cut_none c.args.tail.now c.loop-at.start c.loop-at.at (omega arith) c.loop-at.invariant.plain in
    ap (option_map gathered) c.then_some.ensures ∙ found_if c.add_piece-2.result _ ∙ c.add_piece-2.ensures ∙ ap (piece_with (gathered c.loop-at.found)) (take_rest c.args.tail.now c.loop-at.start) ∙ pieces_last (gathered c.loop-at.found) _ _ cut ∙ c.loop-at.invariant.left
