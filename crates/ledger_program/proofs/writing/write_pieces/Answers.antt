use Rattle.ledger_program.proofs.Pieces.{piece_on, piece_stops}
use Rattle.ledger_program.proofs.writing.write_pieces.Goals as goal

pub returns-in-Err : goal.returns-in-Err
returns-in-Err g c = piece_stops (λ piece. piece.now) c.args.pieces.now c.each.piece-index _ c.each-test.true _ _ _ _ _ _ c.each.invariant c.in-Err.fault c.in-Err.ensures

pub each-preserved : goal.each-preserved
each-preserved g c = piece_on (λ piece. piece.now) c.args.pieces.now c.each.piece-index _ c.each-test.true _ _ _ _ _ _ c.each.invariant c.in-Ok.ensures
