use Rattle.std.proofs.Common.{arith}
use Rattle.ledger_program.specs.ErrorLines.{printed_byte}
use Rattle.ledger_program.proofs.Pieces.{printed_on, printed_stops}
use Rattle.ledger_program.proofs.printable.write_printed.Goals as goal

pub pieces-preserved : goal.pieces-preserved
pieces-preserved g c = record {
  within = c.piece_end-end.ensures.within;
  wrote = printed_on printed_byte c.args.text.now c.pieces.done c.piece_end-end.result (omega (arith, c.piece_end-end.ensures.more)) _ _ _ _ _ _ c.pieces.invariant.wrote c.in-Ok.ensures;
}

pub returns-in-Err : goal.returns-in-Err
returns-in-Err g c = printed_stops printed_byte c.args.text.now c.pieces.done c.piece_end-end.result (omega (arith, c.piece_end-end.ensures.more)) _ _ _ _ _ _ c.pieces.invariant.wrote c.in-Err.fault c.in-Err.ensures
