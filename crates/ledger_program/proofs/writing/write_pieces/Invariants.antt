use Rattle.std.proofs.Common.{map, take, Ok}
use Rattle.std.specs.List.{concat}
use Rattle.ledger_program.specs.Writing.{Writes}
use Rattle.ledger_program.proofs.writing.write_pieces.Given as goal

abbrev pub invariant-each : goal.invariant-each
invariant-each g l = Writes g.K.Sink.grows (g.K.Sink.written l.initial.out) (g.K.Sink.written l.out) (g.K.Sink.faults l.initial.out) (g.K.Sink.faults l.out) (concat (map (λ piece. piece.now) (take l.piece-index l.pieces))) (Ok tt)
