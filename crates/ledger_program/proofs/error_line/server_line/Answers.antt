use Rattle.std.proofs.Common.{◌++◌, Err, Ok, codes, subst}
use Rattle.ledger_program.specs.ErrorLines.{server_start, printable}
use Rattle.ledger_program.specs.Writing.{Writes}
use Rattle.ledger_program.proofs.Pieces.{stops_there, goes_on}
use Rattle.ledger_program.proofs.error_line.server_line.Goals as goal

pub returns-in-Err : goal.returns-in-Err
returns-in-Err g c =
    let start = server_start c.args.code in
    let text = printable c.args.message.now in
    stops_there _ _ _ _ (start ++ text) (codes "\n") c.in-Err.fault (stops_there _ _ _ _ start text c.in-Err.fault c.in-Err.ensures)

pub returns-in-Err-write_printed : goal.returns-in-Err-write_printed
returns-in-Err-write_printed g c =
    let start = server_start c.args.code in
    let text = printable c.args.message.now in
    let e = c.in-Err-write_printed.fault in
    let wrote = subst (λ t. Writes g.K.Sink.grows (g.K.Sink.written c.server_start.new.out) (g.K.Sink.written c.write_printed.new.out) (g.K.Sink.faults c.server_start.new.out) (g.K.Sink.faults c.write_printed.new.out) (printable t) (Err e)) c.as_bytes.ensures.value c.in-Err-write_printed.ensures in
    stops_there _ _ _ _ (start ++ text) (codes "\n") e (goes_on _ _ _ _ _ _ start text (Err e) c.in-Ok.ensures wrote)

pub returns : goal.returns
returns g c =
    let start = server_start c.args.code in
    let text = printable c.args.message.now in
    let wrote = subst (λ t. Writes g.K.Sink.grows (g.K.Sink.written c.server_start.new.out) (g.K.Sink.written c.write_printed.new.out) (g.K.Sink.faults c.server_start.new.out) (g.K.Sink.faults c.write_printed.new.out) (printable t) (Ok tt)) c.as_bytes.ensures.value c.in-Ok-write_printed.ensures in
    goes_on _ _ _ _ _ _ (start ++ text) (codes "\n") c.write_all.result (goes_on _ _ _ _ _ _ start text (Ok tt) c.in-Ok.ensures wrote) c.write_all.ensures
