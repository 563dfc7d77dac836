use Rattle.std.proofs.lemmas.Str.{is_utf8-from_IsUtf8}
use Rattle.ledger_codec.proofs.Texts.{is_no_text}
use Rattle.ledger_codec.proofs.reader.text_of_bytes.Goals as goal

pub returns-in_ok-from_str-in-Ok-clause-utf8 : goal.returns-in_ok-from_str-in-Ok-clause-utf8
returns-in_ok-from_str-in-Ok-clause-utf8 c = is_utf8-from_IsUtf8 c.args.bytes.now c.in-Ok.ensures.cases.1

pub returns-in-Err-clause-err : goal.returns-in-Err-clause-err
returns-in-Err-clause-err c = is_no_text c.args.bytes.now c.in-Err.ensures.cases.0
