use Rattle.std.proofs.Common.{◌≡◌, None, false, length, get_or, sym, ap, refl, ◌∙◌}
use Rattle.std.specs.Map.{lookup}
use Rattle.std.proofs.lemmas.Option.{slice_get_read}
use Rattle.indexmap.proofs.CallerLemmas.{insert_entry-new}
use Rattle.indexmap.specs.IndexMap.{insert_entry}
use Rattle.ledger_transfers.specs.Registering.{fresh}
use Rattle.ledger_transfers.proofs.RegisterLemmas.{absent, on_ok_of}
use Rattle.ledger_transfers.proofs.register.register_one.Goals as goal

pub returns-clause-entries : goal.returns-clause-entries
returns-clause-entries g c =
    let eq = g.K.PartialEq.eq in
    let keys = c.args.keys.now in
    let table = c.args.table.now in
    let es = table.entries in
    let k = c.index-keys-len.result in
    let len = c.len.ensures.len in
    let here : k ≡ get_or keys (length es) k = c.index-keys-len.is ∙ ap (λ n. get_or keys n k) len in
    let none : lookup (eq k) es ≡ None = ap (λ q. lookup (eq q) es) here ∙ absent eq g.met.K.Eq.laws keys (length es) k es c.requires.selection.distinct c.requires.count c.requires.selection.front in
    let ok : c.is_err.result ≡ false = c.if-is_err.false in
    let put = on_ok_of c.insert.result (c.insert.new.self.entries ≡ insert_entry eq es k (fresh c.args.read)) (sym c.is_err.ensures.value ∙ ok) c.insert.ensures.entries in
    (k, slice_get_read keys (length keys) (length es) k refl c.requires.count here, put ∙ insert_entry-new eq table k (fresh c.args.read) none)
