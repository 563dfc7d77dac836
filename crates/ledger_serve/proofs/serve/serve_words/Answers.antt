use Rattle.std.proofs.Common.{sym, ◌∙◌, map, string_bytes}
use Rattle.serve_parts.proofs.Compacts.{form_compact}
use Rattle.ledger_serve.proofs.serve.serve_words.Goals as goal

pub serve_asked-requires-clause-compact : goal.serve_asked-requires-clause-compact
serve_asked-requires-clause-compact g c κs within = form_compact (map string_bytes c.args.words.now) c.in-Some.form (sym c.in-Some.is ∙ c.serve_form.ensures.form)
