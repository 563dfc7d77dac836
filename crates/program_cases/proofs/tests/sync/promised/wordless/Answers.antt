use Rattle.std.proofs.Common.{◌≡◌, ◌∙◌, ap, map, Option, None, not}
use Rattle.std.proofs.lemmas.Bool.{eqb-true}
use Rattle.std.specs.Prelude.{is_some, string_bytes}
use Rattle.ledger_sync.specs.Forms.{form_of}
use Rattle.ledger_sync.specs.declared.form.SyncForm.{SyncForm}
use Rattle.program_cases.proofs.tests.sync.promised.wordless.Goals as goal

pub returns : goal.returns
returns c =
    let none : form_of (map string_bytes c.args.words.now) ≡ None = ap (λ ws. form_of (map string_bytes ws)) c.requires in
    record {
      usage = eqb-true c.run_sync.result.status 2 (c.run_sync.ensures.usage ∙ ap (λ (form : Option SyncForm). not (is_some form)) none);
      undialed = c.run_sync.ensures.undialed none;
    }
