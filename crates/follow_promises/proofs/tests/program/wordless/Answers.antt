use Rattle.std.proofs.Common.{◌≡◌, ◌∙◌, ◌==◌, ap, refl, sym, map, List, Option, Some, None, not}
use Rattle.std.proofs.lemmas.Bool.{eqb-true}
use Rattle.std.specs.Prelude.{is_some, string_bytes}
use Rattle.ledger_job.specs.declared.kind.JobKind.{JobKind}
use Rattle.ledger_job.specs.declared.kind.JobKind.TheVariants.{Follow}
use Rattle.ledger_program.specs.Forms.{form_of}
use Rattle.follow_promises.proofs.tests.program.wordless.Goals as goal

pub returns : goal.returns
returns g c =
    let none : form_of (map string_bytes c.args.words.now) ≡ None = ap (λ ws. form_of (map string_bytes ws)) c.requires in
    record {
      usage = eqb-true c.run.result.status 2 (c.run.ensures.usage ∙ ap (λ (form : Option JobKind). not (is_some form)) none);
      unread = c.run.ensures.unread none;
      undialed = c.run.ensures.undialed (λ follows. (let k : None ≡ Some Follow = sym none ∙ follows in cc k));
    }
