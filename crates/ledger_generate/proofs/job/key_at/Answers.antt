use Rattle.std.proofs.Common.{◌≡◌, ◌≤◌, ◌++◌, length, subst, sym, ◌∙◌}
use Rattle.std.specs.Prelude.{codes}
use Rattle.std.specs.Fmt.{decimal}
use Rattle.ledger_generate.proofs.Making.{name_short}
use Rattle.ledger_generate.proofs.job.key_at.Goals as goal

pub filled-requires : goal.filled-requires
filled-requires c =
    let e : c.as_bytes.result.now ≡ codes "g" ++ decimal c.args.number = c.as_bytes.ensures.value ∙ c.in_ok-name.ensures.ok in
    subst (λ xs. length xs ≤ 32) (sym e) (name_short c.args.number c.ranges.number.fits)
