use Rattle.std.proofs.Common.{sym, ◌∙◌}
use Rattle.ledger_generate.proofs.Making.{one_body}
use Rattle.ledger_generate.proofs.Settled.{memory_alone}
use Rattle.ledger_generate.specs.Generated.{generated}
use Rattle.ledger_generate.proofs.generate.report_of.Goals as goal

pub wanting-requires : goal.wanting-requires
wanting-requires g c =
    let opened = sym (c.from_vec-accounts.ensures ∙ c.in_ok-accounts.ensures) in
    let blocks = one_body c.args.sizes _ _ _ _ _ c.from_vec-blocks.ensures c.in_ok-push.ensures.items c.in_ok-blocks.ensures.items c.from_vec.ensures c.in_ok-batch.ensures in
    memory_alone c.args.sizes c.accounts-within.ensures.within c.in-Err.fault (c.in-Err.ensures.fails (generated c.args.sizes) opened blocks)

pub returns-in-Ok : goal.returns-in-Ok
returns-in-Ok g c =
    let opened = sym (c.from_vec-accounts.ensures ∙ c.in_ok-accounts.ensures) in
    let blocks = one_body c.args.sizes _ _ _ _ _ c.from_vec-blocks.ensures c.in_ok-push.ensures.items c.in_ok-blocks.ensures.items c.from_vec.ensures c.in_ok-batch.ensures in
    c.in-Ok.ensures.reports (generated c.args.sizes) opened blocks
