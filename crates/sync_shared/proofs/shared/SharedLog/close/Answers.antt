use Rattle.std.proofs.Common.{◌≡◌, ◌<◌, ℕ, ap, subst}
use Rattle.sync_shared.specs.Replies.{Closes}
use Rattle.sync_shared.proofs.shared.SharedLog.close.Goals as goal

pub close-value-requires-clause-all : goal.close-value-requires-clause-all
close-value-requires-clause-all g c = λ k lt. c.requires.all k (subst (λ n. k < n) (ap (λ v. v.passes) c.self.view_is) lt)

pub returns : goal.returns
returns g c =
    let e = c.close-value.ensures in
    let r : Closes g.F.Family.floor_of c.self.inside.lock.opening c.args.passes.items c.close-value.result.value c.close-value.result.history.items = record { legal = e.legal; log_is = e.value; seen = e.seen; own = e.own; others = e.others } in
    subst (λ o. Closes g.F.Family.floor_of o c.args.passes.items c.close-value.result.value c.close-value.result.history.items) (ap (λ v. v.opening) c.self.view_is) r
