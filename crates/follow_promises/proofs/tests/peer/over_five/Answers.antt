use Rattle.std.proofs.Common.{ap, ◌∙◌}
use Rattle.std.specs.Prelude.{map, string_bytes}
use Rattle.follow_promises.proofs.Peering.{ends_so}
use Rattle.follow_promises.proofs.tests.peer.over_five.Goals as goal

pub returns : goal.returns
returns g c = ends_so (map string_bytes c.deref.result.now) _ _ _ _ _ _ c.run.result.status (ap (map string_bytes) c.deref.ensures.value ∙ c.in_ok-words.ensures) c.requires c.run.ensures.complete
