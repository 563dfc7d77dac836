use Rattle.std.proofs.Common.{◌∙◌, flat_map, ap, rules}
use Rattle.std.proofs.lemmas.List.Sorted.{IsNonDecreasingBy-from_sort_by_key}
use Rattle.sync_client.specs.declared.collector.Piece.{Piece}
use Rattle.sync_client.proofs.joining.operations.Goals as goal

pub returns : goal.returns
returns g c = (
  c.sort_unstable_by_key.new.self.items,
  c.sort_unstable_by_key.ensures.permutation,
  IsNonDecreasingBy-from_sort_by_key (λ (p : Piece g.row.Op.Denot). p.at) _ c.sort_unstable_by_key.ensures.sorted (λ a r q k. search rules),
  c.in_ok-ops.ensures ∙ ap (flat_map (λ (p : Piece g.row.Op.Denot). p.ops)) c.deref.ensures.value,
)
