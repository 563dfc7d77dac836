use Rattle.std.proofs.Common.{◌≡◌, ℕ, ◌-◌, ◌/◌, ◌^◌, ◌<◌, ◌≤◌, [], get_or, take}
use Rattle.ledger_merkle.proofs.level.cut_levels.Given as goal

abbrev pub invariant-loop-level : goal.invariant-loop-level
invariant-loop-level l = record {
  order : l.first ≤ l.next;
  first : l.first ≡ l.fn.front / 2 ^ l.level-index;
  next : l.next ≡ l.fn.size / 2 ^ l.level-index;
  done : (h : ℕ) → h < l.level-index → get_or l.level-items h [] ≡ take (l.fn.size / 2 ^ h - l.fn.front / 2 ^ h) (get_or l.initial.level-items h []);
  rest : (h : ℕ) → l.level-index ≤ h → get_or l.level-items h [] ≡ get_or l.initial.level-items h [];
}
