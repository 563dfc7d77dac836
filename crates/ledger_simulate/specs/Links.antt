-- The links of a run.
use Rattle.std.specs.Prelude.{ℕ, List, unwrap_or}
use Rattle.std.specs.Map.{lookup}
use Rattle.std.specs.BTreeMap.{is_at}
use Rattle.simulate_parts.specs.declared.link.SimLink.{SimLink}
use Rattle.simulate_parts.specs.declared.peer.Peer.{Peer}
use Rattle.ledger_simulate.specs.Queue.{key_cmp}
use Rattle.ledger_simulate.specs.declared.links.Links.{Links}

-- the link that all have but for those that were set since
abbrev pub common_link : Links → SimLink
common_link links = links.all

-- the links that were set since, by sender and receiver
abbrev pub changed_links : Links → List ((ℕ × ℕ) × SimLink)
changed_links links = links.changed.entries

-- the link from one peer to another
abbrev pub link_of : Links → Peer → Peer → SimLink
link_of links from to = unwrap_or (lookup (is_at (key_cmp (from.0, to.0))) (changed_links links)) (common_link links)
