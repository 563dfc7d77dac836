-- What a report does to a tracker.
use Rattle.std.specs.Prelude.{◌≡◌, ◌⊎◌, ℕ, Bool, false, not, List, [], ◌∷◌, ◌++◌, Option, Some, None, AllPairs, map, unwrap_or, is_some, bytes_eq, if◌then◌else◌}
use Rattle.std.specs.List.{list_any}
use Rattle.std.specs.Option.{option_map_or, option_or}
use Rattle.std.specs.Ordering.{nat_cmp, ordering_then, is_gt}
use Rattle.std.specs.declared.cmp.Ordering.{Ordering}
use Rattle.std.specs.Map.{lookup}
use Rattle.std.specs.BTreeMap.{insert_entry, is_at}
use Rattle.simulate_parts.specs.TrackerView.{TrackerView}
use Rattle.simulate_parts.specs.declared.peer.Peer.{Peer}
use Rattle.simulate_parts.specs.declared.peer.Round.{Round}
use Rattle.simulate_parts.specs.declared.tracker.FinalizationUpdate.{FinalizationUpdate}
use Rattle.simulate_parts.specs.declared.tracker.ObserveFault.{ObserveFault}
use Rattle.simulate_parts.specs.declared.tracker.ObserveFault.TheVariants.{Height, Round as at_round, OutOfMemory}

-- the order of rounds: by epoch, then by view
abbrev pub round_cmp : Round → Round → Ordering
round_cmp a b = ordering_then (nat_cmp a.epoch b.epoch) (nat_cmp a.view b.view)

-- the order of peers
abbrev pub peer_cmp : Peer → Peer → Ordering
peer_cmp a b = nat_cmp a.0 b.0

-- a tracker of no reports
abbrev pub fresh : TrackerView
fresh = record { heights = []; rounds = []; validators = [] }

-- the digest at a height
abbrev pub digest_at : TrackerView → ℕ → Option (List ℕ)
digest_at t h = lookup (is_at (nat_cmp h)) t.heights

-- the digests at a round
abbrev pub digests_at : TrackerView → Round → List (List ℕ)
digests_at t r = unwrap_or (lookup (is_at (round_cmp r)) t.rounds) []

-- the last round of each validator
abbrev pub finalized_rounds : TrackerView → List Round
finalized_rounds t = map (λ e. e.1) t.validators

-- another digest is kept at the report's height
abbrev pub disagrees_at_height : TrackerView → FinalizationUpdate → Bool
disagrees_at_height t u = option_map_or (λ d. not (bytes_eq d u.block_digest)) (digest_at t u.height) false

-- another digest is kept at the report's round
abbrev pub disagrees_at_round : TrackerView → FinalizationUpdate → Bool
disagrees_at_round t u = list_any (λ d. not (bytes_eq d u.block_digest)) (digests_at t u.round)

-- why a report is refused, want of memory aside
abbrev pub observe_fault : TrackerView → FinalizationUpdate → Option ObserveFault
observe_fault t u =
    if disagrees_at_height t u then Some (Height u.height)
    else (if disagrees_at_round t u then Some (at_round u.round) else None)

-- the digests per height with this one at this height, where none was
abbrev pub kept_at_height : List (ℕ × List ℕ) → ℕ → List ℕ → List (ℕ × List ℕ)
kept_at_height heights h d = if is_some (lookup (is_at (nat_cmp h)) heights) then heights else insert_entry nat_cmp heights h d

-- these digests with this one at the end, None where it is among them
abbrev pub grown_by : List (List ℕ) → List ℕ → Option (List (List ℕ))
grown_by ds d = if list_any (λ e. bytes_eq e d) ds then None else Some (ds ++ d ∷ [])

-- the digests per round with this one among those at this round
abbrev pub kept_at_round : List (Round × List (List ℕ)) → Round → List ℕ → List (Round × List (List ℕ))
kept_at_round rounds r d =
    option_map_or (insert_entry round_cmp rounds r) (grown_by (unwrap_or (lookup (is_at (round_cmp r)) rounds) []) d) rounds

-- the later of a validator's last round, if there is one, and this round
abbrev pub later_round : Option Round → Round → Round
later_round None r = r
later_round (Some p) r = if is_gt (round_cmp p r) then p else r

-- the rounds per validator with this one for this validator, where that is no step back
abbrev pub raised : List (Peer × Round) → Peer → Round → List (Peer × Round)
raised validators p r = insert_entry peer_cmp validators p (later_round (lookup (is_at (peer_cmp p)) validators) r)

-- with the report's digest at its height, where none was
abbrev pub with_height : TrackerView → FinalizationUpdate → TrackerView
with_height t u = record t { heights = kept_at_height t.heights u.height u.block_digest }

-- with the report's digest among those at its round
abbrev pub with_round : TrackerView → FinalizationUpdate → TrackerView
with_round t u = record t { rounds = kept_at_round t.rounds u.round u.block_digest }

-- with the reporting validator at its round, where that is no step back
abbrev pub with_validator : TrackerView → FinalizationUpdate → TrackerView
with_validator t u = record t { validators = raised t.validators u.pk u.round }

-- after a report that was taken
abbrev pub observed : TrackerView → FinalizationUpdate → TrackerView
observed t u = with_validator (with_round (with_height t u) u) u

-- after a refusal: a conflict at the height changes nothing, one at the round keeps both digests and no
-- validator's round, and want of memory stops before any of the three parts
abbrev pub AfterRefusal : TrackerView → FinalizationUpdate → ObserveFault → TrackerView → Type 0
AfterRefusal t u (Height h) after = after ≡ t
AfterRefusal t u (at_round r) after = after ≡ with_round (with_height t u) u
AfterRefusal t u OutOfMemory after = (after ≡ t) ⊎ ((after ≡ with_height t u) ⊎ (after ≡ with_round (with_height t u) u))

-- the tracker after these reports, from this one on
abbrev pub observed_all : TrackerView → List FinalizationUpdate → TrackerView
observed_all t [] = t
observed_all t (u ∷ us) = observed_all (observed t u) us

-- a fresh tracker after these reports
abbrev pub tracker_of : List FinalizationUpdate → TrackerView
tracker_of us = observed_all fresh us

-- the first refusal of these reports in order, from this tracker on
abbrev pub fault_from : TrackerView → List FinalizationUpdate → Option ObserveFault
fault_from t [] = None
fault_from t (u ∷ us) = option_or (observe_fault t u) (fault_from (observed t u) us)

-- the first refusal of these reports by a fresh tracker
abbrev pub first_fault : List FinalizationUpdate → Option ObserveFault
first_fault us = fault_from fresh us

-- two reports name one digest where they name one height or one round
abbrev pub SameBlocks : FinalizationUpdate → FinalizationUpdate → Type 0
SameBlocks u v =
    (u.height ≡ v.height → u.block_digest ≡ v.block_digest) × (u.round ≡ v.round → u.block_digest ≡ v.block_digest)

-- no two reports name different digests at one height or round
abbrev pub Agree : List FinalizationUpdate → Type 0
Agree us = AllPairs SameBlocks us
