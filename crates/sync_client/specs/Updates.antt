-- Later targets: which are taken, and what is fetched after each.
use Rattle.std.specs.Prelude.{◌≡◌, ◌+◌, ◌<◌, ◌≤◌, Bool, ◌||◌, true, false, List, [], ◌∷◌, ◌++◌, length, Option, Some, None, Result, Ok, Err, nat_lt, nat_le, refl, if◌then◌else◌}
use Rattle.std.proofs.lemmas.Bool.{ltb-true}
use Rattle.ledger_log.specs.declared.target.Target.{Target}
use Rattle.sync_client.specs.declared.fault.SyncFault.{SyncFault}
use Rattle.sync_client.specs.declared.fault.SyncFault.TheVariants as faults
use Rattle.sync_client.specs.Asking.{Plan}

-- ---- one target

-- the first start with the later root and end, where the end is behind the start
abbrev pub joined : (first later : Target) (ordered : Bool) → nat_lt first.start later.end ≡ ordered → Target
joined first later true less = record { root = later.root; start = first.start; end = later.end; ordered = ltb-true first.start later.end less }
joined first later false less = first

-- the first start with the later root and end
abbrev pub aimed : Target → Target → Target
aimed first later = joined first later (nat_lt first.start later.end) refl

-- a target that begins below the one that was taken last, or doesn't end behind it
abbrev pub is_stale : Plan → Target → Bool
is_stale plan later = nat_lt later.start plan.low || nat_le later.end plan.target.end

-- what is fetched after this target was taken
abbrev pub with_target : Plan → Target → Plan
with_target plan later = record plan { target = aimed plan.target later; low = later.start; taken = plan.taken + 1 }

-- ---- the answers on later targets

-- the answers that are left after one was taken off
abbrev pub answers_left : List (Option Target) → List (Option Target)
answers_left [] = []
answers_left (answer ∷ later) = later

-- the answer that comes next; none past the end
abbrev pub answer_next : List (Option Target) → Option Target
answer_next [] = None
answer_next (answer ∷ later) = answer

-- what is fetched after the next answer, with the answers that are then left; a stale target isn't taken
abbrev pub heed : Plan → List (Option Target) → Result (Plan × List (Option Target)) Target
heed plan [] = Ok (plan, [])
heed plan (None ∷ later) = Ok (plan, later)
heed plan (Some target ∷ later) = if is_stale plan target then Err target else Ok (with_target plan target, later)

-- the next answer counts where something is left to fetch, and while fewer than 8 targets were taken
unfoldable pub heeded : Bool → Plan → List (Option Target) → Result (Plan × List (Option Target)) Target
heeded whole plan answers = if whole || nat_le 8 plan.taken then Ok (plan, answers) else heed plan answers

-- ---- all that a call took

-- the targets among answers
abbrev pub targets_in : List (Option Target) → List Target
targets_in [] = []
targets_in (None ∷ later) = targets_in later
targets_in (Some target ∷ later) = target ∷ targets_in later

-- the last of these targets, or else the given one
abbrev pub last_of : Target → List Target → Target
last_of target [] = target
last_of target (later ∷ others) = last_of later others

-- the later target doesn't begin below this one, and ends behind it
pub record IsFresh (target later : Target) : Type 0 where
  pub start : target.start ≤ later.start
  pub end : target.end < later.end

-- each target is fresh after the one before it
abbrev pub AreFresh : Target → List Target → Type 0
AreFresh target [] = Unit {0}
AreFresh target (later ∷ others) = IsFresh target later × AreFresh later others

-- these answers were taken off the list: at most 8 of them are targets, each fresh after the given target and those before it
pub record AreTaken (target : Target) (took before now : List (Option Target)) : Type 0 where
  pub all : before ≡ took ++ now
  pub few : length (targets_in took) ≤ 8
  pub fresh : AreFresh target (targets_in took)

-- the first start, and the root and end of the target that was taken last
pub record IsSynced (first last synced : Target) : Type 0 where
  pub start : synced.start ≡ first.start
  pub root : synced.root ≡ last.root
  pub end : synced.end ≡ last.end

-- What a call took off the list of answers. The synced target is that of the last one taken; a target is refused as stale exactly after all that were taken.
abbrev pub TakesUpdates : {X : Type 0} → Result (Target × X) SyncFault → Target → List (Option Target) → List (Option Target) → Type 0
TakesUpdates (Ok x) target before now = (took : List (Option Target)) × AreTaken target took before now × IsSynced target (last_of target (targets_in took)) x.0
TakesUpdates (Err (faults.StaleUpdate start end)) target before now = (took : List (Option Target)) × (stale : Target) × AreTaken target took before (Some stale ∷ now) × (length (targets_in took) < 8) × (IsFresh (last_of target (targets_in took)) stale → ⊥) × (start ≡ stale.start) × (end ≡ stale.end)
TakesUpdates (Err e) target before now = (took : List (Option Target)) × AreTaken target took before now
