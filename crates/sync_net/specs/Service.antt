-- What a link tells that serves a log, and what a send and a recv leave of it.
use Rattle.std.specs.Prelude.{◌≡◌, ℕ, ◌<◌, ◌≤◌, Bool, true, false, List, [], ◌∷◌, ◌++◌, length, take, drop, slice_get, None, Some, Ok, Err}
use Rattle.std.specs.declared.result.Result.{Result}
use Rattle.std.specs.declared.option.Option.{Option}
use Rattle.std.specs.List.{remove}
use Rattle.sync_net.specs.declared.link.LinkError.{LinkError}
use Rattle.sync_net.specs.Core.{LogData, reply_to}

-- The log that is served. A reply is owed until its last byte was given: what is left of the one in delivery, and those that aren't begun.
pub record Service : Type 0 where
  pub log : LogData
  pub delivering : List ℕ
  pub waiting : List (List ℕ)

-- what a link tells that serves unless it was sent something else than a request
abbrev pub service_of : Bool → Service → Option Service
service_of true s = None
service_of false s = Some s

-- every reply was given whole
abbrev pub NothingOwed : Service → Type 0
NothingOwed s = (s.delivering ≡ []) × (s.waiting ≡ [])

-- the reply is owed too; where there is none, nothing is told any more
abbrev pub owes : Service → Option (List ℕ) → Option Service
owes s None = None
owes s (Some reply) = Some (record s { waiting = s.waiting ++ reply ∷ [] })

-- after a send of these bytes
abbrev pub service_sent : {T : Type 0} → Result T LinkError → List ℕ → Option Service → Option Service
service_sent result bytes None = None
service_sent (Ok x) bytes (Some s) = owes s (reply_to s.log bytes)
service_sent (Err e) bytes (Some s) = Some s

-- an owed reply, chosen freely, is in delivery
pub record Chosen (s t : Service) : Type 0 where
  pub place : ℕ
  pub reply : List ℕ
  pub owed : slice_get s.waiting place ≡ Some reply
  pub begun : t ≡ record s { delivering = reply; waiting = remove s.waiting place }

-- n bytes of the reply in delivery were given
pub record Goes (s : Service) (now : Option Service) (n : ℕ) (buffer : List ℕ) : Type 0 where
  pub some : 0 < n
  pub within : n ≤ length s.delivering
  pub bytes : take n buffer ≡ take n s.delivering
  pub left : now ≡ Some (record s { delivering = drop n s.delivering })

-- After a recv with Ok. While a reply is owed, a buffer that isn't empty takes bytes of one, so the end comes only where nothing is owed.
pub record Receives (s : Service) (now : Option Service) (n : ℕ) (buffer : List ℕ) : Type 0 where
  pub goes_on : 0 < length buffer → 0 < length s.delivering → Goes s now n buffer
  pub begins : 0 < length buffer → length s.delivering ≡ 0 → 0 < length s.waiting → (t : Service) × Chosen s t × Goes t now n buffer
  pub no_room : length buffer ≡ 0 → now ≡ Some s
  pub nothing : length s.delivering ≡ 0 → length s.waiting ≡ 0 → now ≡ Some s

-- after a recv that left these bytes in the buffer
abbrev pub ServiceReceived : Option Service → Option Service → Result ℕ LinkError → List ℕ → Type 0
ServiceReceived None now result buffer = now ≡ None
ServiceReceived (Some s) now (Ok n) buffer = Receives s now n buffer
ServiceReceived (Some s) now (Err e) buffer = now ≡ Some s
