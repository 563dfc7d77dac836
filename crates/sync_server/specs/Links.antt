-- The links in memory as contracts see them, and what their calls leave.
use Rattle.std.specs.Prelude.{◌≡◌, ℕ, ◌-◌, ◌%◌, ◌^◌, min, max, Bool, true, false, ◌||◌, ◌&&◌, ◌==◌, nat_lt, List, [], ◌∷◌, ◌++◌, length, take, drop, slice_get, get_or, Option, Some, None, Result, Ok, Err, if◌then◌else◌}
use Rattle.std.specs.List.{remove}
use Rattle.ledger_codec.specs.Memory.{is_among, next_call}
use Rattle.ledger_log.specs.View.{LogView}
use Rattle.sync_net.specs.declared.link.LinkError.{LinkError}
use Rattle.sync_net.specs.declared.link.LinkError.TheVariants.{Failed, OutOfMemory}
use Rattle.sync_net.specs.Core.{data_of, reply_to}
use Rattle.sync_net.specs.Service.{Service}
use Rattle.sync_net.specs.Wire.{Wire}

-- ---- calls and cuts

-- how many calls were made, which of them fail, and how many failed
pub record CallsView : Type 0 where
  pub made : ℕ
  pub failing : List ℕ
  pub faults : ℕ

-- the next call fails
abbrev pub fails_next : CallsView → Bool
fails_next calls = is_among calls.made calls.failing

-- one more call was made, and failed or didn't
abbrev pub called_if : Bool → CallsView → CallsView
called_if true calls = record calls { made = next_call calls.made; faults = next_call calls.faults }
called_if false calls = record calls { made = next_call calls.made }

-- one more call was made
abbrev pub called : CallsView → CallsView
called calls = called_if (fails_next calls) calls

-- a call of a link was counted, and failed exactly where its number is listed
abbrev pub Counts : {T : Type 0} → Result T LinkError → CallsView → CallsView → Type 0
Counts (Ok x) old now = (fails_next old ≡ false) × (now ≡ called old)
Counts (Err Failed) old now = (fails_next old ≡ true) × (now ≡ called old)
Counts (Err OutOfMemory) old now = (fails_next old ≡ false) × (now ≡ called old)

-- how many bytes each recv gives at most, and how many recvs were made
pub record CutsView : Type 0 where
  pub cuts : List ℕ
  pub made : ℕ

-- a cut of 0 is 1, and past the list there is none
abbrev pub cut_of : Option ℕ → ℕ
cut_of (Some cut) = max cut 1
cut_of None = 2 ^ 64 - 1

-- how many bytes the next recv gives at most
abbrev pub next_cut : CutsView → ℕ
next_cut cuts = cut_of (slice_get cuts.cuts cuts.made)

-- one more recv was made
abbrev pub cut_more : CutsView → CutsView
cut_more cuts = record cuts { made = next_call cuts.made }

-- how many of so many bytes a recv gives that has this room
abbrev pub given_count : CutsView → ℕ → ℕ → ℕ
given_count cuts left room = min (next_cut cuts) (min left room)

-- ---- tapes

-- the bytes given and the bytes to come, whether the end was given, and the bytes sent
pub record TapeView : Type 0 where
  pub given : List ℕ
  pub left : List ℕ
  pub ended : Bool
  pub sent : List ℕ
  pub cuts : CutsView
  pub calls : CallsView

-- the end was given before, or is now: 0 bytes where there is room
abbrev pub ended_after : Bool → ℕ → ℕ → Bool
ended_after ended n room = ended || (n == 0 && nat_lt 0 room)

-- a send that doesn't fail keeps the bytes
abbrev pub TapeSends : Result (Unit {0}) LinkError → List ℕ → TapeView → TapeView → Type 0
TapeSends (Ok x) bytes old now = now ≡ record old { sent = old.sent ++ bytes; calls = called old.calls }
TapeSends (Err e) bytes old now = now ≡ record old { calls = called old.calls }

-- a recv that doesn't fail gives the next bytes, and none refuses for memory
abbrev pub TapeReceives : Result ℕ LinkError → List ℕ → TapeView → TapeView → Type 0
TapeReceives (Ok n) buffer old now =
    (n ≡ given_count old.cuts (length old.left) (length buffer)) × (take n buffer ≡ take n old.left)
    × (now ≡ record old { given = old.given ++ take n old.left; left = drop n old.left; ended = ended_after old.ended n (length buffer); cuts = cut_more old.cuts; calls = called old.calls })
TapeReceives (Err Failed) buffer old now = now ≡ record old { cuts = cut_more old.cuts; calls = called old.calls }
TapeReceives (Err OutOfMemory) buffer old now = ⊥

-- what a tape tells
abbrev pub tape_wire : TapeView → Wire
tape_wire v = record { given = v.given; ended = v.ended; sent = v.sent }

-- ---- links that serve

-- the log, the order of deliveries and how many were begun; what is left of the reply in delivery, and the owed ones; whether something else than a request was sent
pub record MemoryView (Op : Type 0) : Type 0 where
  pub log : LogView Op
  pub order : List ℕ
  pub begun : ℕ
  pub delivering : List ℕ
  pub waiting : List (List ℕ)
  pub lost : Bool
  pub cuts : CutsView
  pub calls : CallsView

module _ {Op : Type 0} where
  -- which owed reply is delivered next: that of the order modulo their number, and past the order the first
  abbrev pub next_place : MemoryView Op → ℕ
  next_place v = get_or v.order v.begun 0 % length v.waiting

  -- the reply in delivery is this one, where there is one
  abbrev pub begun_with : Option (List ℕ) → MemoryView Op → MemoryView Op
  begun_with None v = v
  begun_with (Some reply) v = record v { begun = next_call v.begun; delivering = reply; waiting = remove v.waiting (next_place v) }

  -- where no reply is in delivery, the next owed one is
  abbrev pub started : MemoryView Op → MemoryView Op
  started v = if length v.delivering == 0 then begun_with (slice_get v.waiting (next_place v)) v else v

  -- where there is room for bytes of it
  abbrev pub started_for : ℕ → MemoryView Op → MemoryView Op
  started_for room v = if nat_lt 0 room then started v else v

  -- a reply is owed; without one the link has lost its place
  abbrev pub owing : Option (List ℕ) → MemoryView Op → MemoryView Op
  owing (Some reply) v = record v { waiting = v.waiting ++ reply ∷ [] }
  owing None v = record v { lost = true }

  -- a send that doesn't fail owes the reply
  abbrev pub MemorySends : (Op → List ℕ) → (Op → Option ℕ) → Result (Unit {0}) LinkError → List ℕ → MemoryView Op → MemoryView Op → Type 0
  MemorySends spelling floor_of (Ok x) bytes old now = now ≡ owing (reply_to (data_of spelling floor_of old.log) bytes) (record old { calls = called old.calls })
  MemorySends spelling floor_of (Err e) bytes old now = now ≡ record old { calls = called old.calls }

  -- so many bytes of the reply in delivery were given
  abbrev pub delivered : ℕ → MemoryView Op → MemoryView Op
  delivered n v = record v { delivering = drop n v.delivering; cuts = cut_more v.cuts; calls = called v.calls }

  -- a recv that doesn't fail gives the next bytes of the reply in delivery, and none refuses for memory
  abbrev pub MemoryReceives : Result ℕ LinkError → List ℕ → MemoryView Op → MemoryView Op → Type 0
  MemoryReceives (Ok n) buffer old now =
      (n ≡ given_count old.cuts (length (started_for (length buffer) old).delivering) (length buffer)) × (take n buffer ≡ take n (started_for (length buffer) old).delivering)
      × (now ≡ delivered n (started_for (length buffer) old))
  MemoryReceives (Err Failed) buffer old now = now ≡ record old { cuts = cut_more old.cuts; calls = called old.calls }
  MemoryReceives (Err OutOfMemory) buffer old now = ⊥

  -- what such a link tells
  abbrev pub service_told : (Op → List ℕ) → (Op → Option ℕ) → MemoryView Op → Service
  service_told spelling floor_of v = record { log = data_of spelling floor_of v.log; delivering = v.delivering; waiting = v.waiting }
