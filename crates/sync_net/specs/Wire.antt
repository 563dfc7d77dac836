-- What a link may tell, and what a send and a recv leave of it.
use Rattle.std.specs.Prelude.{◌≡◌, ℕ, Bool, ◌||◌, ◌&&◌, ◌==◌, nat_lt, List, ◌++◌, length, take, Ok, Err, option_map, IsTrue, IfOk, IfSome}
use Rattle.std.specs.declared.result.Result.{Result}
use Rattle.std.specs.declared.option.Option.{Option}
use Rattle.sync_net.specs.declared.link.LinkError.{LinkError}
use Rattle.sync_net.specs.declared.link.LinkError.TheVariants.{Failed, OutOfMemory}

-- a call that isn't Failed leaves the count
abbrev pub CountStays : {T : Type 0} → ℕ → ℕ → Result T LinkError → Type 0
CountStays before now (Ok x) = now ≡ before
CountStays before now (Err Failed) = Unit {0}
CountStays before now (Err OutOfMemory) = now ≡ before

-- a call that doesn't fail, and leaves the count
abbrev pub CannotFail : {T : Type 0} → ℕ → ℕ → Result T LinkError → Type 0
CannotFail before now (Ok x) = now ≡ before
CannotFail before now (Err Failed) = ⊥
CannotFail before now (Err OutOfMemory) = now ≡ before

-- the bytes given so far, whether the end was given, and the bytes sent so far
pub record Wire : Type 0 where
  pub given : List ℕ
  pub ended : Bool
  pub sent : List ℕ

-- these bytes were sent too
abbrev pub with_sent : List ℕ → Wire → Wire
with_sent bytes w = record w { sent = w.sent ++ bytes }

-- so many bytes of the buffer were given; 0 bytes of a buffer that isn't empty are the end
abbrev pub with_given : ℕ → List ℕ → Wire → Wire
with_given n buffer w = record w { given = w.given ++ take n buffer; ended = w.ended || (n == 0 && nat_lt 0 (length buffer)) }

-- after a send of these bytes
abbrev pub wire_sent : {T : Type 0} → Result T LinkError → List ℕ → Option Wire → Option Wire
wire_sent (Ok x) bytes told = option_map (with_sent bytes) told
wire_sent (Err e) bytes told = told

-- after a recv that left these bytes in the buffer
abbrev pub wire_received : Result ℕ LinkError → List ℕ → Option Wire → Option Wire
wire_received (Ok n) buffer told = option_map (with_given n buffer) told
wire_received (Err e) buffer told = told

-- once the end was given, a recv that doesn't fail gives it again
abbrev pub EndsAgain : Option Wire → Result ℕ LinkError → Type 0
EndsAgain told result = IfSome told (λ w. IsTrue w.ended → IfOk result (λ n. n ≡ 0))
