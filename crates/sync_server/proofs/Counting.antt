-- What a counted call says of a link's count.
use Rattle.std.proofs.Common.{◌≡◌, ◌≤◌, Bool, true, false, [], Result, Ok, Err, ap, ◌∙◌, arith}
use Rattle.ledger_codec.specs.Causes.{HasCauseOf}
use Rattle.ledger_codec.specs.Memory.{is_among}
use Rattle.sync_net.specs.declared.link.LinkError.{LinkError}
use Rattle.sync_net.specs.declared.link.LinkError.TheVariants.{Failed, OutOfMemory}
use Rattle.sync_net.specs.Wire.{CountStays, CannotFail}
use Rattle.sync_server.specs.Links.{CallsView, fails_next, called_if, called, Counts}

-- the count after a call
faults_are : (b : Bool) (old now : CallsView) → fails_next old ≡ b → now ≡ called old → now.faults ≡ (called_if b old).faults
faults_are b old now f e = ap (λ (c : CallsView). c.faults) e ∙ ap (λ (x : Bool). (called_if x old).faults) f

failing_are : (b : Bool) (old now : CallsView) → fails_next old ≡ b → now ≡ called old → now.failing ≡ (called_if b old).failing
failing_are b old now f e = ap (λ (c : CallsView). c.failing) e ∙ ap (λ (x : Bool). (called_if x old).failing) f

pub count_cause : {T : Type 0} (result : Result T LinkError) (old now : CallsView) → old.faults ≤ now.faults → Counts result old now → HasCauseOf Failed old.faults now.faults result
count_cause (Ok x) old now later c = record { later = later; failed = λ f. absurd (let e : Ok x ≡ Err Failed = f in cc) }
count_cause (Err Failed) old now later c = let e = faults_are true old now c.0 c.1 in record { later = later; failed = λ f. omega (arith, e) }
count_cause (Err OutOfMemory) old now later c = record { later = later; failed = λ f. absurd (let e : Err OutOfMemory ≡ Err Failed = f in cc) }

pub count_stays : {T : Type 0} (result : Result T LinkError) (old now : CallsView) → Counts result old now → CountStays old.faults now.faults result
count_stays (Ok x) old now c = faults_are false old now c.0 c.1
count_stays (Err Failed) old now c = tt
count_stays (Err OutOfMemory) old now c = faults_are false old now c.0 c.1

-- no number is in an empty list
none_fails : (old : CallsView) → old.failing ≡ [] → fails_next old ≡ false
none_fails old e = ap (is_among old.made) e

pub count_steady : {T : Type 0} (result : Result T LinkError) (old now : CallsView) → Counts result old now → old.failing ≡ [] → (now.failing ≡ []) × CannotFail old.faults now.faults result
count_steady (Ok x) old now c e = (failing_are false old now c.0 c.1 ∙ e, faults_are false old now c.0 c.1)
count_steady (Err Failed) old now c e = absurd (let n = none_fails old e in let y = c.0 in cc)
count_steady (Err OutOfMemory) old now c e = (failing_are false old now c.0 c.1 ∙ e, faults_are false old now c.0 c.1)
