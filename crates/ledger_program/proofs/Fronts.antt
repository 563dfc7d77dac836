-- What went out of a report's text and of a fault's line.
use Rattle.std.proofs.Common.{◌≡◌, ℕ, zero, suc, ◌≤◌, inl, inr, Bool, List, [], ◌++◌, length, take, Option, Some, None, Result, Ok, Err, refl, sym, ap, subst, ◌∙◌, append-nil}
use Rattle.std.proofs.Math.Seq.{take-length}
use Rattle.std.proofs.KnownBytes.{Appends-trans}
use Rattle.std.specs.Io.KnownBytes.{Appends}
use Rattle.ledger_codec.specs.declared.sink.SinkError.{SinkError}
use Rattle.ledger_codec.specs.declared.sink.SinkError.TheVariants.{Failed, OutOfMemory as memory_wanting}
use Rattle.ledger_program.proofs.Pieces.{rose_before}
use Rattle.ledger_program.specs.ErrorLines.{line_of}
use Rattle.ledger_program.specs.Run.{WriteFails, WroteText, IsEarly, LineWent, LineOut, LineBehind}
use Rattle.ledger_program.specs.Writing.{AppendsFront, Writes}
use Rattle.ledger_program.specs.declared.outcome.RunFault.{RunFault}
use Rattle.ledger_program.specs.declared.outcome.RunFault.TheVariants.{Usage, BadJob, JobRead, JobTooLarge, Dial, Follow as RunFollow, Output, OutOfMemory}

module _ {grows : Bool} (a b : Option (List ℕ)) (x y : ℕ) (text : List ℕ) where
  -- what went out of a text in each case
  pub front_of_line : (r : Result (Unit {0}) SinkError) → Writes grows a b x y text r → AppendsFront a b text
  front_of_line (Ok u) w = (length text, subst (Appends a b) (sym (take-length text)) w.all)
  front_of_line (Err e) w = w.front

  pub line_went : (r : Result (Unit {0}) SinkError) → Writes grows a b x y text r → LineWent grows x y (Appends a b text)
  line_went (Ok u) w = inl w.all
  line_went (Err Failed) w = inr (inl (w.failed cc))
  line_went (Err memory_wanting) w = inr (inr (w.memory cc))

take_nothing : (n : ℕ) → take {A = ℕ} n [] ≡ []
take_nothing zero = refl
take_nothing (suc n) = refl

-- nothing more went out
nothing_more : (a b c : Option (List ℕ)) (text : List ℕ) → Appends a b text → AppendsFront b c [] → Appends a c text
nothing_more a b c text p (n, q) = subst (Appends a c) (ap (λ l. text ++ l) (take_nothing n) ∙ append-nil text) (Appends-trans a b c text (take n []) p q)

-- what went out of a text whose writing failed, and of the line behind it
pub wrote_late : (a b c : Option (List ℕ)) (text : List ℕ) (fault : RunFault) (before now : ℕ) → WriteFails a b text before now fault → AppendsFront b c (line_of fault) → WroteText a c text (Some fault)
wrote_late a b c text Usage before now w l = absurd w
wrote_late a b c text (BadJob line) before now w l = absurd w
wrote_late a b c text JobRead before now w l = absurd w
wrote_late a b c text JobTooLarge before now w l = absurd w
wrote_late a b c text Dial before now w l = absurd w
wrote_late a b c text (RunFollow fault) before now w l = absurd w
wrote_late a b c text Output before now w l = (w.0.0, nothing_more a b c (take w.0.0 text) w.0.1 l)
wrote_late a b c text OutOfMemory before now w l = record {
  front = w.0;
  then = l.0;
  went = Appends-trans a b c (take w.0 text) (take l.0 (line_of OutOfMemory)) w.1 l.1;
}

-- where there was no memory for a text, none of it went out
pub unwritten : (a b : Option (List ℕ)) (text : List ℕ) → AppendsFront a b (line_of OutOfMemory) → WroteText a b text (Some OutOfMemory)
unwritten a b text l = record { front = 0; then = l.0; went = l.1 }

pub unwritten_line : (grows : Bool) (a b : Option (List ℕ)) (x y : ℕ) (text : List ℕ) → LineWent grows x y (Appends a b (line_of OutOfMemory)) → LineBehind grows a b x y text OutOfMemory
unwritten_line grows a b x y text (inl w) = inl (0, w)
unwritten_line grows a b x y text (inr w) = inr w

-- the line of a fault that came before there was a report
pub early_line : (grows : Bool) (a b : Option (List ℕ)) (x y : ℕ) (fault : RunFault) → IsEarly fault → LineWent grows x y (Appends a b (line_of fault)) → LineOut grows a b x y None fault
early_line grows a b x y Usage e w = w
early_line grows a b x y (BadJob line) e w = w
early_line grows a b x y JobRead e w = w
early_line grows a b x y JobTooLarge e w = w
early_line grows a b x y Dial e w = w
early_line grows a b x y (RunFollow fault) e w = w
early_line grows a b x y Output e w = tt
early_line grows a b x y OutOfMemory e (inl w) = inl (0, w)
early_line grows a b x y OutOfMemory e (inr w) = inr w

-- the line of a fault that came while a text was written
pub late_line : (grows : Bool) (a b c : Option (List ℕ)) (x y z : ℕ) (text : List ℕ) (fault : RunFault) → WriteFails a b text x y fault → x ≤ y → LineWent grows y z (Appends b c (line_of fault)) → LineBehind grows a c x z text fault
late_line grows a b c x y z text Usage w h l = absurd w
late_line grows a b c x y z text (BadJob line) w h l = absurd w
late_line grows a b c x y z text JobRead w h l = absurd w
late_line grows a b c x y z text JobTooLarge w h l = absurd w
late_line grows a b c x y z text Dial w h l = absurd w
late_line grows a b c x y z text (RunFollow fault) w h l = absurd w
late_line grows a b c x y z text Output w h l = tt
late_line grows a b c x y z text OutOfMemory w h (inl l) = inl (w.0, Appends-trans a b c (take w.0 text) (line_of OutOfMemory) w.1 l)
late_line grows a b c x y z text OutOfMemory w h (inr (inl l)) = inr (inl (rose_before x y z h l))
late_line grows a b c x y z text OutOfMemory w h (inr (inr l)) = inr (inr l)
