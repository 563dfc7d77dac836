use Rattle.std.proofs.Common.{refl}
use Rattle.simulate_parts.proofs.seats.step_seat.Goals as goal

pub returns-in_ok-step-in-Some : goal.returns-in_ok-step-in-Some
returns-in_ok-step-in-Some g c = record {
  before = c.in-Some.running;
  after = record { birth = c.in-Some.running.birth; engine = c.step.new.engine; state = c.step.new.state };
  ran = c.in-Some.is;
  put = refl;
  birth = refl;
  peer = c.in_ok-step-in-Some.ensures.peer;
  told = c.in_ok-step-in-Some.ensures.told;
  passes = c.in_ok-step-in-Some.ensures.passes;
}
