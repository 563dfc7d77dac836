use Rattle.std.proofs.Common.{◌≡◌, ◌∙◌, ap, sym, ℕ, List, Some}
use Rattle.std.specs.Prelude.{◌==◌, position}
use Rattle.sync_net.specs.declared.ask.Pending.{Pending}
use Rattle.sync_net.specs.Numbered.{number_of}
use Rattle.sync_net.specs.Asks.{pending_in, replied_to}
use Rattle.sync_net.proofs.Answering.{taken, kept_apart}
use Rattle.sync_net.proofs.machine.answer_to.Goals as goal

pub returns-in_ok-answer-in-Some : goal.returns-in_ok-answer-in-Some
returns-in_ok-answer-in-Some g c =
    let m = c.args.message in
    let pending = c.args.pending.now.items in
    let now = c.remove-taken.new.self.items in
    let seen : c.deref.result.now ≡ pending = c.deref.ensures.value in
    let number : c.request_id-number.result ≡ number_of m = c.request_id-number.ensures in
    let found : pending_in (number_of m) pending ≡ Some c.in-Some.found = sym (c.in-Some.ensures.ask ∙ ap (λ (n : ℕ). pending_in n c.deref.result.now) number ∙ ap (λ (ps : List Pending). pending_in (number_of m) ps) seen) in
    let at : position (λ q. q.number == number_of m) pending ≡ Some c.in-Some.place = sym (c.in-Some.ensures.place ∙ ap (λ (n : ℕ). position (λ (q : Pending). q.number == n) c.deref.result.now) number ∙ ap (λ (ps : List Pending). position (λ (q : Pending). q.number == number_of m) ps) seen) in
    let said = ap (λ (n : ℕ). replied_to n c.in-Some.found.ask m) (sym number) ∙ (sym c.replied.ensures ∙ c.in_ok-answer-in-Some.was) in
    record {
      replies = taken m pending now c.in-Some.found c.in-Some.place c.in_ok-answer-in-Some.answer found at said c.remove-taken.ensures.items;
      once = λ next old. kept_apart next m pending now c.in-Some.found c.in-Some.place c.in_ok-answer-in-Some.answer at said c.remove-taken.ensures.items old;
    }
