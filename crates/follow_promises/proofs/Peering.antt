-- A job that names the log of four accounts and that of five, over a link that serves the latter.
use Rattle.std.proofs.Common.{◌≡◌, ◌≤◌, ℕ, ◌+◌, List, [], ◌∷◌, ◌++◌, length, map, Option, Some, None, refl, sym, ap, subst, ◌∙◌, inl, inr}
use Rattle.std.specs.Prelude.{◌⊎◌, codes, count_ones, IfSome}
use Rattle.sha2.specs.Sha256.{sha256}
use Rattle.ledger_codec.specs.Causes.{Rose}
use Rattle.ledger_job.specs.declared.block.Block.{Block}
use Rattle.ledger_job.specs.declared.job.Job.{Job}
use Rattle.ledger_job.specs.declared.kind.JobKind.{JobKind}
use Rattle.ledger_job.specs.declared.kind.JobKind.TheVariants as kinds
use Rattle.ledger_job.specs.declared.payment.Payment.{Payment}
use Rattle.ledger_log.specs.Any.{any_floor, any_spelling}
use Rattle.ledger_log.specs.View.{LogView}
use Rattle.ledger_log.specs.declared.any.AnyOp.{AnyOp}
use Rattle.ledger_log.specs.declared.target.Target.{Target}
use Rattle.ledger_merkle.specs.Tree.{part_root}
use Rattle.ledger_program.specs.Follow.{IsValid}
use Rattle.ledger_program.specs.Forms.{form_of}
use Rattle.ledger_program.specs.Peer.{Over, IsServing, payments}
use Rattle.ledger_program.specs.Run.{Completes, IsJob, SpansLog}
use Rattle.sync_client.specs.Owing.{OwesNothing}
use Rattle.sync_client.specs.Serving.{HasLater}
use Rattle.sync_client.specs.Updates.{IsSynced, last_of, targets_in}
use Rattle.sync_net.specs.Core.{data_of}
use Rattle.sync_net.specs.Service.{Service}
use Rattle.follow_promises.specs.Four.{fifth, five_log, four, four_log}
use Rattle.follow_promises.specs.Runs.{NamesBoth}
use Rattle.follow_promises.proofs.Laters.{has_later, serves_first, valid_so}
use Rattle.follow_promises.proofs.Runs.{is_follow, no_rise}

-- a target with the start, root and end of one of a log is one of it
spans_as : (t s : Target) (log : LogView AnyOp) → s.start ≡ t.start → s.root ≡ t.root → s.end ≡ t.end → SpansLog t log → SpansLog s log
spans_as t s log e r f h = record {
  start = e ∙ h.start;
  end = f ∙ h.end;
  spans = record {
    nodes = h.spans.nodes ∙ ap count_ones (sym e);
    range = ap (λ (n : ℕ). n + length log.ops) e ∙ (h.spans.range ∙ sym f);
    root = ap (λ (n : ℕ). part_root sha256 log.pinned n (map any_spelling log.ops)) e ∙ (h.spans.root ∙ sym r);
  };
}

module _ (job : Job) (first later : Target) (n : NamesBoth job first later) where
  -- whatever is taken of the later targets, one of the two is synced
  one_of : (took left : List (Option Target)) → job.updates ≡ took ++ left → (synced : Target) → IsSynced first (last_of first (targets_in took)) synced → SpansLog synced four_log ⊎ SpansLog synced five_log
  one_of [] left all synced is = inl (spans_as first synced four_log is.start is.root is.end n.first_is)
  one_of (answer ∷ []) left all synced is =
      let both : Some later ∷ [] ≡ answer ∷ left = sym n.updates ∙ all in
      let one : answer ≡ Some later = cc in
      let so : IsSynced first later synced = subst (λ (o : Option Target). IsSynced first (last_of first (targets_in (o ∷ []))) synced) one is in
      inr (spans_as later synced five_log (so.start ∙ (n.first_is.start ∙ sym n.later_is.start)) so.root so.end n.later_is)
  one_of (answer ∷ other ∷ took) left all synced is =
      let both : Some later ∷ [] ≡ answer ∷ other ∷ (took ++ left) = sym n.updates ∙ all in
      absurd cc

  valid_of : (took left : List (Option Target)) → job.updates ≡ took ++ left → (synced : Target) → IsSynced first (last_of first (targets_in took)) synced → IsValid payments five_log synced job.blocks
  valid_of took left all synced is = subst (λ (bs : List (Block Payment)). IsValid payments five_log synced bs) (sym n.blocks) (valid_so synced _ _ _ (one_of took left all synced is))

  pub served_so : (service : Option Service) → OwesNothing (data_of any_spelling any_floor five_log) service → IsServing (data_of any_spelling any_floor five_log) job service
  served_so service owes = record {
    target = first;
    is_target = n.target;
    serves = serves_first first n.first_is;
    owes = owes;
    later = subst (λ (us : List (Option Target)). HasLater any_spelling five_log first (targets_in us)) (sym n.updates) (has_later first n.first_is later n.later_is);
    valid = valid_of;
  }

pub ends_so : (words : List (List ℕ)) (left : Option (List ℕ)) (read_before read_now dialed_before dialed_now : ℕ) (over : Over) (status : ℕ) → words ≡ codes "follow" ∷ codes "a" ∷ [] → OwesNothing (data_of any_spelling any_floor five_log) over.service
    → Completes (form_of words) left read_before read_now 0 0 dialed_before dialed_now over status
    → (job : Job) (first later : Target) → NamesBoth job first later
    → IfSome left (λ text. IsJob kinds.Follow text job → (Rose read_before read_now → ⊥) → (Rose dialed_before dialed_now → ⊥) → (Rose over.count over.count_now → ⊥) → (status ≡ 0) ⊎ (status ≡ 11))
ends_so words None rb rn db dn over status are owes completes job first later n = tt
ends_so words (Some text) rb rn db dn over status are owes completes job first later n = λ is reads dials faults.
    completes kinds.Follow (ap form_of are ∙ is_follow) (record { job = job; is_job = is; ready = (data_of any_spelling any_floor five_log, served_so job first later n over.service owes) }) reads no_rise (dials, faults)
