-- What a builder builds.
use Rattle.ledger_simulate.specs.Plans.{first_or}
use Rattle.ledger_simulate.specs.declared.plan.Plan.{Plan}
use Rattle.ledger_simulate.specs.declared.plan.PlanBuilder.{PlanBuilder}

-- the plan of a builder, under the first of its seeds
abbrev pub plan_of : {D E S I J K : Type 0} {P : I → Type 0} {Q : J → Type 0} {R : K → Type 0} → PlanBuilder D E S I J K P Q R → Plan D E S I J K P Q R
plan_of b = record {
  seed = first_or b.seeds 0;
  participants = b.setting.participants;
  link = b.link;
  engine = b.engine;
  crashes = b.setting.crashes;
  required_finalizations = b.required_finalizations;
  exit_condition = b.exit_condition;
  timeout = b.timeout;
  storage_fault = b.storage_fault;
  finalization_property = b.finalization_property;
  property = b.property;
  max_events = b.max_events;
}
