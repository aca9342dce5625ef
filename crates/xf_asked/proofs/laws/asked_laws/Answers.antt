use Rattle.xf_asked.proofs.AskedLaws.{policy_asks, policy_under, policy_index, state_asks, state_suits}
use Rattle.xf_asked.proofs.laws.asked_laws.Goals as goal

pub returns-clause-applies : goal.returns-clause-applies
returns-clause-applies c = policy_asks

pub returns-clause-under : goal.returns-clause-under
returns-clause-under c = policy_under

pub returns-clause-index : goal.returns-clause-index
returns-clause-index c = policy_index

pub returns-clause-id : goal.returns-clause-id
returns-clause-id c = state_asks

pub returns-clause-suits : goal.returns-clause-suits
returns-clause-suits c = state_suits
