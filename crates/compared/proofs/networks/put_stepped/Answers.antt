use Rattle.compared.proofs.{Stepping.network-then}
use Rattle.compared.specs.Stepping.{stepped_bytes}
use Rattle.compared.proofs.networks.put_stepped.Goals as goal

pub returns : goal.returns
unfolding stepped_bytes
returns c = network-then _ _ _ _ _ c.network_into.ensures c.put_answer.ensures
