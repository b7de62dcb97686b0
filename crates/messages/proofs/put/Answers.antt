use Rattle.messages.proofs.Laying.{further-one}
use Rattle.messages.proofs.put.Goals as goal

pub returns : goal.returns
returns c = further-one c.put_byte.ensures c.put_byte-2.ensures c.put_value.ensures
