use Rattle.schedule.specs.Records.{reading}
use Rattle.schedule.proofs.Laws.{accepted-within}
use Rattle.reader.specs.Records.{used}
use Rattle.reader.proofs.Steps.{read-within}
use Rattle.reader.proofs.records.TakenItem.read.Goals as goal

pub returns-clause-within : goal.returns-clause-within
returns-clause-within c = read-within reading used accepted-within c.args.schedule.now c.args.at c.read_record.result c.read_record.ensures
