use borrow.Author.Rules.{rules}
use Rattle.wire.proofs.Laws.{accepted-within}
use Rattle.reader.specs.Messages.{reading_at, used}
use Rattle.reader.proofs.{Behind.{behind}, Steps.{read-within}}
use Rattle.reader.proofs.wire_messages.TakenItem.read.Goals as goal

pub returns-clause-within : goal.returns-clause-within
returns-clause-within c = read-within reading_at used accepted-within c.args.bytes.now c.args.at c.read_message.result (search (behind, rules))
