use Rattle.laws_network.specs.SizeLaws.{short_message_writable}
use Rattle.laws_network.proofs.sizes.short_messages_are_written.Goals as goal

pub returns-clause-writable : goal.returns-clause-writable
returns-clause-writable c = short_message_writable

pub returns-clause-written : goal.returns-clause-written
returns-clause-written c m h = c.encoded_exactly.ensures.written m (short_message_writable m h)
