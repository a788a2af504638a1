-- Adding m bits to the byte being filled is inking them. Assumes nothing.
use Rattle.bit_writer.proofs.BitLoops.{appended-below, put-few, put_byte}
use Rattle.bit_writer.proofs.BitWriter.put.Goals as goal

pub returns-then-held-m-lt8-clause-written : goal.returns-then-held-m-lt8-clause-written
returns-then-held-m-lt8-clause-written c = put-few _ _ _ c.requires.0 c.requires.3 c.requires.4 _ c.requires.1 c.if-held-m-lt8.true

pub overflow_cast-self : goal.overflow_cast-self
overflow_cast-self c = record { fits = appended-below c.args.self.now.pen _ _ c.requires.0 c.requires.3 c.requires.4 }

pub returns-else-held-m-lt8-clause-written : goal.returns-else-held-m-lt8-clause-written
returns-else-held-m-lt8-clause-written c = put_byte _ _ _ c.requires.0 c.requires.3 c.requires.4 _ c.requires.1 c.requires.2 c.if-held-m-lt8.false
