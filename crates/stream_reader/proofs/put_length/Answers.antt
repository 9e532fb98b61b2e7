-- 1, 2 or 4. Assumes nothing.
use Rattle.stream_reader.proofs.put_length.Goals as goal

pub returns-in-One : goal.returns-in-One
returns-in-One c = rw c.in-One.is c.put_number.ensures

pub returns-in-Two : goal.returns-in-Two
returns-in-Two c = rw c.in-Two.is c.put_number-in-Two.ensures

pub returns-in-Four : goal.returns-in-Four
returns-in-Four c = rw c.in-Four.is c.put_number-in-Four.ensures
