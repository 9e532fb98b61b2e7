-- By the outcome, the number that it raises. Assumes nothing.
use Rattle.tally.proofs.raised.Goals as goal

pub returns-in-Passed : goal.returns-in-Passed
returns-in-Passed c = rw (c.in-Passed.is, c.one_more.ensures)

pub returns-in-Empty : goal.returns-in-Empty
returns-in-Empty c = rw (c.in-Empty.is, c.one_more-in-Empty.ensures)

pub returns-in-Refused : goal.returns-in-Refused
returns-in-Refused c = rw (c.in-Refused.is, c.one_more-in-Refused.ensures)
