-- 4, then 11, then the sample of a track. Assumes nothing.
use mathlib.Core.Path.{sym, ◌∙◌}
use Rattle.words.proofs.Buffers.{refuse_all}
use Rattle.salvage.proofs.Answers.{alone_kind, alone_size, alone_known}
use Rattle.salvage.proofs.salvage_sample.Goals as goal

pub returns-in-None : goal.returns-in-None
returns-in-None c = rw c.at.ensures (refuse_all (alone_kind _ _ _ _ _ (sym c.from_number-known_kind.ensures ∙ c.in-None.is)))

pub returns-in-None-known_size : goal.returns-in-None-known_size
returns-in-None-known_size c = rw c.at-in-None-known_size.ensures (refuse_all (alone_size _ _ _ _ _ (sym c.from_number-known_kind.ensures ∙ c.in-Some.is) (sym c.from_number-known_size.ensures ∙ c.in-None-known_size.is)))

pub returns-in-Some-known_size : goal.returns-in-Some-known_size
returns-in-Some-known_size c = rw (alone_known _ _ _ _ _ (sym c.from_number-known_kind.ensures ∙ c.in-Some.is) (sym c.from_number-known_size.ensures ∙ c.in-Some-known_size.is)) c.salvage_of.ensures
