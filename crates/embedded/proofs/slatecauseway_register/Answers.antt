-- What the board shows, as a word or none. Assumes nothing.
use Rattle.embedded.proofs.Hands.{some_word, no_word}
use Rattle.embedded.proofs.slatecauseway_register.Goals as goal

pub returns-in-Some : goal.returns-in-Some
returns-in-Some c = some_word c.register.ensures c.in-Some.is

pub returns-in-None : goal.returns-in-None
returns-in-None c = no_word c.register.ensures c.in-None.is
