use Rattle.daa_words.proofs.TakenWords.{taken_words_ask}
use Rattle.daa_words.proofs.WordsLemmas.{taken_by_order}
use Rattle.daa_words.proofs.laws.taken_words_give_an_order.Goals as goal

pub returns : goal.returns
returns c = record { order = taken_words_ask; only = taken_by_order }
