-- The four bytes, by their places, are the word. Assumes nothing.
use Rattle.octets.proofs.Words.{bytes_within, get_d_words}
use borrow.Author.Rules.{rules}
use Rattle.octets.proofs.get.Goals as goal

pub returns : goal.returns
returns c = let h = bytes_within _ _ c.requires in record { is = rw get_d_words (cc); fits = search rules }
