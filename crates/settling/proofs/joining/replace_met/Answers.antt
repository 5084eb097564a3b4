-- Where the word is not there, replacing it changes nothing; else it is replaced. Assumes nothing.
use mathlib.Core.Path.{◌∙◌, sym, ap}
use Rattle.octets.specs.Regions.{elem}
use Rattle.octets.specs.Words.{words}
use Rattle.settling.proofs.JoinOne.{not_met}
use Rattle.settling.proofs.joining.replace_met.Goals as goal

pub returns-else-among : goal.returns-else-among
returns-else-among c =
    let a = c.args in
    not_met (words a.s.now) a.p a.n a.r.old a.r.new c.requires (sym (c.among.ensures ∙ ap (elem a.r.old) c.part.ensures) ∙ c.if-among.false)
