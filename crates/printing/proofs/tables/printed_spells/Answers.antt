use Rattle.diagram.specs.Terms.{model_of, letters_of}
use Rattle.printing.proofs.Lines.{lines_spell}
use Rattle.printing.proofs.tables.printed_spells.Goals as goal

pub returns : goal.returns
returns g c = λ K s L.
    let t = c.args.table.now in
    lines_spell (model_of t) (g.met.D.Domain.sound t.domain) (letters_of t) t.order.proper _ _ (K.reduced c.args.f.entry L.inside) L.lawful (s c.args.f.entry L.inside)
