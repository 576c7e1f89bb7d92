use Rattle.diagram.specs.Terms.{model_of, letters_of, entries_of}
use Rattle.printing.proofs.Alike.{told}
use Rattle.printing.proofs.tables.printed_tells.Goals as goal

pub returns : goal.returns
returns g c = λ A K K' s s' L L'.
    let t = c.args.table.now in
    let u = c.args.other.now in
    told (model_of t) (g.met.D.Domain.sound t.domain) (letters_of t) t.order.proper (entries_of t) (entries_of u) c.args.f c.args.g K s L (model_of u) (letters_of u) A.domain A.order K' s' L'
