use Rattle.std.proofs.Common.{◌≡◌, ◌+◌, length, min, codes, ap, ◌∙◌, arith, length-append}
use Rattle.diagram.specs.Printing.{clipped}
use Rattle.diagram.specs.Terms.{model_of, letters_of, entries_of, line_of, times_text_of}
use Rattle.diagram.proofs.Lining.{times_told}
use Rattle.diagram.proofs.Stopping.{stop_add}
use Rattle.diagram.proofs.length.Table+D+Closed.times_length.Goals as goal

pub returns : goal.returns
returns g c = λ m.
    let b = c.args.self.now in
    let a = c.args.edge in
    let e = times_told (model_of b) (g.met.D.Domain.sound b.domain) (letters_of b) (entries_of b) b.store.falling a c.requires.inside c.requires.coded c.eq.result c.eq.ensures c.else-eq.either in
    let l = line_of b (record { weight = a.weight; entry = a.target }) in
    let long : length l + 3 ≡ length (times_text_of b a) = omega (arith, ap length e, length-append l (codes ")")) in
    c.saturating_add.ensures
    ∙ (ap (λ k. min (k + 3) 18446744073709551615) (c.reference_length.ensures m) ∙ (stop_add 18446744073709551615 (length l) 3 ∙ ap clipped long))
