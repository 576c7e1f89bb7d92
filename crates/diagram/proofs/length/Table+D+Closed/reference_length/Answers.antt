use Rattle.std.proofs.Common.{◌≡◌, ◌+◌, ◌++◌, length, min, codes, sym, ap, ◌∙◌, arith, length-append}
use Rattle.std.specs.Fmt.{signed_decimal}
use Rattle.diagram.specs.Printing.{clipped}
use Rattle.diagram.specs.Terms.{model_of, letters_of, entries_of, line_of, entry_text_of}
use Rattle.diagram.proofs.Lining.{text_one, text_some}
use Rattle.diagram.proofs.Stopping.{stop_add}
use Rattle.diagram.proofs.length.Table+D+Closed.reference_length.Goals as goal

pub returns-then-eq : goal.returns-then-eq
returns-then-eq g c = λ m.
    let b = c.args.self.now in
    let e = text_one (model_of b) (g.met.D.Domain.sound b.domain) (letters_of b) (entries_of b) b.store.falling c.args.f.entry c.if-f-eq0.false c.requires.inside c.args.f.weight c.requires.coded (sym c.eq.ensures ∙ c.if-eq.true) in
    m c.args.f.entry (omega (arith, c.if-f-eq0.false)) (omega arith) ∙ sym (ap (λ s. clipped (length s)) e)

pub returns : goal.returns
returns g c = λ m.
    let b = c.args.self.now in
    let e = text_some (model_of b) (g.met.D.Domain.sound b.domain) (letters_of b) (entries_of b) b.store.falling c.args.f.entry c.if-f-eq0.false c.requires.inside c.args.f.weight c.requires.coded (sym c.eq.ensures ∙ c.if-eq.false) in
    let w = entry_text_of b c.args.f.entry in
    let d = signed_decimal c.args.f.weight.int in
    let long : length w + (c.digits-2.result + 3) ≡ length (line_of b c.args.f) =
    omega (arith, c.digits-2.ensures.value, ap length e, length-append d (codes "*(" ++ (w ++ codes ")")), length-append w (codes ")")) in
    c.saturating_add.ensures
    ∙ (ap (λ k. min (k + (c.digits-2.result + 3)) 18446744073709551615) (m c.args.f.entry (omega (arith, c.if-f-eq0.false)) (omega arith))
    ∙ (stop_add 18446744073709551615 (length w) (c.digits-2.result + 3) ∙ ap clipped long))
