use Rattle.std.proofs.Common.{◌≡◌, ◌+◌, ◌-◌, length, min, sym, ap, ap₂, subst, ◌∙◌, le_trans, arith, length-append}
use Rattle.diagram.specs.Places.{Lower}
use Rattle.diagram.specs.Printing.{clipped}
use Rattle.diagram.specs.Terms.{model_of, letters_of, entries_of, entry_text_of, times_text_of, plus_text_of}
use Rattle.diagram.proofs.Lining.{whole_is}
use Rattle.diagram.proofs.Stopping.{stop_sum, stop_add}
use Rattle.diagram.proofs.length.Table+D+Closed.entry_length.Goals as goal

pub returns : goal.returns
returns g c = λ m.
    let b = c.args.self.now in
    let e = c.index-e.result.now in
    let w = whole_is (model_of b) (g.met.D.Domain.sound b.domain) (letters_of b) (entries_of b) b.store.falling c.args.n (omega (arith, c.requires.some)) c.requires.inside e c.index-e.ensures in
    let x = times_text_of b e.multiplicative in
    let y = plus_text_of b e.additive in
    let long : length x + length y + 1 ≡ length (entry_text_of b c.args.n) = omega (arith, ap length w, length-append x y) in
    let low : Lower (c.args.n - 1) e = subst (Lower (c.args.n - 1)) (sym c.index-e.ensures) (b.store.falling (c.args.n - 1) e (omega (arith, c.requires.some, c.requires.inside))) in
    let times = c.times_length-times.ensures (λ j s l. m j s (le_trans l low.1)) in
    let plus = c.plus_length-plus.ensures (λ j s l. m j s (le_trans l low.0)) in
    c.saturating_add-2.ensures
    ∙ (ap (λ k. min (k + 1) 18446744073709551615) (c.saturating_add.ensures ∙ (ap₂ (λ j k. min (j + k) 18446744073709551615) times plus ∙ stop_sum 18446744073709551615 (length x) (length y)))
    ∙ (stop_add 18446744073709551615 (length x + length y) 1 ∙ ap clipped long))
