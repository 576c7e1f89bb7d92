use Rattle.std.proofs.Common.{◌+◌, ◌≤◌, [], ◌∷◌, ◌++◌, length, codes, ap, sym, subst, ◌∙◌, arith, rules}
use Rattle.std.specs.Fmt.{signed_decimal}
use Rattle.diagram.specs.Printing.{Puts}
use Rattle.diagram.specs.Terms.{model_of, letters_of, entries_of, line_of, entry_text_of, times_text_of, plus_text_of}
use Rattle.diagram.proofs.Lining.{whole_is, text_one, text_some, times_told, plus_some}
use Rattle.diagram.proofs.Putting.{room_first, room_next, puts_then}
use Rattle.diagram.proofs.print.Table+D+Closed.+put.Goals as goal

pub put_entry-put-at-requires : goal.put_entry-put-at-requires
put_entry-put-at-requires g t c =
    let b = c.args.self.now in
    let w = whole_is (model_of b) (g.met.D.Domain.sound b.domain) (letters_of b) (entries_of b) b.store.falling c.args.n (omega (arith, c.requires.some)) c.requires.inside c.index-e.result.now c.index-e.ensures in
    omega (arith, c.requires.room, ap length w)

pub put_entry-put_times-at-requires : goal.put_entry-put_times-at-requires
put_entry-put_times-at-requires g t c κs within =
    let b = c.args.self.now in
    let e = c.index-e.result.now in
    let w = whole_is (model_of b) (g.met.D.Domain.sound b.domain) (letters_of b) (entries_of b) b.store.falling c.args.n (omega (arith, c.requires.some)) c.requires.inside e c.index-e.ensures in
    let r = room_next c.args.out.now c.put-at.new.out c.args.at c.put-at.result (c.letter.result ∷ []) (times_text_of b e.multiplicative ++ plus_text_of b e.additive)
    (omega (arith, c.requires.room, ap length w)) c.put-at.ensures in
    let room = room_first c.put-at.new.out c.put-at.new.out c.put-at.result c.put-at.result (times_text_of b e.multiplicative) (plus_text_of b e.additive) r in
    search rules

pub put_entry-put_plus-requires : goal.put_entry-put_plus-requires
put_entry-put_plus-requires g t c κs within =
    let b = c.args.self.now in
    let e = c.index-e.result.now in
    let w = whole_is (model_of b) (g.met.D.Domain.sound b.domain) (letters_of b) (entries_of b) b.store.falling c.args.n (omega (arith, c.requires.some)) c.requires.inside e c.index-e.ensures in
    let r = room_next c.args.out.now c.put-at.new.out c.args.at c.put-at.result (c.letter.result ∷ []) (times_text_of b e.multiplicative ++ plus_text_of b e.additive) (omega (arith, c.requires.room, ap length w)) c.put-at.ensures in
    let room = room_next c.put-at.new.out c.put_times-at.new.out c.put-at.result c.put_times-at.result (times_text_of b e.multiplicative) (plus_text_of b e.additive) r c.put_times-at.ensures in
    search rules

pub put_entry-returns : goal.put_entry-returns
put_entry-returns g t c =
    let b = c.args.self.now in
    let e = c.index-e.result.now in
    let w = whole_is (model_of b) (g.met.D.Domain.sound b.domain) (letters_of b) (entries_of b) b.store.falling c.args.n (omega (arith, c.requires.some)) c.requires.inside e c.index-e.ensures in
    let fits : c.args.at + length ((c.letter.result ∷ []) ++ (times_text_of b e.multiplicative ++ plus_text_of b e.additive)) ≤ length c.args.out.now = omega (arith, c.requires.room, ap length w) in
    let r = room_next c.args.out.now c.put-at.new.out c.args.at c.put-at.result (c.letter.result ∷ []) (times_text_of b e.multiplicative ++ plus_text_of b e.additive) fits c.put-at.ensures in
    let d = c.put_plus.new.out in
    let q = c.put_plus.result in
    let rest = puts_then c.put-at.new.out c.put_times-at.new.out c.put-at.result c.put_times-at.result (times_text_of b e.multiplicative) (plus_text_of b e.additive) r c.put_times-at.ensures d q c.put_plus.ensures in
    subst (λ s. Puts c.args.out.now d c.args.at s q) (ap (λ x. x ∷ (times_text_of b e.multiplicative ++ plus_text_of b e.additive)) c.letter.ensures ∙ sym w)
    (puts_then c.args.out.now c.put-at.new.out c.args.at c.put-at.result (c.letter.result ∷ []) (times_text_of b e.multiplicative ++ plus_text_of b e.additive) fits c.put-at.ensures d q rest)

pub put_plus-returns : goal.put_plus-returns
put_plus-returns g t c =
    let b = c.args.self.now in
    let p = plus_some (model_of b) (g.met.D.Domain.sound b.domain) (letters_of b) (entries_of b) b.store.falling c.args.edge c.requires.inside c.requires.coded (sym c.is_zero.ensures ∙ c.if-is_zero.false) in
    subst (λ s. Puts c.args.out.now c.put_reference.new.out c.args.at s c.put_reference.result) (sym p)
    (puts_then c.args.out.now c.put-at.new.out c.args.at c.put-at.result (codes "+") (line_of b (record { weight = c.args.edge.weight; entry = c.args.edge.target }))
    (omega (arith, c.requires.room, ap length p)) c.put-at.ensures c.put_reference.new.out c.put_reference.result c.put_reference.ensures)

pub put_reference-returns-then-eq : goal.put_reference-returns-then-eq
put_reference-returns-then-eq g t c =
    let b = c.args.self.now in
    let e = text_one (model_of b) (g.met.D.Domain.sound b.domain) (letters_of b) (entries_of b) b.store.falling c.args.f.entry c.if-f-eq0.false c.requires.inside c.args.f.weight c.requires.coded (sym c.eq.ensures ∙ c.if-eq.true) in
    subst (λ s. Puts c.args.out.now c.put_entry.new.out c.args.at s c.put_entry.result) (sym e) c.put_entry.ensures

pub put_reference-put-at-requires : goal.put_reference-put-at-requires
put_reference-put-at-requires g t c =
    let b = c.args.self.now in
    let e = text_some (model_of b) (g.met.D.Domain.sound b.domain) (letters_of b) (entries_of b) b.store.falling c.args.f.entry c.if-f-eq0.false c.requires.inside c.args.f.weight c.requires.coded (sym c.eq.ensures ∙ c.if-eq.false) in
    let r = room_next c.args.out.now c.put_number-at.new.out c.args.at c.put_number-at.result (signed_decimal c.args.f.weight.int) (codes "*(" ++ ((entry_text_of b c.args.f.entry) ++ codes ")")) (omega (arith, c.requires.room, ap length e)) c.put_number-at.ensures in
    room_first c.put_number-at.new.out c.put_number-at.new.out c.put_number-at.result c.put_number-at.result (codes "*(") ((entry_text_of b c.args.f.entry) ++ codes ")") r

pub put_reference-put_entry-at-requires : goal.put_reference-put_entry-at-requires
put_reference-put_entry-at-requires g t c κs within =
    let b = c.args.self.now in
    let e = text_some (model_of b) (g.met.D.Domain.sound b.domain) (letters_of b) (entries_of b) b.store.falling c.args.f.entry c.if-f-eq0.false c.requires.inside c.args.f.weight c.requires.coded (sym c.eq.ensures ∙ c.if-eq.false) in
    let r = room_next c.args.out.now c.put_number-at.new.out c.args.at c.put_number-at.result (signed_decimal c.args.f.weight.int) (codes "*(" ++ ((entry_text_of b c.args.f.entry) ++ codes ")")) (omega (arith, c.requires.room, ap length e)) c.put_number-at.ensures in
    let u = room_next c.put_number-at.new.out c.put-at.new.out c.put_number-at.result c.put-at.result (codes "*(") ((entry_text_of b c.args.f.entry) ++ codes ")") r c.put-at.ensures in
    let room = room_first c.put-at.new.out c.put-at.new.out c.put-at.result c.put-at.result (entry_text_of b c.args.f.entry) (codes ")") u in
    search rules

pub put_reference-put-requires : goal.put_reference-put-requires
put_reference-put-requires g t c =
    let b = c.args.self.now in
    let e = text_some (model_of b) (g.met.D.Domain.sound b.domain) (letters_of b) (entries_of b) b.store.falling c.args.f.entry c.if-f-eq0.false c.requires.inside c.args.f.weight c.requires.coded (sym c.eq.ensures ∙ c.if-eq.false) in
    let r = room_next c.args.out.now c.put_number-at.new.out c.args.at c.put_number-at.result (signed_decimal c.args.f.weight.int) (codes "*(" ++ ((entry_text_of b c.args.f.entry) ++ codes ")")) (omega (arith, c.requires.room, ap length e)) c.put_number-at.ensures in
    let u = room_next c.put_number-at.new.out c.put-at.new.out c.put_number-at.result c.put-at.result (codes "*(") ((entry_text_of b c.args.f.entry) ++ codes ")") r c.put-at.ensures in
    room_next c.put-at.new.out c.put_entry-at.new.out c.put-at.result c.put_entry-at.result (entry_text_of b c.args.f.entry) (codes ")") u c.put_entry-at.ensures

pub put_reference-returns : goal.put_reference-returns
put_reference-returns g t c =
    let b = c.args.self.now in
    let e = text_some (model_of b) (g.met.D.Domain.sound b.domain) (letters_of b) (entries_of b) b.store.falling c.args.f.entry c.if-f-eq0.false c.requires.inside c.args.f.weight c.requires.coded (sym c.eq.ensures ∙ c.if-eq.false) in
    let fits : c.args.at + length ((signed_decimal c.args.f.weight.int) ++ (codes "*(" ++ ((entry_text_of b c.args.f.entry) ++ codes ")"))) ≤ length c.args.out.now = omega (arith, c.requires.room, ap length e) in
    let r = room_next c.args.out.now c.put_number-at.new.out c.args.at c.put_number-at.result (signed_decimal c.args.f.weight.int) (codes "*(" ++ ((entry_text_of b c.args.f.entry) ++ codes ")")) fits c.put_number-at.ensures in
    let u = room_next c.put_number-at.new.out c.put-at.new.out c.put_number-at.result c.put-at.result (codes "*(") ((entry_text_of b c.args.f.entry) ++ codes ")") r c.put-at.ensures in
    let d = c.put.new.out in
    let q = c.put.result in
    let last = puts_then c.put-at.new.out c.put_entry-at.new.out c.put-at.result c.put_entry-at.result (entry_text_of b c.args.f.entry) (codes ")") u c.put_entry-at.ensures d q c.put.ensures in
    let next = puts_then c.put_number-at.new.out c.put-at.new.out c.put_number-at.result c.put-at.result (codes "*(") ((entry_text_of b c.args.f.entry) ++ codes ")") r c.put-at.ensures d q last in
    subst (λ s. Puts c.args.out.now d c.args.at s q) (sym e)
    (puts_then c.args.out.now c.put_number-at.new.out c.args.at c.put_number-at.result (signed_decimal c.args.f.weight.int) (codes "*(" ++ ((entry_text_of b c.args.f.entry) ++ codes ")")) fits c.put_number-at.ensures d q next)

pub put_times-put-at-requires : goal.put_times-put-at-requires
put_times-put-at-requires g t c =
    let b = c.args.self.now in
    let e = times_told (model_of b) (g.met.D.Domain.sound b.domain) (letters_of b) (entries_of b) b.store.falling c.args.edge c.requires.inside c.requires.coded c.eq.result c.eq.ensures c.else-eq.either in
    room_first c.args.out.now c.args.out.now c.args.at c.args.at (codes "*(") ((line_of b (record { weight = c.args.edge.weight; entry = c.args.edge.target })) ++ codes ")") (omega (arith, c.requires.room, ap length e))

pub put_times-put_reference-at-requires : goal.put_times-put_reference-at-requires
put_times-put_reference-at-requires g t c κs within =
    let b = c.args.self.now in
    let e = times_told (model_of b) (g.met.D.Domain.sound b.domain) (letters_of b) (entries_of b) b.store.falling c.args.edge c.requires.inside c.requires.coded c.eq.result c.eq.ensures c.else-eq.either in
    let r = room_next c.args.out.now c.put-at.new.out c.args.at c.put-at.result (codes "*(") ((line_of b (record { weight = c.args.edge.weight; entry = c.args.edge.target })) ++ codes ")") (omega (arith, c.requires.room, ap length e)) c.put-at.ensures in
    let room = room_first c.put-at.new.out c.put-at.new.out c.put-at.result c.put-at.result (line_of b (record { weight = c.args.edge.weight; entry = c.args.edge.target })) (codes ")") r in
    search rules

pub put_times-put-requires : goal.put_times-put-requires
put_times-put-requires g t c =
    let b = c.args.self.now in
    let e = times_told (model_of b) (g.met.D.Domain.sound b.domain) (letters_of b) (entries_of b) b.store.falling c.args.edge c.requires.inside c.requires.coded c.eq.result c.eq.ensures c.else-eq.either in
    let r = room_next c.args.out.now c.put-at.new.out c.args.at c.put-at.result (codes "*(") ((line_of b (record { weight = c.args.edge.weight; entry = c.args.edge.target })) ++ codes ")") (omega (arith, c.requires.room, ap length e)) c.put-at.ensures in
    room_next c.put-at.new.out c.put_reference-at.new.out c.put-at.result c.put_reference-at.result (line_of b (record { weight = c.args.edge.weight; entry = c.args.edge.target })) (codes ")") r c.put_reference-at.ensures

pub put_times-returns : goal.put_times-returns
put_times-returns g t c =
    let b = c.args.self.now in
    let e = times_told (model_of b) (g.met.D.Domain.sound b.domain) (letters_of b) (entries_of b) b.store.falling c.args.edge c.requires.inside c.requires.coded c.eq.result c.eq.ensures c.else-eq.either in
    let fits : c.args.at + length (codes "*(" ++ ((line_of b (record { weight = c.args.edge.weight; entry = c.args.edge.target })) ++ codes ")")) ≤ length c.args.out.now = omega (arith, c.requires.room, ap length e) in
    let r = room_next c.args.out.now c.put-at.new.out c.args.at c.put-at.result (codes "*(") ((line_of b (record { weight = c.args.edge.weight; entry = c.args.edge.target })) ++ codes ")") fits c.put-at.ensures in
    let d = c.put.new.out in
    let q = c.put.result in
    let last = puts_then c.put-at.new.out c.put_reference-at.new.out c.put-at.result c.put_reference-at.result (line_of b (record { weight = c.args.edge.weight; entry = c.args.edge.target })) (codes ")") r c.put_reference-at.ensures d q c.put.ensures in
    subst (λ s. Puts c.args.out.now d c.args.at s q) (sym e)
    (puts_then c.args.out.now c.put-at.new.out c.args.at c.put-at.result (codes "*(") ((line_of b (record { weight = c.args.edge.weight; entry = c.args.edge.target })) ++ codes ")") fits c.put-at.ensures d q last)
