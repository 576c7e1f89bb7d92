use Rattle.std.proofs.Common.{◌≡◌, suc, ◌+◌, ◌-◌, ◌∷◌, sym, ap, ◌∙◌, arith}
use Rattle.std.proofs.lemmas.Grind.{common_steps}
use Rattle.listing.specs.Listing.{taken, taken_from}
use Rattle.listing.proofs.records.RecordsIterator.next.Goals as goal

pub returns-clause-steps : goal.returns-clause-steps
returns-clause-steps c =
    let s = c.args.self.now in
    let t = c.next.new.self in
    let flow = s.flow.now in
    let here : c.in_ok-place.place ≡ s.places.start = grind (arith, common_steps) in
    let next : s.places.start + 1 ≡ t.start = grind (arith, common_steps) in
    let record_here : c.record_at.result ≡ taken flow c.in_ok-place.place = assumption (c.record_at.ensures) in
    let more : s.places.end - s.places.start ≡ suc (t.end - t.start) = grind (arith, common_steps) in
    ap (λ n. taken_from n flow s.places.start) more
    ∙ (λ i. (ap (taken flow) (sym here) ∙ sym record_here) i ∷ taken_from (t.end - t.start) flow (next i))
